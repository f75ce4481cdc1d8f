use Rattle.std.proofs.Common.{◌+◌, ◌-◌, length, take, drop, ap, ◌∙◌}
use Rattle.std.proofs.lemmas.List.{take_rest}
use Rattle.std.proofs.lemmas.Result.{err_from_is_err_and}
use Rattle.counts.specs.Counting.{asked}
use Rattle.schedules.specs.Schedule.{scheduled}
use Rattle.register.specs.Runs.{fresh_view}
use Rattle.register.specs.Views.{view_of}
use Rattle.report.specs.Deals.{numbered, deal_at, scheduled_deal}
use Rattle.report.specs.Parts.{holding_in, call_in, leading}
use Rattle.report.specs.Reports.{played_lines, front_lines, front_view}
use Rattle.report.proofs.Whole.{front_is, played_is, first_stops, both_laid}
use Rattle.report.proofs.deal_text.DealText.lay_by.Goals as goal

pub returns-in_err-lay_front : goal.returns-in_err-lay_front
returns-in_err-lay_front g c =
    let self = c.args.self.now in
    let terms = self.terms.now in
    let behind = self.behind.now in
    let count = asked (g.D.DayCount.counted c.args.basis) in
    let per = g.D.DayCount.per in
    let s = scheduled (g.S.ClosedDays.closed c.args.set.now) (scheduled_deal terms) 481 in
    let held = leading holding_in behind in
    let front =
    front_is count (asked (g.D.DayCount.counted c.new-register.result.basis)) per (view_of c.new-register.result)
    terms.rate.value held c.copy_holdings-holdings.result.now self.number s
    (ap (λ b. asked (g.D.DayCount.counted b)) c.new-register.ensures.basis) c.new-register.ensures.view
    c.copy_holdings-holdings.ensures.copied
    in
    let deal = deal_at self.number terms behind in
    let p = err_from_is_err_and c.from_residual.result c.from_residual.ensures.1 in
    rw (p.1, p.2)
    (first_stops (front_lines count per fresh_view terms.rate.value held self.number s)
    (played_lines count per (front_view count per fresh_view terms.rate.value held s) deal.calls) _ c.args.page.now
    c.lay_front.new.page c.in_err-lay_front.field-0.0 front.0 c.in_err-lay_front.ensures.laid)

pub returns : goal.returns
returns g c =
    let self = c.args.self.now in
    let terms = self.terms.now in
    let behind = self.behind.now in
    let count = asked (g.D.DayCount.counted c.args.basis) in
    let per = g.D.DayCount.per in
    let s = scheduled (g.S.ClosedDays.closed c.args.set.now) (scheduled_deal terms) 481 in
    let held = leading holding_in behind in
    let n = length c.copy_holdings-holdings.result.now in
    let basis = ap (λ b. asked (g.D.DayCount.counted b)) c.new-register.ensures.basis in
    let copied = c.copy_holdings-holdings.ensures.copied in
    let front =
    front_is count (asked (g.D.DayCount.counted c.new-register.result.basis)) per (view_of c.new-register.result)
    terms.rate.value held c.copy_holdings-holdings.result.now self.number s basis c.new-register.ensures.view copied
    in
    let v = front_view count per fresh_view terms.rate.value held s in
    let count_is = ap length copied in
    let played =
    played_is count (asked (g.D.DayCount.counted c.lay_front.new.register.basis)) per v
    (view_of c.lay_front.new.register) (self.number + 1 + length held) (self.number + 1 + n)
    (leading call_in (drop (length held) behind)) (leading call_in (take (length behind - n) (drop n behind)))
    (ap (λ b. asked (g.D.DayCount.counted b)) c.lay_front.ensures.basis ∙ basis)
    (c.in_ok-lay_front.ensures.left ∙ front.1) (ap (λ k. self.number + 1 + k) count_is)
    (ap (leading call_in) (take_rest behind n ∙ ap (λ k. drop k behind) count_is))
    in
    both_laid (front_lines count per fresh_view terms.rate.value held self.number s)
    (played_lines count per v (numbered (self.number + 1 + length held) (leading call_in (drop (length held) behind)))) _ _
    c.args.page.now c.lay_front.new.page c.lay_played.new.page c.lay_played.result
    front.0 played c.in_ok-lay_front.ensures.laid c.lay_played.ensures
