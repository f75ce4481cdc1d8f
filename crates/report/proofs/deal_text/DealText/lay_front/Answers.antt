use Rattle.std.proofs.Common.{ℕ, take, replicate, sym, refl, ap, ◌∙◌}
use Rattle.std.proofs.lemmas.Result.{err_from_is_err_and}
use Rattle.counts.specs.Counting.{asked}
use Rattle.schedules.specs.Schedule.{scheduled}
use Rattle.register.specs.Views.{view_of}
use Rattle.days.specs.Refusals.{told}
use Rattle.report.specs.Deals.{scheduled_deal}
use Rattle.report.specs.Reports.{front_view}
use Rattle.report.proofs.Fronts.{schedule_here, refused_here, front_stops, front_opens, front_refused, whatever}
use Rattle.report.proofs.deal_text.DealText.lay_front.Goals as goal

pub returns-in_err-lay_dates-in-Ok-clause-laid : goal.returns-in_err-lay_dates-in-Ok-clause-laid
returns-in_err-lay_dates-in-Ok-clause-laid g c =
    let closed = g.S.ClosedDays.closed c.args.set.now in
    let terms = c.args.self.now.terms.now in
    let after = c.schedule.new.table in
    let is =
    schedule_here closed c.deal_of.result (scheduled_deal terms) (replicate {A = ℕ} 481 0) after c.in-Ok.count
    c.deal_of.ensures refl c.in-Ok.ensures.rule
    in
    let p = err_from_is_err_and c.from_residual.result c.from_residual.ensures.1 in
    rw (p.1, p.2)
    (front_stops (asked (g.D.DayCount.counted c.args.register.now.basis)) g.D.DayCount.per
    (view_of c.args.register.now) terms.rate.value c.args.holdings.now c.args.self.now.number
    (scheduled closed (scheduled_deal terms) 481) c.args.page.now c.lay_dates.new.self (take c.in-Ok.count after)
    _ is c.in_err-lay_dates-in-Ok.ensures)

pub returns-in_ok-lay_dates-in-Ok : goal.returns-in_ok-lay_dates-in-Ok
returns-in_ok-lay_dates-in-Ok g c =
    let closed = g.S.ClosedDays.closed c.args.set.now in
    let terms = c.args.self.now.terms.now in
    let after = c.schedule.new.table in
    let count = asked (g.D.DayCount.counted c.args.register.now.basis) in
    let is =
    schedule_here closed c.deal_of.result (scheduled_deal terms) (replicate {A = ℕ} 481 0) after c.in-Ok.count
    c.deal_of.ensures refl c.in-Ok.ensures.rule
    in
    record {
      basis = c.lay_opening.ensures.basis;
      laid =
          front_opens count g.D.DayCount.per (view_of c.args.register.now) terms.rate.value c.args.holdings.now
          c.args.self.now.number (scheduled closed (scheduled_deal terms) 481) c.args.page.now c.lay_opening.new.page (take c.in-Ok.count after)
          c.lay_dates.new.self c.lay_opening.result is
          c.in_ok-lay_dates-in-Ok.ensures c.lay_opening.ensures.laid;
      left =
          whatever c.lay_opening.result
          (c.lay_opening.ensures.left
          ∙ sym (ap (front_view count g.D.DayCount.per (view_of c.args.register.now) terms.rate.value c.args.holdings.now) is));
    }

pub returns-in-Err-clause-laid : goal.returns-in-Err-clause-laid
returns-in-Err-clause-laid g c =
    let closed = g.S.ClosedDays.closed c.args.set.now in
    let terms = c.args.self.now.terms.now in
    let count = asked (g.D.DayCount.counted c.args.register.now.basis) in
    let v = view_of c.args.register.now in
    let is =
    refused_here closed c.deal_of.result (scheduled_deal terms) (replicate {A = ℕ} 481 0) c.schedule.new.table
    c.in-Err.refusal c.deal_of.ensures refl c.in-Err.ensures.rule
    in
    front_refused count g.D.DayCount.per v terms.rate.value c.args.holdings.now c.args.self.now.number
    (scheduled closed (scheduled_deal terms) 481) c.args.page.now c.lay.new.self (told c.in-Err.refusal) c.refused_draft.result
    c.lay.result is c.refused_draft.ensures c.lay.ensures
