use Rattle.std.proofs.Common.{◌+◌, ◌<◌, length, take, ap, ◌∙◌, arith}
use Rattle.std.proofs.lemmas.List.{take_rest}
use Rattle.report.specs.Deals.{starts_of}
use Rattle.report.proofs.Reporting.{deal_there, deal_stands, deal_reported, laid_within}
use Rattle.report.proofs.ledger.Ledger.lay_deal_report.Goals as goal

pub unreachable-requires : goal.unreachable-requires
unreachable-requires c =
    let self = c.args.self.now in
    let less : c.args.deal < length (starts_of self.lines.now) = omega (arith, ap length self.places) in
    deal_stands self.lines.now c.args.deal c.place_of-at.result less c.place_of-at.ensures.place c.in_default.not-Deal

pub returns : goal.returns
returns c =
    let self = c.args.self.now in
    let lines = self.lines.now in
    let at = c.place_of-at.result in
    let k = c.args.deal in
    let less : k < length (starts_of lines) = omega (arith, ap length self.places) in
    let set = c.set.result in
    record {
      reported =
          deal_reported lines k at c.in-Deal.terms (take set.first.count set.first.offsets) set.second.first.days.now
          set.second.second.mask _ c.args.out.now c.report.result c.report.new.out
          (ap (λ e. take e.count e.offsets) c.set.ensures.easter ∙ self.offsets) (c.set.ensures.days ∙ self.days)
          (ap (λ p. p.mask) c.set.ensures.pattern ∙ self.pattern) (take_rest lines (at + 1))
          (deal_there lines k at c.in-Deal.terms less c.place_of-at.ensures.place c.in-Deal.is) c.report.ensures;
      within = laid_within _ c.args.out.now c.report.result c.report.new.out c.report.ensures;
    }
