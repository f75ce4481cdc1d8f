use Rattle.counts.specs.Counting.{asked}
use Rattle.register.specs.Calls.{opening}
use Rattle.register.specs.Runs.{outcome}
use Rattle.register.specs.Views.{view_of}
use Rattle.std.proofs.Common.{Ok}
use Rattle.report.proofs.Calling.{left_by_rule, nothing_printed}
use Rattle.report.proofs.deal_text.DealText.lay_opening.Goals as goal

pub returns-in-Ok-clause-laid : goal.returns-in-Ok-clause-laid
returns-in-Ok-clause-laid g c =
    let count = asked (g.D.DayCount.counted c.args.register.now.basis) in
    let v = view_of c.args.register.now in
    let call = opening c.args.days.now c.args.self.now.terms.now.rate.value c.args.holdings.now in
    let by = left_by_rule count g.D.DayCount.per v (view_of c.open.new.self) call (Ok c.in-Ok.field-0) c.in-Ok.ensures.rule in
    nothing_printed (outcome count g.D.DayCount.per v call) _ c.args.self.now.number c.args.page.now by.1
