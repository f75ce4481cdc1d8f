use Rattle.std.proofs.Common.{◌≤◌, length, Err, refl, ap, arith}
use Rattle.report.specs.Deals.{starts_of}
use Rattle.report.proofs.Reporting.{no_such_deal}
use Rattle.report.proofs.ledger.Ledger.report_if_any.Goals as goal

pub returns-then-deal-self-clause-rule : goal.returns-then-deal-self-clause-rule
returns-then-deal-self-clause-rule c =
    let self = c.args.self.now in
    let past : length (starts_of self.lines.now) ≤ c.args.deal = omega (arith, ap length self.places) in
    no_such_deal self.lines.now c.args.deal c.args.out.now _ c.args.out.now past (ap Err c.stopped.ensures) refl
