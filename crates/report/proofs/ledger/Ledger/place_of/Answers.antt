use Rattle.std.proofs.Common.{◌<◌, length, get_or, ap, arith}
use Rattle.report.specs.Deals.{starts_of}
use Rattle.report.proofs.DealPlaces.{nth_deal}
use Rattle.report.proofs.ledger.Ledger.place_of.Goals as goal

pub returns-clause-inside : goal.returns-clause-inside
returns-clause-inside c =
    let self = c.args.self.now in
    let places = self.places in
    let less : c.args.deal < length (starts_of self.lines.now) = omega (arith, ap length places) in
    let there = nth_deal self.lines.now c.args.deal less in
    omega (arith, ap (λ xs. get_or xs c.args.deal 0) places, there.inside)
