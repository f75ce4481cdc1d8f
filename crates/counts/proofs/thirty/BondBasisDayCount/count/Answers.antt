use Rattle.std.proofs.Common.{rules}
use Rattle.counts.specs.Places.{bond_by_formula}
use Rattle.counts.proofs.thirty.BondBasisDayCount.count.Goals as goal

pub returns : goal.returns
returns c = record { value = search rules; formula = bond_by_formula }
