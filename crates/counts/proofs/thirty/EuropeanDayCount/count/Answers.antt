use Rattle.std.proofs.Common.{rules}
use Rattle.counts.specs.Places.{european_by_formula}
use Rattle.counts.proofs.thirty.EuropeanDayCount.count.Goals as goal

pub returns : goal.returns
returns c = record { value = search rules; formula = european_by_formula }
