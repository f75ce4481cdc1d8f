use Rattle.std.proofs.Common.{arith}
use Rattle.std.proofs.lemmas.Bool.Decides.{nat_tests}
use Rattle.days.proofs.Years.{before_year_is}
use Rattle.days.proofs.dates.days_before_year.Goals as goal

pub returns : goal.returns
returns c = let closed = before_year_is c.args.index c.requires in grind (arith, nat_tests)
