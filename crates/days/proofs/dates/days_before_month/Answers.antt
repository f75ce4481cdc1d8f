use Rattle.std.proofs.Common.{arith}
use Rattle.std.proofs.lemmas.Bool.Decides.{nat_tests}
use Rattle.days.proofs.Months.{before_month_is}
use Rattle.days.proofs.dates.days_before_month.Goals as goal

pub returns : goal.returns
returns c = let table = before_month_is c.args.leaps c.args.index (omega arith) in grind (arith, nat_tests)
