use Rattle.days.proofs.Years.{guess_high, guess_low}
use Rattle.days.proofs.dates.year_index.Goals as goal

pub overflow_sub-result : goal.overflow_sub-result
overflow_sub-result c = (guess_high c.args.day _ c.requires c.days_before_year.ensures c.if-days_before_year-day.true).0

pub returns-then-days_before_year-day : goal.returns-then-days_before_year-day
returns-then-days_before_year-day c = (guess_high c.args.day _ c.requires c.days_before_year.ensures c.if-days_before_year-day.true).1

pub returns-else-days_before_year-day : goal.returns-else-days_before_year-day
returns-else-days_before_year-day c = guess_low c.args.day _ c.requires c.days_before_year.ensures c.if-days_before_year-day.false
