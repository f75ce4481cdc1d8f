use Rattle.std.proofs.Common.{◌-◌, refl, arith}
use Rattle.days.specs.Calendar.{month_span}
use Rattle.days.proofs.Spans.{length_between}
use Rattle.days.proofs.dates.days_in_month.Goals as goal

pub overflow_sub-result : goal.overflow_sub-result
overflow_sub-result c =
    omega
    (arith, length_between (month_span c.is_leap-leaps.result) (c.args.month - 1) c.args.month refl c.if-month-lt1.false)

pub returns : goal.returns
returns c = (
  omega arith,
  simp (← c.is_leap-leaps.ensures)
      (omega
      (arith, length_between (month_span c.is_leap-leaps.result) (c.args.month - 1) c.args.month refl c.if-month-lt1.false)),
)
