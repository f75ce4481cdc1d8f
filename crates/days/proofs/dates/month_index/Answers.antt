use Rattle.std.proofs.Common.{inl, inr}
use Rattle.days.proofs.Months.{guess_short, guess_right}
use Rattle.days.proofs.dates.month_index.Goals as goal
use Rattle.days.proofs.dates.month_index.Goals.{else-guess-lt11-via-then-guess-lt11+else-days_before_month-day, else-guess-lt11-via-else-guess-lt11}

pub returns-then-days_before_month-day : goal.returns-then-days_before_month-day
returns-then-days_before_month-day c =
    guess_short c.args.leaps c.args.day _ c.if-guess-lt11.true c.days_before_month.ensures
    c.if-days_before_month-day.true

pub returns-else-guess-lt11 : goal.returns-else-guess-lt11
returns-else-guess-lt11 c =
    guess_right c.args.leaps c.args.day c.requires
    (elim c.else-guess-lt11.branch [
      | else-guess-lt11-via-then-guess-lt11+else-days_before_month-day w ↦
          inl (w.if-guess-lt11.true, rw w.days_before_month.ensures at w.if-days_before_month-day.false)
      | else-guess-lt11-via-else-guess-lt11 w ↦ inr w.if-guess-lt11.false
    ])
