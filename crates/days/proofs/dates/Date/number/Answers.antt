use Rattle.std.proofs.Common.{◌≡◌, ℕ, ◌≤◌, arith}
use Rattle.days.specs.Calendar.{IsMonth, IsDate, month_length}
use Rattle.days.proofs.Round.{days_follow}
use Rattle.days.proofs.dates.Date.number.Goals as goal

pub returns-in_err-length : goal.returns-in_err-length
returns-in_err-length c =
    record {
      value = rw c.from_residual.ensures (λ is. c.in_err-length.ensures is.month);
      follow = days_follow;
    }

pub returns-then-self-lt1 : goal.returns-then-self-lt1
returns-then-self-lt1 c =
    record {
      value = λ is.
          omega (arith, is.day_from, is.day_to, c.in_ok-length.ensures.1, c.then-self-lt1.either);
      follow = days_follow;
    }

is_date : (y m d length : ℕ) → IsMonth y m × (length ≡ month_length y m) → 1 ≤ d → d ≤ length → IsDate y m d
is_date y m d length is from to = record { month = is.0; day_from = from; day_to = omega (arith, is.1) }

pub returns : goal.returns
returns c =
    record {
      value = (is_date _ _ _ _ c.in_ok-length.ensures (omega arith) (omega arith), c.days_before.ensures);
      follow = days_follow;
    }
