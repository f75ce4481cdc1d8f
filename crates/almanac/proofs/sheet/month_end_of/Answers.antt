use Rattle.std.proofs.Common.{◌≡◌, ℕ, ◌-◌, arith}
use Rattle.days.proofs.Months.{month_size}
use Rattle.days.specs.Calendar.{leap, month_length, IsMonth, IsDate}
use Rattle.almanac.proofs.sheet.month_end_of.Goals as goal

last_day_dated : (y m n : ℕ) → IsMonth y m → n ≡ month_length y m → IsDate y m n
last_day_dated y m n month length =
    let size = month_size (leap y) (m - 1) (omega arith) in
    record { month = month; day_from = omega (arith, size); day_to = omega arith }

-- a month has a last day, so that this exit is never taken
pub returns-in_err-day : goal.returns-in_err-day
returns-in_err-day g c =
    let month = c.in_ok-length.ensures in
    let no_date = rw c.new.ensures at c.in_err-day.ensures.value in
    absurd (no_date (last_day_dated c.args.year c.args.month c.in_ok-length.length month.0 month.1))
