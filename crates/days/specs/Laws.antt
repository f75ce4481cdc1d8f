-- What holds of the calendar as a whole.
-- Assumes nothing.
use Rattle.std.specs.Prelude.{◌≡◌, ℕ, ◌+◌, ◌<◌, ◌≤◌}
use Rattle.days.specs.Calendar.{last_day, month_length, IsDate, number_of, year_of, month_of, day_of, weekday_of}
use Rattle.days.specs.Easter.{easter_of, easter_month, easter_day}

-- numbers and dates lead to each other, and each leads back
pub record Lossless : Type 0 where
  pub each_number_has_a_date : (n : ℕ) → n ≤ last_day → IsDate (year_of n) (month_of n) (day_of n)
  pub each_date_has_a_number : (y m d : ℕ) → IsDate y m d → number_of y m d ≤ last_day
  pub number_leads_back : (n : ℕ) → n ≤ last_day → number_of (year_of n) (month_of n) (day_of n) ≡ n
  pub date_leads_back :
      (y m d : ℕ) → IsDate y m d →
      (year_of (number_of y m d) ≡ y) × (month_of (number_of y m d) ≡ m) × (day_of (number_of y m d) ≡ d)

-- the numbers follow the calendar day by day, from 0 at the first date
pub record DaysFollow : Type 0 where
  pub first : number_of 1900 1 1 ≡ 0
  pub next_in_month : (y m d : ℕ) → 1 ≤ d → number_of y m (d + 1) ≡ number_of y m d + 1
  pub next_month :
      (y m : ℕ) → 1 ≤ m → m < 12 → number_of y (m + 1) 1 ≡ number_of y m (month_length y m) + 1
  pub next_year : (y : ℕ) → 1900 ≤ y → number_of (y + 1) 1 1 ≡ number_of y 12 31 + 1

-- Easter of each year of the range is a date of it, and a Sunday
abbrev pub EasterIsSunday : Type 0
EasterIsSunday =
    (y : ℕ) → 1900 ≤ y → y ≤ 2199 → IsDate y (easter_month y) (easter_day y) × (weekday_of (easter_of y) ≡ 6)
