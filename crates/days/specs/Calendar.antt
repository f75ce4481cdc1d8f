-- The Gregorian calendar from 1900-01-01, day 0, to 2199-12-31, day 109,572.
-- Assumes nothing.
use Rattle.std.specs.Prelude.{ℕ, ◌+◌, ◌-◌, ◌%◌, ◌≤◌, Bool, cond, not, ◌&&◌, ◌||◌, [], ◌∷◌, Some, None, Option, ◌==◌, nat_le, slice_index}
use Rattle.days.specs.Spans.{start_of, span_of}
use Rattle.days.specs.declared.dates.Date.{Date}

abbrev pub first_year : ℕ
first_year = 1900

abbrev pub last_year : ℕ
last_year = 2199

abbrev pub last_day : ℕ
last_day = 109572

-- 4 divides a leap year; a century is one only where 400 divides it
unfoldable pub leap : ℕ → Bool
leap y = y % 4 == 0 && (not (y % 100 == 0) || y % 400 == 0)

abbrev pub year_length : ℕ → ℕ
year_length y = cond (leap y) 366 365

-- the years by their index: 0 is 1900
abbrev pub year_span : ℕ → ℕ
year_span k = year_length (first_year + k)

-- the months of a common or of a leap year by their index: 0 is January
abbrev pub month_span : Bool → ℕ → ℕ
month_span leaps i =
    slice_index (31 ∷ cond leaps 29 28 ∷ 31 ∷ 30 ∷ 31 ∷ 30 ∷ 31 ∷ 31 ∷ 30 ∷ 31 ∷ 30 ∷ 31 ∷ []) i

abbrev pub month_length : ℕ → ℕ → ℕ
month_length y m = month_span (leap y) (m - 1)

-- the months of the range
pub record IsMonth (y m : ℕ) : Type 0 where
  pub year_from : first_year ≤ y
  pub year_to : y ≤ last_year
  pub month_from : 1 ≤ m
  pub month_to : m ≤ 12

-- the dates of the range
pub record IsDate (y m d : ℕ) : Type 0 where
  pub month : IsMonth y m
  pub day_from : 1 ≤ d
  pub day_to : d ≤ month_length y m

-- the number of a date: the days before its year, before its month and before it
abbrev pub number_of : ℕ → ℕ → ℕ → ℕ
number_of y m d = start_of year_span (y - first_year) + start_of (month_span (leap y)) (m - 1) + (d - 1)

-- year, month and day of a day number: the year that holds it, then the month of that year
unfoldable pub year_of : ℕ → ℕ
year_of n = first_year + span_of year_span 300 n

unfoldable pub day_in_year : ℕ → ℕ
day_in_year n = n - start_of year_span (year_of n - first_year)

unfoldable pub month_of : ℕ → ℕ
month_of n = 1 + span_of (month_span (leap (year_of n))) 12 (day_in_year n)

unfoldable pub day_of : ℕ → ℕ
day_of n = 1 + (day_in_year n - start_of (month_span (leap (year_of n))) (month_of n - 1))

-- the date of a day number, absent above the range
abbrev pub date_of : ℕ → Option (ℕ × ℕ × ℕ)
date_of n = cond (nat_le n last_day) (Some (year_of n, month_of n, day_of n)) None

abbrev pub date : ℕ → ℕ → ℕ → Date
date y m d = record { year = y; month = m; day = d }

abbrev pub dated : ℕ → Option Date
dated n = cond (nat_le n last_day) (Some (date (year_of n) (month_of n) (day_of n))) None

-- the last day of the month that holds day n
abbrev pub month_end : ℕ → ℕ
month_end n = number_of (year_of n) (month_of n) (month_length (year_of n) (month_of n))

abbrev pub month_end_of : ℕ → Option ℕ
month_end_of n = cond (nat_le n last_day) (Some (month_end n)) None

-- 0 for Monday to 6 for Sunday
abbrev pub weekday_of : ℕ → ℕ
weekday_of n = n % 7
