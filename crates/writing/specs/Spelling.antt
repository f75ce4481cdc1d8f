-- How dates are spelled. Numbers are spelled by `decimal` of the standard library: digits with no needless zero in front.
-- Assumes nothing.
use Rattle.std.specs.Prelude.{ℕ, ◌+◌, ◌/◌, ◌%◌, List, [], ◌∷◌, ◌++◌}
use Rattle.days.specs.Calendar.{year_of, month_of, day_of}

abbrev pub hyphen : ℕ
hyphen = 45

-- a number below a hundred, with two digits
abbrev pub two : ℕ → List ℕ
two n = (48 + n / 10) ∷ (48 + n % 10) ∷ []

-- a year, with four digits
abbrev pub four : ℕ → List ℕ
four n = two (n / 100) ++ two (n % 100)

abbrev pub dated : ℕ → ℕ → ℕ → List ℕ
dated y m d = four y ++ (hyphen ∷ two m ++ (hyphen ∷ two d))

-- the date of a day number, as yyyy-mm-dd
unfoldable pub spelled_date : ℕ → List ℕ
spelled_date n = dated (year_of n) (month_of n) (day_of n)
