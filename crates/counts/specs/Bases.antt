-- The four day counts.
-- Assumes nothing.
use Rattle.std.specs.Prelude.{ℕ, ◌+◌, ◌-◌, ◌*◌, cond, ◌==◌, nat_lt}
use Rattle.days.specs.Calendar.{year_of, month_of, day_of}

-- the days that pass
abbrev pub actual : ℕ → ℕ → ℕ
actual a b = b - a

-- where a date stands in years of twelve months of thirty days
abbrev pub place : ℕ → ℕ → ℕ → ℕ
place y m d = 360 * y + 30 * m + d

-- a 31st becomes a 30th
abbrev pub cut : ℕ → ℕ
cut d = cond (d == 31) 30 d

abbrev pub first_place : ℕ → ℕ
first_place a = place (year_of a) (month_of a) (cut (day_of a))

-- the second day of the bond basis: a 31st becomes a 30th only after a first day above 29
abbrev pub bond_day : ℕ → ℕ → ℕ
bond_day first second = cond (nat_lt 29 (cut first)) (cut second) second

abbrev pub bond_second : ℕ → ℕ → ℕ
bond_second a b = bond_day (day_of a) (day_of b)

abbrev pub bond : ℕ → ℕ → ℕ
bond a b = place (year_of b) (month_of b) (bond_second a b) - first_place a

-- the European count: a 31st becomes a 30th on either side
abbrev pub european : ℕ → ℕ → ℕ
european a b = first_place b - first_place a
