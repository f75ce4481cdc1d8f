-- The 30/360 counts by the formula of the trade, in whole numbers that may be negative on the way.
-- Assumes nothing.
use Rattle.std.specs.Prelude.{◌≡◌, ℕ, ◌≤◌, ℤ, pos, ◌+ℤ◌, ◌-ℤ◌, ◌*ℤ◌}
use Rattle.days.specs.Calendar.{year_of, month_of, day_of, last_day}
use Rattle.counts.specs.Bases.{cut, bond_second, bond, european}

-- 360 times the difference of the years, 30 times that of the months, and that of the days
abbrev pub thirty_360 : (y₁ m₁ d₁ y₂ m₂ d₂ : ℕ) → ℤ
thirty_360 y₁ m₁ d₁ y₂ m₂ d₂ =
    pos 360 *ℤ (pos y₂ -ℤ pos y₁) +ℤ pos 30 *ℤ (pos m₂ -ℤ pos m₁) +ℤ (pos d₂ -ℤ pos d₁)

-- the bond basis counts by the formula
abbrev pub BondByFormula : Type 0
BondByFormula =
    (a b : ℕ) → a ≤ b → b ≤ last_day →
    pos (bond a b) ≡ thirty_360 (year_of a) (month_of a) (cut (day_of a)) (year_of b) (month_of b) (bond_second a b)

-- and so does the European count
abbrev pub EuropeanByFormula : Type 0
EuropeanByFormula =
    (a b : ℕ) → a ≤ b → b ≤ last_day →
    pos (european a b) ≡ thirty_360 (year_of a) (month_of a) (cut (day_of a)) (year_of b) (month_of b) (cut (day_of b))
