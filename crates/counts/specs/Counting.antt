-- What a day count is: a number of days from one day to another, and the days of its year.
-- Assumes nothing.
use Rattle.std.specs.Prelude.{◌≡◌, ℕ, ◌-◌, ◌*◌, ◌≤◌, cond, ◌&&◌, nat_le}
use Rattle.days.specs.Calendar.{last_day}

-- what a day count answers: its count for days in order within the range, and 0 for any other pair
abbrev pub asked : (ℕ → ℕ → ℕ) → ℕ → ℕ → ℕ
asked count a b = cond (nat_le a b && nat_le b last_day) (count a b) 0

-- the laws of a day count over a denominator
pub record Lawful (count : ℕ → ℕ → ℕ) (per : ℕ) : Type 0 where
  pub some : 1 ≤ per
  pub few : per ≤ 366
  pub none : (a : ℕ) → a ≤ last_day → count a a ≡ 0
  pub rises : (a b c : ℕ) → a ≤ b → b ≤ c → c ≤ last_day → count a b ≤ count a c
  pub short : (a b : ℕ) → a ≤ b → b ≤ last_day → b - a ≤ 800 → count a b ≤ 3 * per
