-- Interest by the evenings of a journal.
-- Assumes nothing.
use Rattle.std.specs.Prelude.{ℕ, ◌+◌, ◌-◌, ◌*◌, cond, List, [], ◌∷◌, sum_by, nat_le, slice_index}
use Rattle.register.specs.Journal.{Journal}

-- the first date of the period that holds a day: the last date that is not after it
unfoldable pub first_of : List ℕ → ℕ → ℕ → ℕ
first_of [] found x = found
first_of (date ∷ dates) found x = cond (nat_le date x) (first_of dates date x) found

-- the step of a day, by the count from the first date of the period that holds it
abbrev pub step : (ℕ → ℕ → ℕ) → List ℕ → ℕ → ℕ
step count dates x = let first = first_of dates 0 x in count first (x + 1) - count first x

-- what the evenings are worth to one holder, and all together, in ticks
abbrev pub holder_interest : (ℕ → ℕ → ℕ) → Journal → ℕ → ℕ
holder_interest count j holder =
    sum_by (λ e. slice_index e.holdings holder * j.rate * step count j.dates e.day) j.evenings

abbrev pub nominal_interest : (ℕ → ℕ → ℕ) → Journal → ℕ
nominal_interest count j = sum_by (λ e. e.nominal * j.rate * step count j.dates e.day) j.evenings
