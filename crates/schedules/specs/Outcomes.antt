-- What becomes of a list of dates: a day for each, or the first without one; and the first two that meet.
-- Assumes nothing.
use Rattle.std.specs.Prelude.{◌≡◌, ℕ, ◌+◌, ◌-◌, ◌<◌, ◌≤◌, true, List, length, is_some, Some, None, Option, Result, MatchResult, ◌≢◌, slice_index, slice_index_or}
use Rattle.days.specs.Refusals.{told, answer}
use Rattle.days.specs.declared.refusal.Layer.TheVariants.{Calendar}
use Rattle.days.specs.declared.refusal.Refusal.{Refusal}

-- each date rolls to the day beside it
abbrev pub EachRolls : (ℕ → Option ℕ) → List ℕ → List ℕ → Type 0
EachRolls roll dates days =
    (k : ℕ) → k < length dates → roll (slice_index dates k) ≡ Some (slice_index days k)

-- the first date that rolls to no day
pub record NoDayAt (roll : ℕ → Option ℕ) (dates : List ℕ) (index : ℕ) : Type 0 where
  pub within : index < length dates
  pub none : roll (slice_index dates index) ≡ None
  pub before : (k : ℕ) → k < index → is_some (roll (slice_index dates k)) ≡ true

-- each date has its day, or the first without one is refused by its index
abbrev pub RollsAllOrRefused : (ℕ → Option ℕ) → List ℕ → List ℕ → Result (Unit {0}) Refusal → Type 0
RollsAllOrRefused roll dates days r =
    MatchResult r (λ _. EachRolls roll dates days)
    (λ e. (index : ℕ) × NoDayAt roll dates index × (told e ≡ answer 12 Calendar index))

abbrev pub AllApart : List ℕ → Type 0
AllApart days = (k : ℕ) → k + 1 < length days → slice_index days k ≢ slice_index days (k + 1)

-- the first day that is also the day before it in the list
pub record ClashAt (days : List ℕ) (index : ℕ) : Type 0 where
  pub some : 1 ≤ index
  pub within : index < length days
  pub same : slice_index_or days (index - 1) 0 ≡ slice_index days index
  pub before : (k : ℕ) → k + 1 < index → slice_index days k ≢ slice_index days (k + 1)
