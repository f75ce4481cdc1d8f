-- When an Easter rule or a date is refused.
-- Assumes nothing.
use Rattle.std.specs.Prelude.{◌≡◌, ℕ, ◌<◌, true, false, ◌⊎◌, List, length, ℤ, Some, None, Option, Result, MatchResult}
use Rattle.days.specs.Refusals.{told, answer}
use Rattle.days.specs.declared.refusal.Refusal.{Refusal}
use Rattle.days.specs.declared.refusal.Layer.TheVariants.{Text, Calendar}
use Rattle.calendar.specs.Kinds.{all_within_sixty}

abbrev pub OffsetsRefused : Refusal → List ℤ → Type 0
OffsetsRefused e offsets =
    ((told e ≡ answer 7 Text 0) × (all_within_sixty offsets ≡ false))
    ⊎ ((told e ≡ answer 8 Text 0) × (all_within_sixty offsets ≡ true) × (8 < length offsets))

-- a date that rolls to no day is refused by its index
abbrev pub RollsOrRefused : Option ℕ → ℕ → Result ℕ Refusal → Type 0
RollsOrRefused day index r =
    MatchResult r (λ n. day ≡ Some n) (λ e. (day ≡ None) × (told e ≡ answer 12 Calendar index))
