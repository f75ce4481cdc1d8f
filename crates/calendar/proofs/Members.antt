-- The tests by which a list is searched say what `contains` answers.
-- Assumes nothing.
use Rattle.std.proofs.Common.{◌≡◌, ℕ, ◌≤◌, Bool, ◌||◌, List, ℤ, Decides, refl}
use Rattle.days.specs.Calendar.{last_day}
use Rattle.std.proofs.lemmas.Bool.{le-ltb}
use Rattle.std.specs.Ordering.{int_eq}
use Rattle.calendar.specs.Closed.{above_range}
use Rattle.std.specs.List.{ContainsAt as Has}
use Rattle.std.proofs.lemmas.Bool.Decides.{Decides-by_or, Decides-int_eq}
use Rattle.calendar.specs.Kinds.{offset_listed}

pub offset_decides : (offsets : List ℤ) (z : ℤ) → Decides (offset_listed offsets z) (Has offsets z)
offset_decides offsets z =
    Decides-by_or (λ x. int_eq x z) (λ x. x ≡ z) (λ xs. offset_listed xs z) (λ x. Decides-int_eq x z) refl
    (λ _ _. refl) offsets

-- within the range a set answers as what stands behind its question for the range
pub within_range : (closed : ℕ → Bool) (n : ℕ) → n ≤ last_day → closed n ≡ (above_range n || closed n)
within_range closed n h = let inside = le-ltb last_day n h in rw inside refl
