-- What a closed-day set is: a test on numbers that holds of every number above the range of days.
-- Assumes nothing.
use Rattle.std.specs.Prelude.{◌≡◌, ℕ, ◌<◌, Bool, true, ◌||◌, nat_lt}
use Rattle.std.proofs.Common.{ap}
use Rattle.std.proofs.lemmas.Bool.{lt-ltb}
use Rattle.days.specs.Calendar.{last_day}

abbrev pub above_range : ℕ → Bool
above_range n = nat_lt last_day n

pub record ClosesAboveRange (closed : ℕ → Bool) : Type 0 where
  pub above : (n : ℕ) → last_day < n → closed n ≡ true

abbrev pub Lawful : {X : Type 0} → (X → ℕ → Bool) → Type 0
Lawful {X} closed = (x : X) → ClosesAboveRange (closed x)

-- two ways to be lawful: to ask for the range first, or to ask a lawful set first
pub range_first : (closed : ℕ → Bool) → ClosesAboveRange (λ n. above_range n || closed n)
range_first closed = record { above = λ n h. ap (λ b. b || closed n) (lt-ltb last_day n h) }

pub lawful_first : (a b : ℕ → Bool) → ClosesAboveRange a → ClosesAboveRange (λ n. a n || b n)
lawful_first a b lawful = record { above = λ n h. ap (λ c. c || b n) (lawful.above n h) }
