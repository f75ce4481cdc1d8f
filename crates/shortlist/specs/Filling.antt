-- Items at the front of an array, and blanks behind them.
-- Assumes nothing.
use Rattle.std.specs.Prelude.{◌≡◌, ℕ, ◌-◌, ◌≤◌, ◌++◌, List, length, take, drop, replicate}
use Rattle.std.proofs.Common.{arith, length-take-le}
use Rattle.std.proofs.lemmas.List.{take-append-drop}

abbrev pub filled : {X : Type 0} → ℕ → X → List X → List X
filled n blank items = items ++ replicate (n - length items) blank

pub record Filled {X : Type 0} (n : ℕ) (blank : X) (places : List X) (len : ℕ) : Type 0 where
  pub room : length places ≡ n
  pub few : len ≤ n
  pub blanks : drop len places ≡ replicate (n - len) blank

pub used : {X : Type 0} (n : ℕ) (blank : X) (places : List X) (len : ℕ) → Filled n blank places len → length (take len places) ≡ len
used n blank places len h = length-take-le len places (omega (arith, h.room, h.few))

-- the items tell the places
pub gives_back : {X : Type 0} (n : ℕ) (blank : X) (places : List X) (len : ℕ) → Filled n blank places len → filled n blank (take len places) ≡ places
gives_back n blank places len h =
    let long = used n blank places len h in
    rw (long, ← h.blanks) (take-append-drop len places)
