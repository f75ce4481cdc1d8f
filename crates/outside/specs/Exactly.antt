-- An answer that is there exactly where there is one to give.
-- Assumes nothing.
use Rattle.std.specs.Prelude.{◌≡◌, Some, None, Option}

-- a value that is given is the only one of which P holds, and none is given only where P holds of none
abbrev pub Exactly : {T : Type 0} → Option T → (T → Type 0) → Type 0
Exactly {T} None P = (x : T) → P x → ⊥
Exactly {T} (Some y) P = P y × ((x : T) → P x → x ≡ y)
