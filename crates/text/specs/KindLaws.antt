-- What a field says and how it is spelled lead to each other.
-- Assumes nothing.
use Rattle.std.specs.Prelude.{◌≡◌, ℕ, ◌<◌, List, length, Some, Ok, ◌≢◌, slice_index}
use Rattle.text.specs.Cuts.{space, line_end}
use Rattle.text.specs.Kinds.{Kind, Said, Value, said, settled}
use Rattle.text.specs.Laws.{InRange}
use Rattle.text.specs.Spelled.{spelled}

-- no byte of a word ends it
abbrev pub Unbroken : List ℕ → Type 0
Unbroken word = (i : ℕ) → i < length word → (slice_index word i ≢ space) × (slice_index word i ≢ line_end)

-- a word that has a value is how that value is spelled, and every value that a text may have has such a word
pub record KindLaw (kind : Kind) : Type 0 where
  pub read_as_spelled :
      (word : List ℕ) (s : Said kind) (v : Value kind) → said kind word ≡ Some s → settled kind s ≡ Ok v →
      (spelled kind v ≡ word) × InRange kind v
  pub spelled_and_read :
      (v : Value kind) → InRange kind v →
      (s : Said kind) × (said kind (spelled kind v) ≡ Some s) × (settled kind s ≡ Ok v)
  pub unbroken : (v : Value kind) → InRange kind v → Unbroken (spelled kind v)
