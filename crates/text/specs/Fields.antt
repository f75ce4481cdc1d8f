-- The fields of a line: first each word is read, from the left, and then each value is judged, from the left.
-- Assumes nothing.
use Rattle.std.specs.Prelude.{ℕ, List, [], ◌∷◌, Some, None, Ok, Err, Option, Result}
use Rattle.days.specs.declared.refusal.Refusal.{Refusal}
use Rattle.days.specs.declared.refusal.Refusal.TheVariants.{BadField}
use Rattle.text.specs.declared.at.At.{At}
use Rattle.text.specs.declared.fault.Fault.{Fault}
use Rattle.text.specs.Cuts.{Word}
use Rattle.text.specs.Kinds.{Kind, Said, Value, said, settled}

abbrev pub fault : Refusal → ℕ → ℕ → Fault
fault refusal line column = record { refusal = refusal; line = line; column = column }

abbrev pub placed : {T : Type 0} → T → ℕ → ℕ → At T
placed value line column = record { value = value; line = line; column = column }

-- one value in its place for each kind
abbrev pub Each : (Kind → Type 0) → List Kind → Type 0
Each F [] = Unit {0}
Each F (kind ∷ kinds) = At (F kind) × Each F kinds

-- where a line ends: its number, and the column of its byte 10
pub record Ending : Type 0 where
  pub line : ℕ
  pub column : ℕ

abbrev pub read_word : {T : Type 0} → ℕ → Word → List Word → Option T → Result (At T × List Word) Fault
read_word line word later None = Err (fault BadField line word.column)
read_word line word later (Some value) = Ok (placed value line word.column, later)

-- one field: what the next word says, and the words behind it
abbrev pub field_by : {T : Type 0} → (List ℕ → Option T) → Ending → List Word → Result (At T × List Word) Fault
field_by says end [] = Err (fault BadField end.line end.column)
field_by says end (word ∷ later) = read_word end.line word later (says word.bytes)

abbrev pub field : (kind : Kind) → Ending → List Word → Result (At (Said kind) × List Word) Fault
field kind end words = field_by (said kind) end words

-- no word is left over
abbrev pub none_left : Ending → List Word → Result (Unit {0}) Fault
none_left end [] = Ok tt
none_left end (word ∷ later) = Err (fault BadField end.line word.column)

abbrev pub and_then : {A B : Type 0} → Result A Fault → (A → Result B Fault) → Result B Fault
and_then (Ok a) f = f a
and_then (Err e) f = Err e

-- the only field, and no word more
abbrev pub alone : {T : Type 0} → (List ℕ → Option T) → Ending → List Word → Result (At T) Fault
alone says end words =
    and_then (field_by says end words) (λ read. and_then (none_left end read.1) (λ none. Ok read.0))

-- the words of a line behind its mark
abbrev pub fields : (kinds : List Kind) → Ending → List Word → Result (Each Said kinds) Fault
fields [] end words = none_left end words
fields (kind ∷ kinds) end words =
    and_then (field kind end words) (λ read.
    and_then (fields kinds end read.1) (λ others. Ok (read.0, others)))

abbrev pub settle_at : {S V : Type 0} → At S → Result V Refusal → Result (At V) Fault
settle_at it (Ok value) = Ok (placed value it.line it.column)
settle_at it (Err refusal) = Err (fault refusal it.line it.column)

abbrev pub settle_by : {S V : Type 0} → (S → Result V Refusal) → At S → Result (At V) Fault
settle_by settles it = settle_at it (settles it.value)

abbrev pub settle : (kind : Kind) → At (Said kind) → Result (At (Value kind)) Fault
settle kind it = settle_by (settled kind) it

-- the values of a line
abbrev pub settle_each : (kinds : List Kind) → Each Said kinds → Result (Each Value kinds) Fault
settle_each [] each = Ok tt
settle_each (kind ∷ kinds) each =
    and_then (settle kind each.0) (λ first.
    and_then (settle_each kinds each.1) (λ others. Ok (first, others)))
