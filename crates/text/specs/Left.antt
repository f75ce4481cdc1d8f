-- What is left of a line's words where its reading has come to.
-- Assumes nothing.
use Rattle.std.specs.Prelude.{◌≡◌, ℕ, ◌+◌, List, [], ◌∷◌, length, Some, None, Ok, Err, Option, Result}
use Rattle.std.specs.Borrow.{Bor}
use Rattle.days.specs.declared.refusal.Refusal.TheVariants.{BadField}
use Rattle.text.specs.declared.at.At.{At}
use Rattle.text.specs.declared.fault.Fault.{Fault}
use Rattle.text.specs.declared.fields.Fields.{Fields}
use Rattle.text.specs.Cuts.{Word, words, end_from}
use Rattle.text.specs.Fields.{Ending, fault, field_by}

abbrev pub left_from : ℕ → Option (Bor (List ℕ)) → List Word
left_from column None = []
left_from column (Some rest) = words column rest.now

abbrev pub left : Fields → List Word
left fields = left_from fields.place.column fields.rest

abbrev pub ending : Fields → Ending
ending fields = record { line = fields.place.line; column = end_from fields.place.column fields.rest }

abbrev pub ended_at : ℕ → List ℕ → Ending
ended_at n bytes = record { line = n; column = length bytes + 1 }

abbrev pub word_at : ℕ → List ℕ → Word
word_at column bytes = record { column = column; bytes = bytes }

-- the next word is taken, or none is left
abbrev pub Taken : Ending → List Word → Result (At (Bor (List ℕ))) Fault → List Word → Type 0
Taken end words (Ok word) later = (words ≡ word_at word.column word.value.now ∷ later) × (word.line ≡ end.line)
Taken end words (Err why) later = (words ≡ []) × (why ≡ fault BadField end.line end.column)

-- the next field is read by what its word says, or why not
abbrev pub ReadsField : {T : Type 0} → (List ℕ → Option T) → Ending → List Word → Result (At T) Fault → List Word → Type 0
ReadsField says end words (Ok it) later = field_by says end words ≡ Ok (it, later)
ReadsField says end words (Err why) later = field_by says end words ≡ Err why
