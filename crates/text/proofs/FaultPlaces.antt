-- Every fault of a line is on that line.
-- Assumes nothing.
use Rattle.std.proofs.Common.{◌≡◌, ℕ, ◌+◌, Bool, true, false, cond, List, [], ◌∷◌, length, Some, None, Ok, Err, Option, Result, sym, refl, ap, ◌∙◌}
use Rattle.days.specs.declared.refusal.Refusal.{Refusal}
use Rattle.text.specs.declared.fault.Fault.{Fault}
use Rattle.text.specs.declared.mark.Mark.{Mark}
use Rattle.text.specs.declared.standing.Standing.{Standing}
use Rattle.text.specs.Cuts.{Word, words}
use Rattle.text.specs.Fields.{fault, placed, Each, Ending, read_word, and_then, fields, settle_at, settle_each}
use Rattle.text.specs.Kinds.{Kind, Said, Value, said, settled}
use Rattle.text.specs.Lines.{format, unless_full, body_of, known, marked, line_of}
use Rattle.text.specs.Marks.{mark_of, allowed, full}
use Rattle.text.proofs.FieldSteps.{err_same, first_read}

abbrev pub FaultsOn : {A : Type 0} → ℕ → Result A Fault → Type 0
FaultsOn line r = (found : Fault) → r ≡ Err found → found.line ≡ line

none_on : {A : Type 0} (line : ℕ) (a : A) → FaultsOn line (Ok a)
none_on line a found e = cc

one_on : {A : Type 0} (refusal : Refusal) (line column : ℕ) → FaultsOn {A = A} line (Err (fault refusal line column))
one_on refusal line column found e = sym (ap (λ (x : Fault). x.line) (err_same (fault refusal line column) found e))

then_on :
    {A B : Type 0} (line : ℕ) (r : Result A Fault) (f : A → Result B Fault) → FaultsOn line r →
    ((a : A) → r ≡ Ok a → FaultsOn line (f a)) → FaultsOn line (and_then r f)
then_on line (Ok a) f first later found e = later a refl found e
then_on line (Err other) f first later found e = first found (ap Err (err_same other found e))

-- what is read is on the line
abbrev OnLine : ℕ → (kinds : List Kind) → Each Said kinds → Type 0
OnLine line [] read = Unit {0}
OnLine line (kind ∷ kinds) read = (read.0.line ≡ line) × OnLine line kinds read.1

read_on_line :
    (kinds : List Kind) (end : Ending) (later : List Word) (read : Each Said kinds) → fields kinds end later ≡ Ok read →
    OnLine end.line kinds read
read_on_line [] end later read e = tt
read_on_line (kind ∷ kinds) end [] read e = cc
read_on_line (kind ∷ kinds) end (word ∷ later) read e =
    let first = first_read kind kinds end word later read e in
    (ap (λ x. x.line) first.first_is, read_on_line kinds end later read.1 first.others_are)

word_faults_on :
    (kind : Kind) (line : ℕ) (word : Word) (later : List Word) (o : Option (Said kind)) →
    FaultsOn line (read_word line word later o)
word_faults_on kind line word later None = one_on _ line word.column
word_faults_on kind line word later (Some s) = none_on line _

fields_fault_on : (kinds : List Kind) (end : Ending) (later : List Word) → FaultsOn end.line (fields kinds end later)
fields_fault_on [] end [] = none_on end.line tt
fields_fault_on [] end (word ∷ later) = one_on _ end.line word.column
fields_fault_on (kind ∷ kinds) end [] = one_on _ end.line end.column
fields_fault_on (kind ∷ kinds) end (word ∷ later) =
    then_on end.line (read_word end.line word later (said kind word.bytes))
    (λ read. and_then (fields kinds end read.1) (λ others. Ok (read.0, others)))
    (word_faults_on kind end.line word later (said kind word.bytes))
    (λ read is.
    then_on end.line (fields kinds end read.1) (λ others. Ok (read.0, others)) (fields_fault_on kinds end read.1)
    (λ others is₂. none_on end.line _))

settle_at_on :
    (kind : Kind) (line column : ℕ) (s : Said kind) (r : Result (Value kind) Refusal) →
    FaultsOn line (settle_at (placed s line column) r)
settle_at_on kind line column s (Ok v) = none_on line _
settle_at_on kind line column s (Err refusal) = one_on refusal line column

settle_fault_on :
    (kinds : List Kind) (line : ℕ) (read : Each Said kinds) → OnLine line kinds read →
    FaultsOn line (settle_each kinds read)
settle_fault_on [] line read on = none_on line tt
settle_fault_on (kind ∷ kinds) line read on =
    then_on line (settle_at read.0 (settled kind read.0.value))
    (λ first. and_then (settle_each kinds read.1) (λ others. Ok (first, others)))
    (λ found e.
    settle_at_on kind read.0.line read.0.column read.0.value (settled kind read.0.value) found e ∙ on.0)
    (λ first is.
    then_on line (settle_each kinds read.1) (λ others. Ok (first, others)) (settle_fault_on kinds line read.1 on.1)
    (λ others is₂. none_on line _))

room_fault_on :
    (t : Bool) (mark : Mark) (line : ℕ) (each : Each Value (format mark)) → FaultsOn line (unless_full t mark line each)
room_fault_on true mark line each = one_on _ line 1
room_fault_on false mark line each = none_on line _

body_fault_on :
    (standing : Standing) (mark : Mark) (end : Ending) (later : List Word) →
    FaultsOn end.line (body_of standing mark end later)
body_fault_on standing mark end later =
    then_on end.line (fields (format mark) end later)
    (λ read. and_then (settle_each (format mark) read) (λ each. unless_full (full standing mark) mark end.line each))
    (fields_fault_on (format mark) end later)
    (λ read is.
    then_on end.line (settle_each (format mark) read) (λ each. unless_full (full standing mark) mark end.line each)
    (settle_fault_on (format mark) end.line read (read_on_line (format mark) end later read is))
    (λ each is₂. room_fault_on (full standing mark) mark end.line each))

allowed_fault_on :
    (t : Bool) (standing : Standing) (mark : Mark) (end : Ending) (later : List Word) (refusal : Refusal) →
    FaultsOn end.line (cond t (body_of standing mark end later) (Err (fault refusal end.line 1)))
allowed_fault_on true standing mark end later refusal = body_fault_on standing mark end later
allowed_fault_on false standing mark end later refusal = one_on refusal end.line 1

known_fault_on :
    (standing : Standing) (end : Ending) (later : List Word) (o : Option Mark) →
    FaultsOn end.line (known standing end later o)
known_fault_on standing end later None = one_on _ end.line 1
known_fault_on standing end later (Some mark) = allowed_fault_on (allowed standing mark) standing mark end later _

marked_fault_on :
    (standing : Standing) (end : Ending) (all : List Word) → FaultsOn end.line (marked standing end all)
marked_fault_on standing end [] = one_on _ end.line 1
marked_fault_on standing end (word ∷ later) = known_fault_on standing end later (mark_of word.bytes)

pub line_fault_on : (standing : Standing) (n : ℕ) (bytes : List ℕ) → FaultsOn n (line_of standing n bytes)
unfolding line_of
line_fault_on standing n bytes =
    marked_fault_on standing (record { line = n; column = length bytes + 1 }) (words 1 bytes)
