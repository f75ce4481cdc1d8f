-- What stands behind a mark, field by field.
-- Assumes nothing.
use Rattle.std.proofs.Common.{◌≡◌, List, [], ◌∷◌, IsErrAnd, Ok, Err, Result, MatchResult, sym, refl, ap, ◌∙◌}
use Rattle.std.proofs.lemmas.Result.{err_from_is_err_and}
use Rattle.text.specs.declared.at.At.{At}
use Rattle.text.specs.declared.fault.Fault.{Fault}
use Rattle.text.specs.declared.fields.Fields.{Fields}
use Rattle.text.specs.declared.line.Line.{Line}
use Rattle.text.specs.Bodies.{fields_then}
use Rattle.text.specs.Cuts.{Word}
use Rattle.text.specs.Fields.{Each, Ending, alone, and_then, field, fields, none_left, settle, settle_each}
use Rattle.text.specs.Kinds.{Kind, Said, Value, said}
use Rattle.text.specs.Left.{left, ending}

-- what is handed on at the exit
pub handed_on : (r : Result Line Fault) (why : Fault) → IsErrAnd r (λ y. y ≡ why) → r ≡ Err why
handed_on r why h = let p = err_from_is_err_and r h in p.1 ∙ ap Err p.2

passed_on :
    {A B : Type 0} (r : Result A Fault) (f : A → B) (made : B → Result Line Fault) →
    and_then (and_then r (λ a. Ok (f a))) made ≡ and_then r (λ a. made (f a))
passed_on (Ok a) f made = refl
passed_on (Err why) f made = refl

pub taken :
    (kind : Kind) (kinds : List Kind) (line rest : Fields) (it : At (Said kind))
    (made : Each Said (kind ∷ kinds) → Result Line Fault) →
    field kind (ending line) (left line) ≡ Ok (it, left rest) → ending rest ≡ ending line →
    fields_then (kind ∷ kinds) line made ≡ fields_then kinds rest (λ others. made (it, others))
unfolding fields_then
taken kind kinds line rest it made read same =
    rw (read, ← same) (passed_on (fields kinds (ending rest) (left rest)) (λ others. (it, others)) made)

pub refused :
    (kind : Kind) (kinds : List Kind) (line : Fields) (why : Fault) (made : Each Said (kind ∷ kinds) → Result Line Fault) →
    field kind (ending line) (left line) ≡ Err why → fields_then (kind ∷ kinds) line made ≡ Err why
unfolding fields_then
refused kind kinds line why made read = rw read refl

pub ended :
    (line : Fields) (made : Each Said [] → Result Line Fault) → Ok tt ≡ none_left (ending line) (left line) →
    fields_then [] line made ≡ made tt
unfolding fields_then
ended line made none = rw (← none) refl

pub not_ended :
    (line : Fields) (why : Fault) (made : Each Said [] → Result Line Fault) →
    Err why ≡ none_left (ending line) (left line) → fields_then [] line made ≡ Err why
unfolding fields_then
not_ended line why made none = rw (← none) refl

-- a line of one field
only :
    {S : Type 0} (end : Ending) (r : Result (At S × List Word) Fault) (made : At S × Unit {0} → Result Line Fault) →
    and_then (and_then r (λ read. and_then (none_left end read.1) (λ others. Ok (read.0, others)))) made
    ≡ and_then (and_then r (λ read. and_then (none_left end read.1) (λ none. Ok read.0))) (λ it. made (it, tt))
only end (Err why) made = refl
only end (Ok (it, [])) made = refl
only end (Ok (it, word ∷ later)) made = refl

one_field :
    (kind : Kind) (line : Fields) (made : Each Said (kind ∷ []) → Result Line Fault) →
    fields_then (kind ∷ []) line made ≡ and_then (alone (said kind) (ending line) (left line)) (λ it. made (it, tt))
unfolding fields_then
one_field kind line made = only (ending line) (field kind (ending line) (left line)) made

-- what becomes of a value that was read
abbrev pub Mapped : {V : Type 0} → (V → Line) → Result V Fault → Result Line Fault → Type 0
Mapped f r out = MatchResult r (λ v. out ≡ Ok (f v)) (λ why. out ≡ Err why)

mapped : {V : Type 0} (f : V → Line) (r : Result V Fault) (out : Result Line Fault) → Mapped f r out → out ≡ and_then r (λ v. Ok (f v))
mapped f (Ok v) out h = h
mapped f (Err why) out h = h

settled_first :
    {A V : Type 0} (read : Result A Fault) (settles : A → Result V Fault) (f : V × Unit {0} → Line) →
    and_then (and_then read settles) (λ v. Ok (f (v, tt)))
    ≡ and_then read (λ it. and_then (and_then (settles it) (λ first. Ok (first, tt))) (λ each. Ok (f each)))
settled_first (Ok it) settles f = sym (passed_on (settles it) (λ first. (first, tt)) (λ each. Ok (f each)))
settled_first (Err why) settles f = refl

-- a line of one value
pub one_value :
    (kind : Kind) (line : Fields) (f : Each Value (kind ∷ []) → Line) (r : Result (At (Value kind)) Fault) (out : Result Line Fault) →
    r ≡ and_then (alone (said kind) (ending line) (left line)) (settle kind) → Mapped (λ v. f (v, tt)) r out →
    out ≡ fields_then (kind ∷ []) line (λ read. and_then (settle_each (kind ∷ []) read) (λ each. Ok (f each)))
one_value kind line f r out is map =
    let made : Each Said (kind ∷ []) → Result Line Fault = λ read. and_then (settle_each (kind ∷ []) read) (λ each. Ok (f each)) in
    mapped (λ v. f (v, tt)) r out map ∙ ap (λ x. and_then x (λ v. Ok (f (v, tt)))) is
    ∙ settled_first (alone (said kind) (ending line) (left line)) (settle kind) f ∙ sym (one_field kind line made)

-- a number is settled as it is read
pub as_read : {A : Type 0} (r : Result A Fault) → r ≡ and_then r (λ a. Ok a)
as_read (Ok a) = refl
as_read (Err why) = refl
