-- A line by its mark and what stands behind that.
-- Assumes nothing.
use Rattle.std.proofs.Common.{◌≡◌, ℕ, Bool, true, false, cond, List, Some, None, Ok, Err, Option, Result, sym, refl, ◌∙◌, subst}
use Rattle.days.specs.declared.refusal.Refusal.TheVariants.{BadMark, TooMany}
use Rattle.text.specs.declared.fault.Fault.{Fault}
use Rattle.text.specs.declared.fields.Fields.{Fields}
use Rattle.text.specs.declared.line.Line.{Line}
use Rattle.text.specs.declared.mark.Mark.{Mark}
use Rattle.text.specs.declared.standing.Standing.{Standing}
use Rattle.text.specs.Bodies.{settled_line, fields_then, body, MarkTaken}
use Rattle.text.specs.Cuts.{words}
use Rattle.text.specs.Fields.{fault, Each, Ending, and_then, fields, settle_each}
use Rattle.text.specs.Kinds.{Said, Value}
use Rattle.text.specs.Left.{left, ended_at, ending}
use Rattle.text.specs.Lines.{format, line_from, unless_full, body_of, known, line_of}
use Rattle.text.specs.Marks.{allowed, full}

-- a line of its sort has room or not
abbrev pub with_room : Bool → ℕ → Line → Result Line Fault
with_room is-full n l = cond is-full (Err (fault TooMany n 1)) (Ok l)

room_last :
    (mark : Mark) (is-full : Bool) (n : ℕ) (each : Result (Each Value (format mark)) Fault) →
    and_then each (λ v. unless_full is-full mark n v) ≡ and_then (and_then each (λ v. Ok (line_from mark v))) (with_room is-full n)
room_last mark true n (Ok each) = refl
room_last mark false n (Ok each) = refl
room_last mark is-full n (Err why) = refl

values_first :
    (mark : Mark) (is-full : Bool) (n : ℕ) (read : Result (Each Said (format mark)) Fault) →
    and_then read (λ r. and_then (settle_each (format mark) r) (λ v. unless_full is-full mark n v))
    ≡ and_then (and_then read (settled_line mark)) (with_room is-full n)
values_first mark is-full n (Ok read) = room_last mark is-full n (settle_each (format mark) read)
values_first mark is-full n (Err why) = refl

pub body_with_room :
    (standing : Standing) (mark : Mark) (line : Fields) →
    body_of standing mark (ending line) (left line) ≡ and_then (body mark line) (with_room (full standing mark) line.place.line)
unfolding fields_then
body_with_room standing mark line =
    values_first mark (full standing mark) line.place.line (fields (format mark) (ending line) (left line))

-- the first word is taken for the mark
module _
    (standing : Standing)
    (n : ℕ)
    (bytes : List ℕ)
    (line rest : Fields)
    (begins : left line ≡ words 1 bytes)
  where
    pub by_mark :
        (mark : Option Mark) → MarkTaken (left line) mark (left rest) →
        line_of standing n bytes ≡ known standing (ended_at n bytes) (left rest) mark
    unfolding line_of
    by_mark mark taken = rw (← begins) (taken standing (ended_at n bytes))

    pub line_allowed :
        (mark : Mark) (r : Result Line Fault) → MarkTaken (left line) (Some mark) (left rest) →
        ending line ≡ ended_at n bytes → ending rest ≡ ending line → true ≡ allowed standing mark →
        r ≡ body_of standing mark (ending rest) (left rest) → r ≡ line_of standing n bytes
    line_allowed mark r taken place same may e =
        let here = subst (λ (end : Ending). r ≡ body_of standing mark end (left rest)) (same ∙ place) e in
        sym (by_mark (Some mark) taken ∙ rw (← may) (sym here))

    pub line_forbidden :
        (mark : Mark) → MarkTaken (left line) (Some mark) (left rest) → false ≡ allowed standing mark →
        Err (fault BadMark n 1) ≡ line_of standing n bytes
    line_forbidden mark taken may = sym (by_mark (Some mark) taken ∙ rw (← may) refl)

    pub line_unmarked : MarkTaken (left line) None (left rest) → Err (fault BadMark n 1) ≡ line_of standing n bytes
    line_unmarked taken = sym (by_mark None taken)
