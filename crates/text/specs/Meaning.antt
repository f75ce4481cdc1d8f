-- What a text means: its lines, or the first fault.
-- Assumes nothing.
use Rattle.std.specs.Prelude.{ℕ, ◌+◌, cond, List, [], ◌∷◌, length, Ok, Err, Result, nat_lt}
use Rattle.days.specs.declared.refusal.Refusal.TheVariants.{TextTooLong, LineNotEnded}
use Rattle.text.specs.declared.fault.Fault.{Fault}
use Rattle.text.specs.declared.line.Line.{Line}
use Rattle.text.specs.declared.standing.Standing.{Standing}
use Rattle.text.specs.Cuts.{cut_lines}
use Rattle.text.specs.Fields.{fault, and_then}
use Rattle.text.specs.Lines.{line_of, mark_from}
use Rattle.text.specs.Marks.{start, next}

abbrev pub longest_text : ℕ
longest_text = 65536

abbrev pub all_ended : ℕ → List ℕ → Result (List Line) Fault
all_ended n [] = Ok []
all_ended n (b ∷ bs) = Err (fault LineNotEnded n 1)

-- the lines from a number on, and what is left behind the last byte 10
unfoldable pub read_lines : Standing → ℕ → List (List ℕ) → List ℕ → Result (List Line) Fault
read_lines standing n [] left = all_ended n left
read_lines standing n (bytes ∷ later) left =
    and_then (line_of standing n bytes) (λ line.
    and_then (read_lines (next standing (mark_from line)) (n + 1) later left) (λ lines. Ok (line ∷ lines)))

unfoldable pub meaning : List ℕ → Result (List Line) Fault
meaning text =
    let cut = cut_lines text in
    cond (nat_lt longest_text (length text)) (Err (fault TextTooLong 0 0)) (read_lines start 1 cut.whole cut.left)
