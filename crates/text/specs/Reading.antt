-- The lines of a text in the caller's table.
-- Assumes nothing.
use Rattle.std.specs.Prelude.{◌≡◌, ℕ, ◌+◌, ◌<◌, ◌≤◌, List, [], ◌∷◌, ◌++◌, length, take, drop, Ok, Err, Result}
use Rattle.days.specs.declared.refusal.Refusal.TheVariants.{TextTooLong}
use Rattle.text.specs.declared.fault.Fault.{Fault}
use Rattle.text.specs.declared.line.Line.{Line}
use Rattle.text.specs.declared.standing.Standing.{Standing}
use Rattle.text.specs.declared.unread.Unread.{Unread}
use Rattle.text.specs.declared.unread.Unread.TheVariants.{NoRoom, Faulty}
use Rattle.text.specs.Cuts.{cut_lines}
use Rattle.text.specs.Fields.{fault}
use Rattle.text.specs.Lines.{line_of, mark_from}
use Rattle.text.specs.Marks.{start, next}
use Rattle.text.specs.Meaning.{longest_text, meaning}

abbrev pub line_count : List ℕ → ℕ
line_count text = length (cut_lines text).whole

-- a line, and those behind it up to a fault
abbrev pub before_fault : Result Line Fault → (Line → List Line) → List Line
before_fault (Ok line) later = line ∷ later line
before_fault (Err why) later = []

-- the lines from a number on that stand before the first faulty one
unfoldable pub front_lines : Standing → ℕ → List (List ℕ) → List Line
front_lines standing n [] = []
front_lines standing n (bytes ∷ later) =
    before_fault (line_of standing n bytes) (λ line. front_lines (next standing (mark_from line)) (n + 1) later)

abbrev pub front : List ℕ → List Line
front text = front_lines start 1 (cut_lines text).whole

-- a table with these lines at its front, and behind them what it held
abbrev pub headed : List Line → List Line → List Line
headed lines table = lines ++ drop (length lines) table

-- the text is good, and the table has its lines
pub record AllRead (text : List ℕ) (table : List Line) (n : ℕ) (after : List Line) : Type 0 where
  pub lines : meaning text ≡ Ok (take n after)
  pub within : n ≤ length after
  pub behind : drop n after ≡ drop n table

-- the text has a fault, and the table has the lines before it
pub record FrontRead (text : List ℕ) (table : List Line) (why : Fault) (after : List Line) : Type 0 where
  pub fault_is : meaning text ≡ Err why
  pub lines : after ≡ headed (front text) table

abbrev pub Fills : List ℕ → List Line → Result ℕ Fault → List Line → Type 0
Fills text table (Ok n) after = AllRead text table n after
Fills text table (Err why) after = FrontRead text table why after

abbrev pub Outcome : List ℕ → List Line → Result ℕ Unread → List Line → Type 0
Outcome text table (Ok n) after = AllRead text table n after
Outcome text table (Err NoRoom) after = ⊥
Outcome text table (Err (Faulty why)) after = FrontRead text table why after

-- the length is judged first, and then the room
pub record Reads (text : List ℕ) (table : List Line) (r : Result ℕ Unread) (after : List Line) : Type 0 where
  pub too_long : longest_text < length text → (r ≡ Err (Faulty (fault TextTooLong 0 0))) × (after ≡ table)
  pub no_room : length text ≤ longest_text → length table < line_count text → (r ≡ Err NoRoom) × (after ≡ table)
  pub fits : length text ≤ longest_text → line_count text ≤ length table → Outcome text table r after
