-- What holds of every text and its reading, in terms of the lines that the format can write.
-- Assumes nothing.
use Rattle.std.specs.Prelude.{◌≡◌, ℕ, ◌+◌, ◌^◌, ◌<◌, ◌≤◌, true, false, List, [], ◌∷◌, ◌++◌, length, is_ok, Decides, Result, MatchResult, ◌≢◌, count_ones}
use Rattle.days.specs.Calendar.{last_day}
use Rattle.calendar.specs.Kinds.{within_sixty}
use Rattle.text.specs.declared.fault.Fault.{Fault}
use Rattle.text.specs.declared.line.Line.{Line}
use Rattle.text.specs.declared.standing.Standing.{Standing}
use Rattle.text.specs.Fields.{Each}
use Rattle.text.specs.Kinds.{Kind, date, number, pattern, offset, stub, convention, basis, Value}
use Rattle.text.specs.Lines.{format, mark_from}
use Rattle.text.specs.Marks.{start, allowed, full, next, spelled_mark}
use Rattle.text.specs.Meaning.{longest_text}
use Rattle.text.specs.Spelled.{spelled, values, spelled_line, written}

-- the values that a text may have
abbrev pub InRange : (kind : Kind) → Value kind → Type 0
InRange date day = day ≤ last_day
InRange number n = n < 10 ^ 11
InRange pattern mask = (mask < 128) × (count_ones mask ≤ 6)
InRange offset z = within_sixty z ≡ true
InRange stub s = Unit {0}
InRange convention c = Unit {0}
InRange basis b = Unit {0}

-- each value is one that a text may have, and knows its line and the column where its spelling begins
abbrev pub InPlace : ℕ → ℕ → (kinds : List Kind) → Each Value kinds → Type 0
InPlace line column [] each = Unit {0}
InPlace line column (kind ∷ kinds) each =
    InRange kind each.0.value × (each.0.line ≡ line) × (each.0.column ≡ column)
    × InPlace line (column + length (spelled kind each.0.value) + 1) kinds each.1

-- the line with this number is well formed: behind its mark and a space its values begin
abbrev pub WellFormed : ℕ → Line → Type 0
WellFormed n l = InPlace n (length (spelled_mark (mark_from l)) + 2) (format (mark_from l)) (values l)

-- it may stand there, after what stands before it
pub record MayStand (standing : Standing) (l : Line) : Type 0 where
  pub is_allowed : allowed standing (mark_from l) ≡ true
  pub has_room : full standing (mark_from l) ≡ false

-- lines from a number on, each well formed and allowed where it stands
abbrev pub GoodLines : Standing → ℕ → List Line → Type 0
GoodLines standing n [] = Unit {0}
GoodLines standing n (l ∷ ls) =
    WellFormed n l × MayStand standing l × GoodLines (next standing (mark_from l)) (n + 1) ls

-- where a line stands behind others
abbrev pub behind : Standing → List Line → Standing
behind standing [] = standing
behind standing (l ∷ ls) = behind (next standing (mark_from l)) ls

-- a text that good lines spell
pub record IsWritten (text : List ℕ) : Type 0 where
  pub lines : List Line
  pub good : GoodLines start 1 lines
  pub spells : written lines ≡ text
  pub short : length text ≤ longest_text

-- the lines before the faulty one are good, and no good line can stand where it stands
pub record FirstFaulty (text : List ℕ) (n : ℕ) : Type 0 where
  pub before : List Line
  pub rest : List ℕ
  pub good : GoodLines start 1 before
  pub spells : written before ++ rest ≡ text
  pub number : length before + 1 ≡ n
  pub some_left : 0 < length rest
  pub faulty :
      (l : Line) (later : List ℕ) → WellFormed n l → MayStand (behind start before) l →
      spelled_line l ++ later ≢ rest

-- too long, with line 0; or not, with the number of the first faulty line
abbrev pub Refused : List ℕ → Fault → Type 0
Refused text fault = (length text ≤ longest_text → FirstFaulty text fault.line) × (longest_text < length text → fault.line ≡ 0)

pub record TextLaw (text : List ℕ) (r : Result (List Line) Fault) : Type 0 where
  pub accepted_exactly_when_good_lines_spell_it : Decides (is_ok r) (IsWritten text)
  pub read_and_written_again : MatchResult r (λ lines. GoodLines start 1 lines × (written lines ≡ text)) (λ fault. Refused text fault)
