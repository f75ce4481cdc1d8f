-- One line: its mark decides what fields it has, and where it stands whether it may be there.
-- Assumes nothing.
use Rattle.std.specs.Prelude.{ℕ, ◌+◌, Bool, true, false, cond, List, [], ◌∷◌, length, Some, None, Ok, Err, Option, Result}
use Rattle.days.specs.declared.refusal.Refusal.TheVariants.{BadMark, TooMany}
use Rattle.text.specs.declared.fault.Fault.{Fault}
use Rattle.text.specs.declared.line.Line.{Line}
use Rattle.text.specs.declared.line.Line.TheVariants as line
use Rattle.text.specs.declared.mark.Mark.{Mark}
use Rattle.text.specs.declared.mark.Mark.TheVariants.{Pattern, ClosedDay, Offset, Deal, Holding, Advance, Transfer, Redemption, Posting, Payment}
use Rattle.text.specs.declared.standing.Standing.{Standing}
use Rattle.text.specs.Cuts.{Word, words}
use Rattle.text.specs.Fields.{fault, Each, Ending, and_then, fields, settle_each}
use Rattle.text.specs.Kinds.{Kind, date, number, pattern, offset, stub, convention, basis, Value}
use Rattle.text.specs.Marks.{mark_of, allowed, full}

-- the fields behind each mark
abbrev pub format : Mark → List Kind
format Pattern = pattern ∷ []
format ClosedDay = date ∷ []
format Offset = offset ∷ []
format Deal = date ∷ date ∷ number ∷ stub ∷ convention ∷ basis ∷ number ∷ []
format Holding = number ∷ []
format Advance = date ∷ []
format Transfer = number ∷ number ∷ number ∷ []
format Redemption = number ∷ number ∷ []
format Posting = []
format Payment = number ∷ []

-- the line of a mark and its values
abbrev pub line_from : (mark : Mark) → Each Value (format mark) → Line
line_from Pattern each = line.Pattern each.0
line_from ClosedDay each = line.ClosedDay each.0
line_from Offset each = line.Offset each.0
line_from Deal each =
    line.Deal
    (record {
      start = each.0;
      end = each.1.0;
      months = each.1.1.0;
      stub = each.1.1.1.0;
      convention = each.1.1.1.1.0;
      basis = each.1.1.1.1.1.0;
      rate = each.1.1.1.1.1.1.0;
    })
line_from Holding each = line.Holding each.0
line_from Advance each = line.Advance each.0
line_from Transfer each = line.Transfer each.0 each.1.0 each.1.1.0
line_from Redemption each = line.Redemption each.0 each.1.0
line_from Posting each = line.Posting
line_from Payment each = line.Payment each.0

abbrev pub unless_full : Bool → (mark : Mark) → ℕ → Each Value (format mark) → Result Line Fault
unless_full true mark n each = Err (fault TooMany n 1)
unless_full false mark n each = Ok (line_from mark each)

-- the line behind its mark
abbrev pub body_of : Standing → (mark : Mark) → Ending → List Word → Result Line Fault
body_of standing mark end words =
    and_then (fields (format mark) end words) (λ read.
    and_then (settle_each (format mark) read) (λ each. unless_full (full standing mark) mark end.line each))

abbrev pub known : Standing → Ending → List Word → Option Mark → Result Line Fault
known standing end later None = Err (fault BadMark end.line 1)
known standing end later (Some mark) =
    cond (allowed standing mark) (body_of standing mark end later) (Err (fault BadMark end.line 1))

abbrev pub marked : Standing → Ending → List Word → Result Line Fault
marked standing end [] = Err (fault BadMark end.line 1)
marked standing end (word ∷ later) = known standing end later (mark_of word.bytes)

-- a line by its number and its bytes, without the byte 10 that ends it
unfoldable pub line_of : Standing → ℕ → List ℕ → Result Line Fault
line_of standing n bytes =
    marked standing (record { line = n; column = length bytes + 1 }) (words 1 bytes)

-- the mark that a line was read from
abbrev pub mark_from : Line → Mark
mark_from line.Posting = Posting
mark_from (line.Pattern it) = Pattern
mark_from (line.ClosedDay it) = ClosedDay
mark_from (line.Offset it) = Offset
mark_from (line.Deal it) = Deal
mark_from (line.Holding it) = Holding
mark_from (line.Advance it) = Advance
mark_from (line.Transfer from to amount) = Transfer
mark_from (line.Redemption holder amount) = Redemption
mark_from (line.Payment it) = Payment
