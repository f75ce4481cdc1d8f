-- The line behind its mark, wherever it stands.
-- Assumes nothing.
use Rattle.std.specs.Prelude.{◌≡◌, List, Ok, Option, Result}
use Rattle.text.specs.declared.fault.Fault.{Fault}
use Rattle.text.specs.declared.fields.Fields.{Fields}
use Rattle.text.specs.declared.line.Line.{Line}
use Rattle.text.specs.declared.mark.Mark.{Mark}
use Rattle.text.specs.declared.standing.Standing.{Standing}
use Rattle.text.specs.Cuts.{Word}
use Rattle.text.specs.Fields.{Each, Ending, and_then, fields, settle_each}
use Rattle.text.specs.Kinds.{Kind, Said}
use Rattle.text.specs.Left.{left, ending}
use Rattle.text.specs.Lines.{format, line_from, marked, known}

-- the line that was read, if each value is one that a text may have
abbrev pub settled_line : (mark : Mark) → Each Said (format mark) → Result Line Fault
settled_line mark read = and_then (settle_each (format mark) read) (λ each. Ok (line_from mark each))

-- the fields that are left, and what is made of them
unfoldable pub fields_then : (kinds : List Kind) → Fields → (Each Said kinds → Result Line Fault) → Result Line Fault
fields_then kinds line made = and_then (fields kinds (ending line) (left line)) made

abbrev pub body : Mark → Fields → Result Line Fault
body mark line = fields_then (format mark) line (settled_line mark)

-- the mark is taken: the line is, wherever it stands, what that mark and the words behind it make of it
abbrev pub MarkTaken : List Word → Option Mark → List Word → Type 0
MarkTaken words mark later = (standing : Standing) (end : Ending) → marked standing end words ≡ known standing end later mark
