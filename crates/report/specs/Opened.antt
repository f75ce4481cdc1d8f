-- What a ledger was opened as.
-- Assumes nothing.
use Rattle.std.specs.Prelude.{List, Some, None, Ok, Err, Option, Result}
use Rattle.text.specs.declared.line.Line.{Line}
use Rattle.text.specs.declared.unread.Unread.{Unread}
use Rattle.report.specs.declared.ledger.Ledger.{Ledger}

-- the lines, unless the text was refused
abbrev pub unless_refused : Option Unread → List Line → Result (List Line) Unread
unless_refused None lines = Ok lines
unless_refused (Some why) lines = Err why

abbrev pub opened : Ledger → Result (List Line) Unread
opened ledger = unless_refused ledger.refused ledger.lines.now
