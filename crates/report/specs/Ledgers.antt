-- A text that is opened as a ledger, and the reports of its deals.
-- Assumes nothing.
use Rattle.std.specs.Prelude.{◌≡◌, ℕ, cond, List, length, Some, None, Ok, Err, Option, Result, nat_lt}
use Rattle.std.specs.List.{slice_get}
use Rattle.days.specs.declared.refusal.Refusal.{Refusal}
use Rattle.days.specs.declared.refusal.Refusal.TheVariants.{TextTooLong, NoSuchDeal, BufferFull}
use Rattle.text.specs.Fields.{fault}
use Rattle.text.specs.Meaning.{longest_text, meaning}
use Rattle.text.specs.Reading.{line_count}
use Rattle.text.specs.declared.fault.Fault.{Fault}
use Rattle.text.specs.declared.line.Line.{Line}
use Rattle.text.specs.declared.unread.Unread.{Unread}
use Rattle.text.specs.declared.unread.Unread.TheVariants.{NoRoom, Faulty}
use Rattle.writing.specs.Laying.{Laid}
use Rattle.writing.specs.declared.laying.Full.{Full}
use Rattle.report.specs.declared.stopped.Stopped.{Stopped}
use Rattle.report.specs.Deals.{DealLines, deals_of}
use Rattle.report.specs.Laws.{ReportLaw}
use Rattle.report.specs.Parts.{closed_by}
use Rattle.report.specs.Reports.{report_lines}

-- the lines of a text, where the second table has a place for each
abbrev pub with_room : ℕ → Result (List Line) Fault → Result (List Line) Unread
with_room deals (Ok lines) = cond (nat_lt deals (length lines)) (Err NoRoom) (Ok lines)
with_room deals (Err why) = Err (Faulty why)

-- what a text is opened as, with so many places for lines and so many for deals: its length is judged first, then the
-- room for lines, then the text, then the room for deals
abbrev pub opened_text : List ℕ → ℕ → ℕ → Result (List Line) Unread
opened_text text lines deals =
    cond (nat_lt longest_text (length text)) (Err (Faulty (fault TextTooLong 0 0)))
    (cond (nat_lt lines (line_count text)) (Err NoRoom) (with_room deals (meaning text)))

abbrev pub stopped : Unread → ℕ → Stopped
stopped why written = record { why = why; written = written }

-- a refusal that no place in the text causes
abbrev pub stopped_by : Refusal → ℕ → Stopped
stopped_by refusal written = stopped (Faulty (fault refusal 0 0)) written

-- a full buffer is refused, with the bytes of the whole lines before
abbrev pub as_told : Result ℕ Full → Result ℕ Stopped
as_told (Ok end) = Ok end
as_told (Err full) = Err (stopped_by BufferFull full.written)

-- the lines stand in the buffer as far as they fit
pub record Delivered (lines : List (List ℕ)) (buffer : List ℕ) (r : Result ℕ Stopped) (after : List ℕ) : Type 0 where
  pub laid : Result ℕ Full
  pub stands : Laid lines buffer 0 laid after
  pub told : r ≡ as_told laid

-- the report of a deal that there is
abbrev pub DealReported : List Line → Option DealLines → List ℕ → Result ℕ Full → List ℕ → Type 0
DealReported lines None buffer r after = ⊥
DealReported lines (Some deal) buffer r after = Laid (report_lines (closed_by lines) deal) buffer 0 r after

-- nothing is written
abbrev pub Withheld : Unread → List ℕ → Result ℕ Stopped → List ℕ → Type 0
Withheld why buffer r after = (r ≡ Err (stopped why 0)) × (after ≡ buffer)

-- the report of a deal over the closed days of the lines, or there is no such deal
abbrev pub ReportOf : List Line → Option DealLines → List ℕ → Result ℕ Stopped → List ℕ → Type 0
ReportOf lines None buffer r after = Withheld (Faulty (fault NoSuchDeal 0 0)) buffer r after
ReportOf lines (Some deal) buffer r after = Delivered (report_lines (closed_by lines) deal) buffer r after

-- the report of deal k, counted from 0, of a text that was opened, or refused
abbrev pub Reported : Result (List Line) Unread → ℕ → List ℕ → Result ℕ Stopped → List ℕ → Type 0
Reported (Ok lines) k buffer r after = ReportOf lines (slice_get (deals_of lines) k) buffer r after
Reported (Err why) k buffer r after = Withheld why buffer r after

-- the law of interest on the report of deal k
abbrev pub LawOfReport : Result (List Line) Unread → ℕ → Type 0
LawOfReport opened k =
    (lines : List Line) (deal : DealLines) → opened ≡ Ok lines → slice_get (deals_of lines) k ≡ Some deal →
    ReportLaw (closed_by lines) deal
