-- What each line of a text adds to it: to its calendar, to its deals, or to the calls on a deal.
-- Assumes nothing.
use Rattle.std.specs.Prelude.{ℕ, Bool, ◌||◌, List, [], ◌∷◌, ℤ, Some, None, Option, slice_index}
use Rattle.calendar.specs.Kinds.{pattern_closes, list_closes, easter_closes}
use Rattle.register.specs.Calls.{Call, advance, transfer, redemption, posting, payment}
use Rattle.text.specs.declared.line.Line.{Line}
use Rattle.text.specs.declared.line.Line.TheVariants as line
use Rattle.text.specs.declared.line.Terms.{Terms}

pub data Part : Type 0 where
  closed_weekdays : ℕ → Part
  closed_day : ℕ → Part
  closed_by_easter : ℤ → Part
  a_deal : Terms → Part
  a_holding : ℕ → Part
  a_call : Call → Part

abbrev pub part : Line → Part
part line.Posting = a_call posting
part (line.Pattern mask) = closed_weekdays mask.value
part (line.ClosedDay day) = closed_day day.value
part (line.Offset offset) = closed_by_easter offset.value
part (line.Deal terms) = a_deal terms
part (line.Holding amount) = a_holding amount.value
part (line.Advance day) = a_call (advance day.value)
part (line.Transfer from to amount) = a_call (transfer from.value to.value amount.value)
part (line.Redemption holder amount) = a_call (redemption holder.value amount.value)
part (line.Payment holder) = a_call (payment holder.value)

-- what one part says of each of these
abbrev pub pattern_in : Part → Option ℕ
pattern_in (closed_weekdays mask) = Some mask
pattern_in (closed_day day) = None
pattern_in (closed_by_easter offset) = None
pattern_in (a_deal terms) = None
pattern_in (a_holding amount) = None
pattern_in (a_call call) = None

abbrev pub day_in : Part → Option ℕ
day_in (closed_weekdays mask) = None
day_in (closed_day day) = Some day
day_in (closed_by_easter offset) = None
day_in (a_deal terms) = None
day_in (a_holding amount) = None
day_in (a_call call) = None

abbrev pub offset_in : Part → Option ℤ
offset_in (closed_weekdays mask) = None
offset_in (closed_day day) = None
offset_in (closed_by_easter offset) = Some offset
offset_in (a_deal terms) = None
offset_in (a_holding amount) = None
offset_in (a_call call) = None

abbrev pub terms_in : Part → Option Terms
terms_in (closed_weekdays mask) = None
terms_in (closed_day day) = None
terms_in (closed_by_easter offset) = None
terms_in (a_deal terms) = Some terms
terms_in (a_holding amount) = None
terms_in (a_call call) = None

abbrev pub holding_in : Part → Option ℕ
holding_in (closed_weekdays mask) = None
holding_in (closed_day day) = None
holding_in (closed_by_easter offset) = None
holding_in (a_deal terms) = None
holding_in (a_holding amount) = Some amount
holding_in (a_call call) = None

abbrev pub call_in : Part → Option Call
call_in (closed_weekdays mask) = None
call_in (closed_day day) = None
call_in (closed_by_easter offset) = None
call_in (a_deal terms) = None
call_in (a_holding amount) = None
call_in (a_call call) = Some call

-- what is found in any of the lines
abbrev pub put_first : {X : Type 0} → Option X → List X → List X
put_first None later = later
put_first (Some x) later = x ∷ later

abbrev pub gathered : {X : Type 0} → (Part → Option X) → List Line → List X
gathered find [] = []
gathered find (l ∷ ls) = put_first (find (part l)) (gathered find ls)

-- what the lines begin with, up to the first that has none of it
abbrev pub lead : {X : Type 0} → Option X → List X → List X
lead None later = []
lead (Some x) later = x ∷ later

abbrev pub leading : {X : Type 0} → (Part → Option X) → List Line → List X
leading find [] = []
leading find (l ∷ ls) = lead (find (part l)) (leading find ls)

-- the weekday pattern of a text; without one no weekday is closed
abbrev pub mask_of : List Line → ℕ
mask_of lines = slice_index (gathered pattern_in lines) 0

abbrev pub days_of : List Line → List ℕ
days_of lines = gathered day_in lines

abbrev pub offsets_of : List Line → List ℤ
offsets_of lines = gathered offset_in lines

-- the closed days of a text: those of the Easter rule, of the list and of the pattern
abbrev pub closes : List ℤ → List ℕ → ℕ → ℕ → Bool
closes offsets days mask n = easter_closes offsets n || (list_closes days n || pattern_closes mask n)

abbrev pub closed_by : List Line → ℕ → Bool
closed_by lines = closes (offsets_of lines) (days_of lines) (mask_of lines)
