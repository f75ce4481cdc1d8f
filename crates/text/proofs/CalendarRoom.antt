-- Good lines have few lines of the calendar: each that is allowed takes from the room that its place leaves.
-- Assumes nothing.
use Rattle.std.proofs.Common.{◌≡◌, ℕ, ◌+◌, ◌-◌, ◌≤◌, Bool, true, false, cond, List, [], ◌∷◌, refl, arith}
use Rattle.std.proofs.lemmas.Bool.{false≢true, leb-false}
use Rattle.text.specs.declared.line.Line.{Line}
use Rattle.text.specs.declared.standing.CalendarLines.{CalendarLines}
use Rattle.text.specs.declared.standing.Standing.{Standing}
use Rattle.text.specs.declared.standing.Standing.TheVariants.{InCalendar, InHoldings, InCalls}
use Rattle.text.specs.Laws.{GoodLines, MayStand}
use Rattle.text.specs.Lines.{mark_from}
use Rattle.text.specs.Marks.{Role, a_pattern, a_closed_day, an_offset, a_deal, a_holding, a_call, role, start, next, allowed_in_calendar, allowed_in_deal, full_of, after_calendar, after_deal, most_closed_days, most_offsets}
use Rattle.text.proofs.RoleCounts.{is_role, lines_of}

abbrev NoneOf : ℕ → ℕ → ℕ → Type 0
NoneOf a b c = (a ≡ 0) × (b ≡ 0) × (c ≡ 0)

-- so many patterns, closed days and offsets still have room where a line stands
abbrev HasRoom : Standing → ℕ → ℕ → ℕ → Type 0
HasRoom (InCalendar seen) a b c =
    (a ≤ cond seen.has_pattern 0 1) × (b ≤ most_closed_days - seen.dates) × (c ≤ most_offsets - seen.offsets)
HasRoom (InHoldings count) a b c = NoneOf a b c
HasRoom InCalls a b c = NoneOf a b c

-- and with the line that stands there
abbrev HasRoomWith : Standing → Role → ℕ → ℕ → ℕ → Type 0
HasRoomWith standing r a b c =
    HasRoom standing (cond (is_role a_pattern r) 1 0 + a) (cond (is_role a_closed_day r) 1 0 + b) (cond (is_role an_offset r) 1 0 + c)

none_more : (a b c : ℕ) → NoneOf a b c → NoneOf (0 + a) (0 + b) (0 + c)
none_more a b c none = (omega (arith, none.0), omega (arith, none.1), omega (arith, none.2))

no_pattern :
    (has_pattern : Bool) (a : ℕ) → allowed_in_calendar has_pattern a_pattern ≡ true → a ≤ 0 → 1 + a ≤ cond has_pattern 0 1
no_pattern true a ok later = absurd (false≢true ok)
no_pattern false a ok later = omega arith

room_in_calendar :
    (seen : CalendarLines) (r : Role) (a b c : ℕ) → allowed_in_calendar seen.has_pattern r ≡ true →
    full_of seen.dates seen.offsets 0 r ≡ false → HasRoom (after_calendar seen r) a b c →
    HasRoomWith (InCalendar seen) r a b c
room_in_calendar seen a_pattern a b c ok room later =
    (no_pattern seen.has_pattern a ok later.0, omega (arith, later.1), omega (arith, later.2))
room_in_calendar seen a_closed_day a b c ok room later =
    (omega (arith, later.0), omega (arith, later.1, leb-false most_closed_days seen.dates room), omega (arith, later.2))
room_in_calendar seen an_offset a b c ok room later =
    (omega (arith, later.0), omega (arith, later.1), omega (arith, later.2, leb-false most_offsets seen.offsets room))
room_in_calendar seen a_deal a b c ok room later =
    (omega (arith, later.0), omega (arith, later.1), omega (arith, later.2))
room_in_calendar seen a_holding a b c ok room later = absurd (false≢true ok)
room_in_calendar seen a_call a b c ok room later = absurd (false≢true ok)

-- behind a deal no line of the calendar is allowed; one more holding leaves no room for any either
room_in_deal :
    (before_calls : Bool) (one_more : Standing) (r : Role) (a b c : ℕ) → (HasRoom one_more a b c → NoneOf a b c) →
    allowed_in_deal before_calls r ≡ true → HasRoom (after_deal one_more r) a b c → HasRoomWith InCalls r a b c
room_in_deal before_calls one_more a_pattern a b c none ok later = absurd (false≢true ok)
room_in_deal before_calls one_more a_closed_day a b c none ok later = absurd (false≢true ok)
room_in_deal before_calls one_more an_offset a b c none ok later = absurd (false≢true ok)
room_in_deal before_calls one_more a_deal a b c none ok later = none_more a b c later
room_in_deal before_calls one_more a_holding a b c none ok later = none_more a b c (none later)
room_in_deal before_calls one_more a_call a b c none ok later = none_more a b c later

room_more :
    (standing : Standing) (l : Line) (a b c : ℕ) → MayStand standing l → HasRoom (next standing (mark_from l)) a b c →
    HasRoomWith standing (role (mark_from l)) a b c
room_more (InCalendar seen) l a b c stands later =
    room_in_calendar seen (role (mark_from l)) a b c stands.is_allowed stands.has_room later
room_more (InHoldings count) l a b c stands later =
    room_in_deal true (InHoldings (count + 1)) (role (mark_from l)) a b c (λ h. h) stands.is_allowed later
room_more InCalls l a b c stands later =
    room_in_deal false InCalls (role (mark_from l)) a b c (λ h. h) stands.is_allowed later

room_for_none : (standing : Standing) → HasRoom standing 0 0 0
room_for_none (InCalendar seen) = (omega arith, omega arith, omega arith)
room_for_none (InHoldings count) = (refl, refl, refl)
room_for_none InCalls = (refl, refl, refl)

room_for_all :
    (lines : List Line) (standing : Standing) (n : ℕ) → GoodLines standing n lines →
    HasRoom standing (lines_of a_pattern lines) (lines_of a_closed_day lines) (lines_of an_offset lines)
room_for_all [] standing n good = room_for_none standing
room_for_all (l ∷ ls) standing n (formed, stands, later) =
    room_more standing l _ _ _ stands (room_for_all ls (next standing (mark_from l)) (n + 1) later)

-- a text has few lines of the calendar
pub record FewCalendarLines (lines : List Line) : Type 0 where
  pub patterns : lines_of a_pattern lines ≤ 1
  pub closed_days : lines_of a_closed_day lines ≤ most_closed_days
  pub offsets : lines_of an_offset lines ≤ most_offsets

pub few_calendar_lines : (lines : List Line) → GoodLines start 1 lines → FewCalendarLines lines
few_calendar_lines lines good =
    let room = room_for_all lines start 1 good in
    record { patterns = room.0; closed_days = room.1; offsets = room.2 }
