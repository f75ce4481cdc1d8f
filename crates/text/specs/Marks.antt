-- The marks of the lines, and where in a text each of them may stand.
-- Assumes nothing.
use Rattle.std.specs.Prelude.{ℕ, ◌+◌, Bool, true, false, cond, not, ◌&&◌, List, [], ◌∷◌, Some, None, Option, ◌==◌, nat_le}
use Rattle.text.specs.declared.mark.Mark.{Mark}
use Rattle.text.specs.declared.mark.Mark.TheVariants.{Pattern, ClosedDay, Offset, Deal, Holding, Advance, Transfer, Redemption, Posting, Payment}
use Rattle.text.specs.declared.standing.CalendarLines.{CalendarLines}
use Rattle.text.specs.declared.standing.Standing.{Standing}
use Rattle.text.specs.declared.standing.Standing.TheVariants.{InCalendar, InHoldings, InCalls}

-- CW, CD, CE, DL, HO, AD, TR, RD, PO, PY
abbrev pub spelled_mark : Mark → List ℕ
spelled_mark Pattern = 67 ∷ 87 ∷ []
spelled_mark ClosedDay = 67 ∷ 68 ∷ []
spelled_mark Offset = 67 ∷ 69 ∷ []
spelled_mark Deal = 68 ∷ 76 ∷ []
spelled_mark Holding = 72 ∷ 79 ∷ []
spelled_mark Advance = 65 ∷ 68 ∷ []
spelled_mark Transfer = 84 ∷ 82 ∷ []
spelled_mark Redemption = 82 ∷ 68 ∷ []
spelled_mark Posting = 80 ∷ 79 ∷ []
spelled_mark Payment = 80 ∷ 89 ∷ []

abbrev pub are : ℕ → ℕ → ℕ → ℕ → Bool
are a b x y = a == x && b == y

abbrev pub mark_of_two : ℕ → ℕ → Option Mark
mark_of_two a b =
    cond (are a b 67 87) (Some Pattern)
    (cond (are a b 67 68) (Some ClosedDay)
    (cond (are a b 67 69) (Some Offset)
    (cond (are a b 68 76) (Some Deal)
    (cond (are a b 72 79) (Some Holding)
    (cond (are a b 65 68) (Some Advance)
    (cond (are a b 84 82) (Some Transfer)
    (cond (are a b 82 68) (Some Redemption)
    (cond (are a b 80 79) (Some Posting) (cond (are a b 80 89) (Some Payment) None)))))))))

-- the mark that a word is: the whole first word of a line
abbrev pub mark_of : List ℕ → Option Mark
mark_of [] = None
mark_of (a ∷ []) = None
mark_of (a ∷ b ∷ []) = mark_of_two a b
mark_of (a ∷ b ∷ c ∷ rest) = None

-- what the places of the lines turn on
pub data Role : Type 0 where
  a_pattern : Role
  a_closed_day : Role
  an_offset : Role
  a_deal : Role
  a_holding : Role
  a_call : Role

abbrev pub role : Mark → Role
role Pattern = a_pattern
role ClosedDay = a_closed_day
role Offset = an_offset
role Deal = a_deal
role Holding = a_holding
role Advance = a_call
role Transfer = a_call
role Redemption = a_call
role Posting = a_call
role Payment = a_call

abbrev pub start : Standing
start = InCalendar (record { has_pattern = false; dates = 0; offsets = 0 })

abbrev pub most_closed_days : ℕ
most_closed_days = 512

abbrev pub most_offsets : ℕ
most_offsets = 8

abbrev pub most_holdings : ℕ
most_holdings = 16

-- before the first deal: the calendar, with one pattern at most
abbrev pub allowed_in_calendar : Bool → Role → Bool
allowed_in_calendar has_pattern a_pattern = not has_pattern
allowed_in_calendar has_pattern a_closed_day = true
allowed_in_calendar has_pattern an_offset = true
allowed_in_calendar has_pattern a_deal = true
allowed_in_calendar has_pattern a_holding = false
allowed_in_calendar has_pattern a_call = false

-- behind a deal: holdings, until the first call; calls; the next deal
abbrev pub allowed_in_deal : Bool → Role → Bool
allowed_in_deal before_calls a_pattern = false
allowed_in_deal before_calls a_closed_day = false
allowed_in_deal before_calls an_offset = false
allowed_in_deal before_calls a_deal = true
allowed_in_deal before_calls a_holding = before_calls
allowed_in_deal before_calls a_call = true

abbrev pub allowed : Standing → Mark → Bool
allowed (InCalendar seen) mark = allowed_in_calendar seen.has_pattern (role mark)
allowed (InHoldings count) mark = allowed_in_deal true (role mark)
allowed InCalls mark = allowed_in_deal false (role mark)

-- whether as many lines of this sort stand before as there may be
abbrev pub full_of : ℕ → ℕ → ℕ → Role → Bool
full_of days offsets holdings a_pattern = false
full_of days offsets holdings a_closed_day = nat_le most_closed_days days
full_of days offsets holdings an_offset = nat_le most_offsets offsets
full_of days offsets holdings a_deal = false
full_of days offsets holdings a_holding = nat_le most_holdings holdings
full_of days offsets holdings a_call = false

abbrev pub full : Standing → Mark → Bool
full (InCalendar seen) mark = full_of seen.dates seen.offsets 0 (role mark)
full (InHoldings count) mark = full_of 0 0 count (role mark)
full InCalls mark = full_of 0 0 0 (role mark)

-- where the next line stands
abbrev pub after_calendar : CalendarLines → Role → Standing
after_calendar seen a_pattern = InCalendar (record seen { has_pattern = true })
after_calendar seen a_closed_day = InCalendar (record seen { dates = seen.dates + 1 })
after_calendar seen an_offset = InCalendar (record seen { offsets = seen.offsets + 1 })
after_calendar seen a_deal = InHoldings 0
after_calendar seen a_holding = InCalls
after_calendar seen a_call = InCalls

abbrev pub after_deal : Standing → Role → Standing
after_deal one_more a_pattern = InCalls
after_deal one_more a_closed_day = InCalls
after_deal one_more an_offset = InCalls
after_deal one_more a_deal = InHoldings 0
after_deal one_more a_holding = one_more
after_deal one_more a_call = InCalls

abbrev pub next : Standing → Mark → Standing
next (InCalendar seen) mark = after_calendar seen (role mark)
next (InHoldings count) mark = after_deal (InHoldings (count + 1)) (role mark)
next InCalls mark = after_deal InCalls (role mark)
