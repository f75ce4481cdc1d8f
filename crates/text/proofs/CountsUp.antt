-- A line adds at most one to what stands before.
-- Assumes nothing.
use Rattle.std.proofs.Common.{ℕ, ◌+◌, ◌≤◌, arith}
use Rattle.text.specs.declared.mark.Mark.{Mark}
use Rattle.text.specs.declared.standing.CalendarLines.{CalendarLines}
use Rattle.text.specs.declared.standing.Standing.{Standing}
use Rattle.text.specs.declared.standing.Standing.TheVariants.{InCalendar, InHoldings, InCalls}
use Rattle.text.specs.Counts.{Upto}
use Rattle.text.specs.Marks.{Role, a_pattern, a_closed_day, an_offset, a_deal, a_holding, a_call, role, after_calendar, after_deal, next}

in_calendar :
    (n : ℕ) (seen : CalendarLines) (r : Role) → seen.dates ≤ n → seen.offsets ≤ n → Upto (n + 1) (after_calendar seen r)
in_calendar n seen a_pattern d o = (omega arith, omega arith)
in_calendar n seen a_closed_day d o = (omega arith, omega arith)
in_calendar n seen an_offset d o = (omega arith, omega arith)
in_calendar n seen a_deal d o = omega arith
in_calendar n seen a_holding d o = tt
in_calendar n seen a_call d o = tt

in_deal : (n : ℕ) (one_more : Standing) (r : Role) → Upto (n + 1) one_more → Upto (n + 1) (after_deal one_more r)
in_deal n one_more a_pattern h = tt
in_deal n one_more a_closed_day h = tt
in_deal n one_more an_offset h = tt
in_deal n one_more a_deal h = omega arith
in_deal n one_more a_holding h = h
in_deal n one_more a_call h = tt

pub upto_next : (n : ℕ) (standing : Standing) (mark : Mark) → Upto n standing → Upto (n + 1) (next standing mark)
upto_next n (InCalendar seen) mark (d, o) = in_calendar n seen (role mark) d o
upto_next n (InHoldings count) mark h = in_deal n (InHoldings (count + 1)) (role mark) (omega arith)
upto_next n InCalls mark h = in_deal n InCalls (role mark) tt
