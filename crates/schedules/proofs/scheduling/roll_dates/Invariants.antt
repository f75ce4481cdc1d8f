use Rattle.std.proofs.Common.{◌≡◌, ℕ, ◌<◌, get_or, Some}
use Rattle.calendar.specs.Rolling.{rolled}
use Rattle.schedules.specs.Dates.{dates}
use Rattle.schedules.proofs.scheduling.roll_dates.Given as goal

abbrev pub invariant-loop-index : goal.invariant-loop-index
invariant-loop-index g l =
    (k : ℕ) → k < l.index →
    rolled (g.S.ClosedDays.closed l.set) l.it.deal.convention (get_or (dates l.it.deal) k 0) ≡ Some (get_or l.slots k 0)
