use Rattle.std.proofs.Common.{◌≡◌, ℕ, ◌<◌, ◌≤◌, true}
use Rattle.calendar.proofs.rolling.first_open.Given as goal

abbrev pub invariant-loop-day : goal.invariant-loop-day
invariant-loop-day g l = (n : ℕ) → l.low ≤ n → n < l.day → g.S.ClosedDays.closed l.set n ≡ true
