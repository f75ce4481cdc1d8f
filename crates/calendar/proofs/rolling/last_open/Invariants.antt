use Rattle.std.proofs.Common.{◌≡◌, ℕ, ◌<◌, ◌≤◌, true}
use Rattle.calendar.proofs.rolling.last_open.Given as goal

abbrev pub invariant-loop-day : goal.invariant-loop-day
invariant-loop-day g l = (n : ℕ) → l.day < n → n ≤ l.high → g.S.ClosedDays.closed l.set n ≡ true
