-- Lines that can be counted on.
-- Assumes nothing.
use Rattle.std.specs.Prelude.{ℕ, ◌≤◌}
use Rattle.text.specs.declared.standing.Standing.{Standing}
use Rattle.text.specs.declared.standing.Standing.TheVariants.{InCalendar, InHoldings, InCalls}

-- at most so many lines of a sort stand before
abbrev pub Upto : ℕ → Standing → Type 0
Upto n (InCalendar seen) = (seen.dates ≤ n) × (seen.offsets ≤ n)
Upto n (InHoldings count) = count ≤ n
Upto n InCalls = Unit {0}
