use Rattle.std.proofs.Common.{◌≡◌, ◌≤◌, ◌++◌, length, take, drop}
use Rattle.report.specs.Parts.{holding_in, leading}
use Rattle.report.proofs.deal.copy_holdings.Given as goal

abbrev pub invariant-loop-i : goal.invariant-loop-i
invariant-loop-i l =
    (l.i ≤ length l.table)
    × (take l.i l.table ++ leading holding_in (drop l.i l.lines) ≡ leading holding_in l.lines)
