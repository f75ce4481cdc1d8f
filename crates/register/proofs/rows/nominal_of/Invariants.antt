use Rattle.std.proofs.Common.{◌≡◌, ◌≤◌, take, sum}
use Rattle.register.proofs.rows.nominal_of.Given as goal

abbrev pub invariant-loop-holding : goal.invariant-loop-holding
invariant-loop-holding l = (l.nominal ≡ sum (take l.holding-index l.holdings)) × (l.nominal ≤ 10000000000)
