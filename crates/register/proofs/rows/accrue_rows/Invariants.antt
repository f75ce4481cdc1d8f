use Rattle.std.proofs.Common.{◌≡◌, ◌++◌, map, take, drop}
use Rattle.register.specs.Rows.{accrued}
use Rattle.register.proofs.rows.accrue_rows.Given as goal

abbrev pub invariant-loop-row : goal.invariant-loop-row
invariant-loop-row l =
    l.rows ≡ map (accrued l.rate l.n) (take l.row-index l.initial.rows) ++ drop l.row-index l.initial.rows
