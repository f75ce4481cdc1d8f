use Rattle.std.proofs.Common.{◌≡◌, ◌++◌, map, take, drop}
use Rattle.register.specs.Rows.{posted, total_units}
use Rattle.register.proofs.rows.post_rows.Given as goal

abbrev pub invariant-loop-row : goal.invariant-loop-row
invariant-loop-row l =
    (l.rows ≡ map (posted l.v) (take l.row-index l.initial.rows) ++ drop l.row-index l.initial.rows)
    × (l.units ≡ total_units l.v (take l.row-index l.initial.rows))
