use Rattle.register.specs.Rows.{accrued}
use Rattle.register.proofs.Sweeps.{sweep_more}
use Rattle.register.proofs.rows.accrue_rows.Goals as goal

pub loop-row-preserved : goal.loop-row-preserved
loop-row-preserved c =
    sweep_more (accrued c.args.rate c.args.n) c.args.rows.now c.loop-row.rows c.loop-row.row-index _
    c.loop-row-test.true c.loop-row.invariant c.accrue.ensures
