use Rattle.register.proofs.Runs.{fresh_after}
use Rattle.register.proofs.state.Register.new.Goals as goal

pub returns-clause-law : goal.returns-clause-law
returns-clause-law g c =
    rw (c.none.ensures.0, c.none.ensures.1, c.opened.ensures.rows, c.opened.ensures.start.0, c.opened.ensures.start.1)
    (fresh_after (g.D.DayCount.counted c.args.basis) g.D.DayCount.per (g.met.D.DayCount.lawful c.args.basis))
