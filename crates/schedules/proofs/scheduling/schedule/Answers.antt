use Rattle.schedules.proofs.Law.{law}
use Rattle.schedules.proofs.scheduling.schedule.Goals as goal

pub returns : goal.returns
returns g c =
    record {
      rule = c.make.ensures;
      law =
          law (g.S.ClosedDays.closed c.args.set.now) c.args.deal.now c.args.table.now _
          (g.met.S.ClosedDays.lawful c.args.set.now) _ c.make.ensures;
    }
