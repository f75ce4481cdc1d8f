use Rattle.std.proofs.Common.{sym}
use Rattle.schedules.proofs.Inners.{inside_less, inside_none, inside_whole}
use Rattle.schedules.proofs.dates.SoundDeal.inside.Goals as goal
use Rattle.schedules.proofs.dates.SoundDeal.inside.Goals.{else-steps-gt0-via-then-steps-gt0+else-not-encloses, else-steps-gt0-via-else-steps-gt0}

pub returns-then-not-encloses : goal.returns-then-not-encloses
returns-then-not-encloses c =
    inside_less c.args.self.now.deal c.args.self.now.sound _ _ c.steps-steps.ensures c.if-steps-gt0.true c.counted.ensures
    (sym c.if-not-encloses.ensures)

pub returns-else-steps-gt0 : goal.returns-else-steps-gt0
returns-else-steps-gt0 c =
    elim c.else-steps-gt0.branch [
      | else-steps-gt0-via-then-steps-gt0+else-not-encloses w ↦
          inside_whole c.args.self.now.deal c.args.self.now.sound _ _ c.steps-steps.ensures w.counted.ensures
          (sym w.if-not-encloses.ensures)
      | else-steps-gt0-via-else-steps-gt0 w ↦
          inside_none c.args.self.now.deal c.args.self.now.sound _ c.steps-steps.ensures w.if-steps-gt0.false
    ]
