use Rattle.std.proofs.Common.{arith}
use Rattle.schedules.specs.Dates.{steps}
use Rattle.schedules.proofs.Counts.{months_rise}
use Rattle.schedules.proofs.dates.SoundDeal.steps.Goals as goal

pub overflow_sub-result : goal.overflow_sub-result
overflow_sub-result c = omega (arith, months_rise c.args.self.now.deal c.args.self.now.sound)

pub returns : goal.returns
unfolding steps
returns c = cc
