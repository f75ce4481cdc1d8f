use Rattle.std.proofs.Common.{arith}
use Rattle.schedules.proofs.Inners.{inner_length, dates_length}
use Rattle.schedules.proofs.Gaps.{dates_few}
use Rattle.schedules.proofs.dates.SoundDeal.count.Goals as goal

pub returns : goal.returns
returns c =
    let deal = c.args.self.now.deal in
    let long = inner_length deal c.args.self.now.sound in
    let all = dates_length deal c.args.self.now.sound in
    let few = dates_few deal c.args.self.now.sound in
    record { value = omega arith; few = omega arith }
