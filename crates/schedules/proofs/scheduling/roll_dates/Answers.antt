use Rattle.std.proofs.Common.{arith}
use Rattle.schedules.proofs.Inners.{inner_length, dates_length}
use Rattle.schedules.proofs.scheduling.roll_dates.Goals as goal

pub date_at-date-requires : goal.date_at-date-requires
date_at-date-requires g c =
    let deal = c.args.it.now.deal in
    let long = inner_length deal c.args.it.now.sound in
    let all = dates_length deal c.args.it.now.sound in
    record { inside = c.inside-inside.ensures; within = omega arith }
