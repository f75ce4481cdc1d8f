use Rattle.std.proofs.Common.{arith}
use Rattle.std.proofs.lemmas.Result.{err_from_is_err_and}
use Rattle.calendar.specs.Rolling.{rolled}
use Rattle.schedules.specs.Dates.{dates}
use Rattle.schedules.proofs.Makes.{refused_12, refused_13, accepted}
use Rattle.schedules.proofs.scheduling.lay_out.Goals as goal

pub returns-in_err-roll_dates : goal.returns-in_err-roll_dates
returns-in_err-roll_dates g c =
    let roll = rolled (g.S.ClosedDays.closed c.args.set.now) c.args.it.now.deal.convention in
    let p = err_from_is_err_and c.from_residual.result c.from_residual.ensures.1 in
    let why = c.in_err-roll_dates.ensures in
    rw (p.1, p.2) (refused_12 roll (dates c.args.it.now.deal) c.args.table.now _ why.0 why.1 why.2)

pub returns-in-Some : goal.returns-in-Some
returns-in-Some g c =
    let roll = rolled (g.S.ClosedDays.closed c.args.set.now) c.args.it.now.deal.convention in
    refused_13 roll (dates c.args.it.now.deal) c.args.table.now c.roll_dates.new.slots c.in-Some.index
    (omega arith) c.in_ok-roll_dates.ensures c.in-Some.ensures

pub returns : goal.returns
returns g c =
    let roll = rolled (g.S.ClosedDays.closed c.args.set.now) c.args.it.now.deal.convention in
    accepted roll (dates c.args.it.now.deal) c.args.table.now c.roll_dates.new.slots
    c.copy_from_slice.new.self (omega arith) c.in_ok-roll_dates.ensures c.in_default.ensures
    c.copy_from_slice.ensures.after
