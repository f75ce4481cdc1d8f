use Rattle.std.proofs.Common.{leb, arith}
use Rattle.days.specs.Calendar.{last_day, month_end}
use Rattle.days.proofs.Checks.{some_tells}
use Rattle.days.proofs.Ends.{end_after}
use Rattle.calendar.proofs.rolling.roll_modified.Goals as goal

pub first_open-requires : goal.first_open-requires
first_open-requires g c =
    let end = some_tells (leb c.args.day last_day) c.in_ok-end.end (month_end c.args.day) c.in_ok-end.ensures in
    omega (arith, end.1, end_after c.args.day c.requires)
