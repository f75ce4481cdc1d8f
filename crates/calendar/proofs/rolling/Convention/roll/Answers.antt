use Rattle.std.proofs.Common.{inl, inr, rules}
use Rattle.calendar.proofs.Rolls.{rolled_is, not_rolled, keeps_order, ends_open}
use Rattle.calendar.proofs.rolling.Convention.roll.Goals as goal

pub returns-then-day-gt-LAST_DAY : goal.returns-then-day-gt-LAST_DAY
returns-then-day-gt-LAST_DAY g c =
    let closed = g.S.ClosedDays.closed c.args.set.now in
    let above = c.if-day-gt-LAST_DAY.true in
    let none = not_rolled closed c.args.self c.args.day above in
    record {
      value = search rules;
      extreme = inr (above, search rules);
      order = keeps_order closed c.args.self;
      ends_open = ends_open closed c.args.self;
    }

pub returns : goal.returns
returns g c =
    let closed = g.S.ClosedDays.closed c.args.set.now in
    let range = c.if-day-gt-LAST_DAY.false in
    record {
      value = rolled_is closed c.args.self c.args.day _ range c.roll_within.ensures;
      extreme = inl (range, c.roll_within.ensures);
      order = keeps_order closed c.args.self;
      ends_open = ends_open closed c.args.self;
    }
