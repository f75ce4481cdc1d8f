use Rattle.std.proofs.Common.{◌≡◌, arith}
use Rattle.days.specs.Calendar.{year_of, month_of}
use Rattle.counts.specs.Bases.{place, bond_second}
use Rattle.counts.specs.Places.{bond_order}
use Rattle.counts.proofs.thirty.bond_within.Goals as goal

pub overflow_sub-result : goal.overflow_sub-result
overflow_sub-result c =
    let b = c.args.b in
    let order = bond_order c.args.a b c.requires.0 c.requires.1 in
    let second : c.place_of.result ≡ place (year_of b) (month_of b) (bond_second c.args.a b) =
    rw (c.bond_second_day-day.ensures, c.date_within-first.ensures.value, c.date_within-second.ensures.value) at c.place_of.ensures
    in
    omega arith
