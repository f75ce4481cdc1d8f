use Rattle.std.proofs.Common.{leb, sym, ap, ◌∙◌, arith}
use Rattle.days.specs.Calendar.{last_day, date, year_of, month_of, day_of}
use Rattle.days.specs.declared.dates.Date.{Date}
use Rattle.days.proofs.Checks.{some_tells}
use Rattle.days.proofs.Round.{lossless}
use Rattle.schedules.specs.Dates.{month_number}
use Rattle.schedules.proofs.months.month_and_day.Goals as goal

pub returns : goal.returns
unfolding month_number
returns c =
    let n = c.args.day in
    let is_date = lossless.each_number_has_a_date n c.requires in
    let is =
    (some_tells (leb n last_day) c.unwrap-date.result (date (year_of n) (month_of n) (day_of n))
    (sym c.unwrap-date.ensures ∙ c.of.ensures.value)).1
    in
    let y = ap (λ (t : Date). t.year) is in
    let m = ap (λ (t : Date). t.month) is in
    let d = ap (λ (t : Date). t.day) is in
    record { month = omega arith; day = d; low = omega arith; high = omega arith }
