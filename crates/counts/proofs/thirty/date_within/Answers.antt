use Rattle.std.proofs.Common.{leb, sym, ◌∙◌}
use Rattle.days.specs.Calendar.{date, year_of, month_of, day_of, last_day}
use Rattle.days.proofs.Checks.{some_tells}
use Rattle.days.proofs.Parts.{found_date}
use Rattle.counts.proofs.thirty.date_within.Goals as goal

pub returns : goal.returns
returns c =
    let n = c.args.day in
    let is = sym c.unwrap.ensures ∙ c.of.ensures.value in
    let tells = some_tells (leb n last_day) c.unwrap.result (date (year_of n) (month_of n) (day_of n)) is in
    let d = found_date n c.unwrap.result.year c.unwrap.result.month c.unwrap.result.day is in
    record { value = tells.1; bounds = (d.year_to, d.month_to, d.day_to) }
