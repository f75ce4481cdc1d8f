use mathlib.Core.Path.{refl}
use Rattle.days.specs.Calendar.{leap, year_of, day_in_year, month_of, day_of}
use Rattle.days.specs.Easter.{computus}
use Rattle.days.specs.Spans.{start_of, span_from}
use Rattle.calendar.specs.Rolling.{first_open, last_open}
use Rattle.schedules.specs.Dates.{month_number, month_days, on_day, counted, steps, inner, dates}
use Rattle.schedules.specs.Schedule.{roll_all, clash_from, first_clash}
use Rattle.figures.proofs.worked_figures.Goals as goal

pub returns : goal.returns
unfolding leap start_of span_from year_of day_in_year month_of day_of computus first_open last_open month_number month_days on_day counted steps inner dates roll_all clash_from first_clash
returns c = record { count = refl; right = refl }
