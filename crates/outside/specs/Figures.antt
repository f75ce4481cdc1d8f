-- When a figure is right, by the definitions of the calendar and of the computus.
-- Assumes nothing.
use Rattle.std.specs.Prelude.{◌≡◌, ℕ, ◌≤◌}
use Rattle.days.specs.Calendar.{first_year, last_year, IsDate, number_of, weekday_of}
use Rattle.days.specs.Easter.{easter_month, easter_day}
use Rattle.days.specs.declared.dates.Date.{Date}
use Rattle.outside.specs.declared.figures.DatedDay.{DatedDay}

abbrev pub IsYear : ℕ → Type 0
IsYear y = (first_year ≤ y) × (y ≤ last_year)

-- a date of the range
abbrev pub Dated : Date → Type 0
Dated date = IsDate date.year date.month date.day

abbrev pub day_number : Date → ℕ
day_number date = number_of date.year date.month date.day

-- Easter Sunday of its year
pub record IsEaster (date : Date) : Type 0 where
  pub inside : IsYear date.year
  pub month : date.month ≡ easter_month date.year
  pub day : date.day ≡ easter_day date.year

pub record IsDatedDay (figure : DatedDay) : Type 0 where
  pub dated : Dated figure.date
  pub numbered : figure.number ≡ day_number figure.date
  pub weekday : figure.weekday ≡ weekday_of figure.number
