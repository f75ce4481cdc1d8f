-- Dates, weekdays, layers and refusals as text.
-- Assumes nothing.
use Rattle.std.specs.Prelude.{ℕ, ◌-◌, ◌^◌, ◌++◌, List, Option, Some, None, false, [], ◌∷◌, codes, decimal}
use Rattle.std.specs.Fmt.{padded_integral, format_spec}
use Rattle.days.specs.declared.dates.Date.{Date}
use Rattle.days.specs.declared.week.Weekday.{Weekday}
use Rattle.days.specs.declared.week.Weekday.TheVariants.{Monday, Tuesday, Wednesday, Thursday, Friday, Saturday, Sunday}
use Rattle.days.specs.declared.refusal.Layer.{Layer}
use Rattle.days.specs.declared.refusal.Layer.TheVariants.{Text, Calendar, Deal, Register}
use Rattle.days.specs.Refusals.{Told}

-- a number with zeros in front, up to a width
abbrev pub zeros_and : ℕ → ℕ → List ℕ
zeros_and width n = padded_integral (format_spec 32 0 4 width (2 ^ 64 - 1)) false [] (decimal n)

-- yyyy-mm-dd
abbrev pub date_text : Date → List ℕ
date_text d = zeros_and 4 d.year ++ (codes "-" ++ (zeros_and 2 d.month ++ (codes "-" ++ zeros_and 2 d.day)))

abbrev pub date_or_none_text : Option Date → List ℕ
date_or_none_text (Some d) = date_text d
date_or_none_text None = codes "none"

abbrev pub weekday_name : Weekday → List ℕ
weekday_name Monday = codes "Monday"
weekday_name Tuesday = codes "Tuesday"
weekday_name Wednesday = codes "Wednesday"
weekday_name Thursday = codes "Thursday"
weekday_name Friday = codes "Friday"
weekday_name Saturday = codes "Saturday"
weekday_name Sunday = codes "Sunday"

abbrev pub letter : Layer → ℕ
letter Text = 84
letter Calendar = 67
letter Deal = 68
letter Register = 82

abbrev pub told_text : Told → List ℕ
told_text t =
    decimal t.number ++ (codes ", layer " ++ ((letter t.layer ∷ []) ++ (codes ", place " ++ decimal t.place)))
