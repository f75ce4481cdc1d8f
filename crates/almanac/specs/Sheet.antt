-- What the sheet of a year says of a day.
-- Assumes nothing.
use Rattle.std.specs.Prelude.{◌≡◌, ℕ, Bool, ◌&&◌, nat_lt}
use Rattle.days.specs.Calendar.{weekday_of, number_of, month_length, IsMonth}
use Rattle.calendar.specs.declared.rolling.Convention.TheVariants.{Following, ModifiedFollowing, Preceding}
use Rattle.calendar.specs.Rolling.{rolled}
use Rattle.almanac.specs.declared.sheet.MonthEnd.{MonthEnd}

-- a closed day from Monday to Friday
abbrev pub closed_weekday : (ℕ → Bool) → ℕ → Bool
closed_weekday closed n = nat_lt (weekday_of n) 5 && closed n

-- the last day of a month, and where the conventions take it
pub record IsMonthEnd (closed : ℕ → Bool) (y m : ℕ) (e : MonthEnd) : Type 0 where
  pub month : IsMonth y m
  pub day : e.day ≡ number_of y m (month_length y m)
  pub is_closed : e.closed ≡ closed e.day
  pub following : e.following ≡ rolled closed Following e.day
  pub modified : e.modified ≡ rolled closed ModifiedFollowing e.day
  pub preceding : e.preceding ≡ rolled closed Preceding e.day
