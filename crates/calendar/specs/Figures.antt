-- Worked figures: dates, Easters and rolled days that are known from elsewhere, and that the rules above must yield.
-- Assumes nothing.
use Rattle.std.specs.Prelude.{ℕ, Bool, true, false, ◌&&◌, ◌||◌, List, [], ◌∷◌, pos, negsuc, Some, None, Option, ◌==◌}
use Rattle.days.specs.Calendar.{number_of, weekday_of}
use Rattle.days.specs.Easter.{easter_month, easter_day}
use Rattle.calendar.specs.declared.rolling.Convention.{Convention}
use Rattle.calendar.specs.declared.rolling.Convention.TheVariants.{Following, ModifiedFollowing, Preceding}
use Rattle.calendar.specs.Kinds.{pattern_closes, easter_closes}
use Rattle.calendar.specs.Rolling.{rolled}

-- Saturdays and Sundays, Good Friday and Easter Monday
abbrev pub weekends_and_easter : ℕ → Bool
weekends_and_easter n = pattern_closes 3 n || easter_closes (negsuc 1 ∷ pos 1 ∷ []) n

pub data Figure : Type 0 where
  -- year, month and day; the number of the day, and its weekday
  numbered : ℕ → ℕ → ℕ → ℕ → ℕ → Figure
  -- year, month and day of an Easter Sunday
  easter_on : ℕ → ℕ → ℕ → Figure
  -- a convention; a year; month and day, and the month and day rolled to
  rolls_to : Convention → ℕ → ℕ → ℕ → ℕ → ℕ → Figure

abbrev pub is_day : Option ℕ → ℕ → Bool
is_day None n = false
is_day (Some x) n = x == n

abbrev pub right : Figure → Bool
right (numbered y m d n weekday) = number_of y m d == n && weekday_of n == weekday
right (easter_on y m d) = easter_month y == m && easter_day y == d
right (rolls_to convention y m d m' d') =
    is_day (rolled weekends_and_easter convention (number_of y m d)) (number_of y m' d')

abbrev pub all_right : List Figure → Bool
all_right [] = true
all_right (figure ∷ figures) = right figure && all_right figures

abbrev pub figures : List Figure
figures =
    numbered 2000 1 1 36524 5 ∷
    easter_on 1981 4 19 ∷
    easter_on 2024 3 31 ∷
    rolls_to Following 2024 3 29 4 2 ∷
    rolls_to ModifiedFollowing 2024 3 29 3 28 ∷
    rolls_to Preceding 2024 3 29 3 28 ∷
    []
