-- Worked figures: schedules that are known from elsewhere, and that the rules must yield.
-- Assumes nothing.
use Rattle.std.specs.Prelude.{ℕ, Bool, true, false, ◌&&◌, List, [], ◌∷◌, Ok, Err, Result, ◌==◌}
use Rattle.days.specs.Calendar.{number_of}
use Rattle.days.specs.Refusals.{Told}
use Rattle.calendar.specs.Kinds.{pattern_closes}
use Rattle.calendar.specs.declared.rolling.Convention.{Convention}
use Rattle.calendar.specs.declared.rolling.Convention.TheVariants.{Following, Preceding, Unadjusted}
use Rattle.schedules.specs.declared.deal.Deal.{Deal}
use Rattle.schedules.specs.declared.deal.Stub.{Stub}
use Rattle.schedules.specs.declared.deal.Stub.TheVariants.{ShortFirst, ShortLast}
use Rattle.schedules.specs.Dates.{inner}
use Rattle.schedules.specs.Schedule.{scheduled}

-- a start and an end
pub record Term : Type 0 where
  pub from : ℕ
  pub to : ℕ

pub data Figure : Type 0 where
  -- by so many months: the dates between start and end
  between : Stub → Term → ℕ → List ℕ → Figure
  -- with weekends closed: the days of an accepted schedule, or the number and the place of its refusal
  accepts : Stub → Convention → Term → ℕ → List ℕ → Figure
  refuses : Stub → Convention → Term → ℕ → ℕ → ℕ → Figure

abbrev pub deal_of : Stub → Convention → Term → ℕ → Deal
deal_of stub convention term months =
    record { start = term.from; end = term.to; months = months; stub = stub; convention = convention }

abbrev pub same_days : List ℕ → List ℕ → Bool
same_days [] [] = true
same_days [] (y ∷ ys) = false
same_days (x ∷ xs) [] = false
same_days (x ∷ xs) (y ∷ ys) = x == y && same_days xs ys

abbrev pub is_accepted : Result (List ℕ) Told → List ℕ → Bool
is_accepted (Ok days) known = same_days days known
is_accepted (Err why) known = false

abbrev pub is_refused : Result (List ℕ) Told → ℕ → ℕ → Bool
is_refused (Ok days) number place = false
is_refused (Err why) number place = why.number == number && why.place == place

-- Saturdays and Sundays
abbrev pub weekends : ℕ → Bool
weekends n = pattern_closes 3 n

abbrev pub right : Figure → Bool
right (between stub term months known) = same_days (inner (deal_of stub Unadjusted term months)) known
right (accepts stub convention term months known) =
    is_accepted (scheduled weekends (deal_of stub convention term months) 481) known
right (refuses stub convention term months number place) =
    is_refused (scheduled weekends (deal_of stub convention term months) 481) number place

abbrev pub all_right : List Figure → Bool
all_right [] = true
all_right (figure ∷ figures) = right figure && all_right figures

-- 15 January to 31 December, and 1 June to 3 September
abbrev pub year : Term
year = record { from = number_of 2024 1 15; to = number_of 2024 12 31 }

abbrev pub summer : Term
summer = record { from = number_of 2024 6 1; to = number_of 2024 9 3 }

abbrev pub figures : List Figure
figures =
    between ShortFirst year 3 (number_of 2024 3 31 ∷ number_of 2024 6 30 ∷ number_of 2024 9 30 ∷ []) ∷
    between ShortLast year 3 (number_of 2024 4 15 ∷ number_of 2024 7 15 ∷ number_of 2024 10 15 ∷ []) ∷
    refuses ShortFirst Following summer 3 13 1 ∷
    accepts ShortFirst Preceding summer 3 (number_of 2024 5 31 ∷ number_of 2024 6 3 ∷ number_of 2024 9 3 ∷ []) ∷
    []
