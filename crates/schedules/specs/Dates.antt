-- The dates of a deal before they are rolled. Months are counted from January 1900, month 0.
-- Assumes nothing.
use Rattle.std.specs.Prelude.{ℕ, ◌+◌, ◌-◌, ◌*◌, ◌/◌, ◌%◌, ◌<◌, ◌≤◌, min, Bool, ◌&&◌, ◌||◌, List, [], ◌∷◌, ◌++◌, map, reverse, filter, ◌==◌, nat_le, nat_lt}
use Rattle.std.specs.List.{range_with_len}
use Rattle.days.specs.Calendar.{first_year, last_day, month_length, number_of, year_of, month_of, day_of}
use Rattle.schedules.specs.declared.deal.Stub.{Stub}
use Rattle.schedules.specs.declared.deal.Stub.TheVariants.{ShortFirst, ShortLast}
use Rattle.schedules.specs.declared.deal.Deal.{Deal}

-- from a start to an end there are at most this many days
abbrev pub longest_term : ℕ
longest_term = 14600

-- and at most this many dates: 479 months inside forty years, the start and the end
abbrev pub most_dates : ℕ
most_dates = 481

-- the start is before the end, and the end neither too far from it nor above the range
abbrev pub good_term : Deal → Bool
good_term deal =
    nat_lt deal.start deal.end && (nat_le deal.end (deal.start + longest_term) && nat_le deal.end last_day)

-- the numbers of months that a schedule may go by
abbrev pub good_months : ℕ → Bool
good_months m = m == 1 || (m == 2 || (m == 3 || (m == 4 || (m == 6 || m == 12))))

-- the month that holds a day
unfoldable pub month_number : ℕ → ℕ
month_number n = 12 * (year_of n - first_year) + (month_of n - 1)

-- how many days a month has
unfoldable pub month_days : ℕ → ℕ
month_days i = month_length (first_year + i / 12) (1 + i % 12)

-- day d of month i, or the last day of that month where it is shorter
unfoldable pub on_day : ℕ → ℕ → ℕ
on_day i d = number_of (first_year + i / 12) (1 + i % 12) (min d (month_days i))

-- the date that is k times the months of the deal from its end, or from its start
abbrev pub counted_by : Stub → Deal → ℕ → ℕ
counted_by ShortFirst deal k = on_day (month_number deal.end - k * deal.months) (day_of deal.end)
counted_by ShortLast deal k = on_day (month_number deal.start + k * deal.months) (day_of deal.start)

unfoldable pub counted : Deal → ℕ → ℕ
counted deal k = counted_by deal.stub deal k

abbrev pub is_inside : Deal → ℕ → Bool
is_inside deal date = nat_lt deal.start date && nat_lt date deal.end

-- how often the months of the deal go into the months of its term
unfoldable pub steps : Deal → ℕ
steps deal = (month_number deal.end - month_number deal.start) / deal.months

abbrev pub in_order : Stub → List ℕ → List ℕ
in_order ShortFirst dates = reverse dates
in_order ShortLast dates = dates

-- the counted dates strictly between start and end, rising
unfoldable pub inner : Deal → List ℕ
inner deal = in_order deal.stub (filter (is_inside deal) (map (counted deal) (range_with_len 1 (steps deal))))

unfoldable pub dates : Deal → List ℕ
dates deal = deal.start ∷ (inner deal ++ deal.end ∷ [])

-- what the dates of a deal are counted by
pub record Sound (deal : Deal) : Type 0 where
  pub rises : deal.start < deal.end
  pub near : deal.end ≤ deal.start + longest_term
  pub in_range : deal.end ≤ last_day
  pub some_months : 1 ≤ deal.months
  pub few_months : deal.months ≤ 12
