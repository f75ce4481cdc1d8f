-- What each kind of closed-day set closes.
-- Assumes nothing.
use Rattle.std.specs.Prelude.{◌≡◌, ℕ, ◌-◌, ◌/◌, ◌%◌, ◌^◌, ◌<◌, ◌≤◌, Bool, true, ◌||◌, List, length, ℤ, pos, negsuc, ◌+ℤ◌, ◌-ℤ◌, ◌==◌, nat_le, nat_lt, slice_index_or}
use Rattle.std.specs.List.{list_any, list_all}
use Rattle.std.specs.Ordering.{int_eq}
use Rattle.days.specs.Calendar.{weekday_of, year_of, last_day, first_year, last_year}
use Rattle.days.specs.Easter.{easter_of}
use Rattle.calendar.specs.Closed.{above_range}

-- seven bits, Monday first: 64 is Monday, 1 is Sunday
abbrev pub marks : ℕ → ℕ → Bool
marks mask weekday = mask / 2 ^ (6 - weekday) % 2 == 1

abbrev pub pattern_closes : ℕ → ℕ → Bool
pattern_closes mask n = above_range n || marks mask (weekday_of n)

abbrev pub listed : List ℕ → ℕ → Bool
listed days n = list_any (λ day. day == n) days

abbrev pub list_closes : List ℕ → ℕ → Bool
list_closes days n = above_range n || listed days n

abbrev pub offset_listed : List ℤ → ℤ → Bool
offset_listed offsets z = list_any (λ offset. int_eq offset z) offsets

-- the day stands at one of the offsets from the Easter of its year
abbrev pub easter_closes : List ℤ → ℕ → Bool
easter_closes offsets n = above_range n || offset_listed offsets (pos n -ℤ pos (easter_of (year_of n)))

-- in each year Easter plus each offset is closed, and within the range nothing else
pub record ClosesAroundEaster (closed : ℕ → Bool) (offsets : List ℤ) : Type 0 where
  pub each_year :
      (y i n : ℕ) → first_year ≤ y → y ≤ last_year → i < length offsets →
      pos n ≡ pos (easter_of y) +ℤ slice_index_or offsets i (pos 0) → closed n ≡ true
  pub nothing_else :
      (n : ℕ) → n ≤ last_day → closed n ≡ true →
      (y : ℕ) × (i : ℕ) × (first_year ≤ y) × (y ≤ last_year) × (i < length offsets)
      × (pos n ≡ pos (easter_of y) +ℤ slice_index_or offsets i (pos 0))

abbrev pub within_sixty : ℤ → Bool
within_sixty (pos a) = nat_le a 60
within_sixty (negsuc a) = nat_lt a 60

abbrev pub all_within_sixty : List ℤ → Bool
all_within_sixty = list_all within_sixty
