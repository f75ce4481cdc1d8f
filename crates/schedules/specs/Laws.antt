-- What holds of every schedule, over every closed-day set.
-- Assumes nothing.
use Rattle.std.specs.Prelude.{◌≡◌, ℕ, ◌+◌, ◌-◌, ◌*◌, ◌<◌, ◌≤◌, min, Bool, true, false, ◌⊎◌, List, length, is_some, is_ok, IfOk, Some, Decides, Result, ◌≢◌, slice_index, slice_index_or}
use Rattle.days.specs.Calendar.{last_day, month_length, year_of, month_of, day_of}
use Rattle.days.specs.declared.refusal.Refusal.{Refusal}
use Rattle.calendar.specs.Rolling.{rolled}
use Rattle.calendar.specs.declared.rolling.Convention.TheVariants.{Unadjusted}
use Rattle.schedules.specs.declared.deal.Deal.{Deal}
use Rattle.schedules.specs.declared.deal.Stub.{Stub}
use Rattle.schedules.specs.declared.deal.Stub.TheVariants.{ShortFirst, ShortLast}
use Rattle.schedules.specs.Dates.{longest_term, most_dates, month_number, dates}

-- from a date to the next there are at most this many days
abbrev pub widest_period : ℕ
widest_period = 800

-- a deal that neither its term nor its months speak against
pub record WellFormed (deal : Deal) : Type 0 where
  pub rises : deal.start < deal.end
  pub near : deal.end ≤ deal.start + longest_term
  pub in_range : deal.end ≤ last_day
  pub months :
      (deal.months ≡ 1)
      ⊎ ((deal.months ≡ 2) ⊎ ((deal.months ≡ 3) ⊎ ((deal.months ≡ 4) ⊎ ((deal.months ≡ 6) ⊎ (deal.months ≡ 12)))))

-- x has the anchor's day of the month, cut to the length of its own month
abbrev pub SameDay : ℕ → ℕ → Type 0
SameDay anchor x = day_of x ≡ min (day_of anchor) (month_length (year_of x) (month_of x))

-- the month of x is k times the months before that of the end, or after that of the start
abbrev pub CountsTo : Stub → Deal → ℕ → ℕ → Type 0
CountsTo ShortFirst deal k x = (month_number x + k * deal.months ≡ month_number deal.end) × SameDay deal.end x
CountsTo ShortLast deal k x = (month_number x ≡ month_number deal.start + k * deal.months) × SameDay deal.start x

abbrev pub Inside : Deal → ℕ → Type 0
Inside deal x = (deal.start < x) × (x < deal.end) × ((k : ℕ) × CountsTo deal.stub deal k x)

abbrev pub Among : ℕ → List ℕ → Type 0
Among x xs = (k : ℕ) × (k < length xs) × (slice_index xs k ≡ x)

-- the dates before rolling: the start, the end, and every counted date strictly between, rising
pub record DatesAre (deal : Deal) : Type 0 where
  pub each_is_one : (x : ℕ) → Among x (dates deal) → (x ≡ deal.start) ⊎ ((x ≡ deal.end) ⊎ Inside deal x)
  pub start_is_there : Among deal.start (dates deal)
  pub end_is_there : Among deal.end (dates deal)
  pub each_inside_is_there : (x : ℕ) → Inside deal x → Among x (dates deal)
  pub rise : (k : ℕ) → k + 1 < length (dates deal) → slice_index (dates deal) k < slice_index (dates deal) (k + 1)

-- period k goes from date k to before the next one; x lies in one period and in no other
pub record InOnePeriod (days : List ℕ) (n x : ℕ) : Type 0 where
  pub period : ℕ
  pub is_one : period + 1 < n
  pub from : slice_index_or days period 0 ≤ x
  pub to : x < slice_index days (period + 1)
  pub only : (k : ℕ) → k + 1 < n → slice_index days k ≤ x → x < slice_index days (k + 1) → k ≡ period

-- an accepted schedule of n dates, and the table that begins with it
pub record Accepted (closed : ℕ → Bool) (deal : Deal) (table after : List ℕ) (n : ℕ) : Type 0 where
  pub well_formed : WellFormed deal
  pub all_the_dates : n ≡ length (dates deal)
  pub begins_with_rolled_dates :
      (k : ℕ) → k < n → rolled closed deal.convention (slice_index (dates deal) k) ≡ Some (slice_index after k)
  pub unchanged_beyond : (k : ℕ) → n ≤ k → slice_index after k ≡ slice_index table k
  pub rises : (k : ℕ) → k + 1 < n → slice_index after k < slice_index after (k + 1)
  pub each_day_in_one_period :
      (x : ℕ) → slice_index after 0 ≤ x → x < slice_index after (n - 1) → InOnePeriod after n x
  pub periods_begin_open :
      (deal.convention ≢ Unadjusted) → (k : ℕ) → k < n → closed (slice_index after k) ≡ false
  pub in_range : (k : ℕ) → k < n → slice_index after k ≤ last_day
  pub neighbours_near : (k : ℕ) → k + 1 < n → slice_index after (k + 1) ≤ slice_index after k + widest_period
  pub one_period_at_least : 2 ≤ n
  pub few : n ≤ most_dates

-- a deal that is well formed, has room in the table, and each of whose dates has a day to roll to
pub record Ready (closed : ℕ → Bool) (deal : Deal) (room : ℕ) : Type 0 where
  pub well_formed : WellFormed deal
  pub fits : length (dates deal) ≤ room
  pub each_rolls :
      (k : ℕ) → k < length (dates deal) → is_some (rolled closed deal.convention (slice_index (dates deal) k)) ≡ true

-- no two neighbouring dates roll to one day
abbrev pub NeighboursApart : (ℕ → Bool) → Deal → Type 0
NeighboursApart closed deal =
    (k : ℕ) → k + 1 < length (dates deal) →
    rolled closed deal.convention (slice_index (dates deal) k)
    ≢ rolled closed deal.convention (slice_index (dates deal) (k + 1))

-- what a call with this table answered, and what the table held after it
pub record ScheduleLaw
    (closed : ℕ → Bool) (deal : Deal) (table : List ℕ) (r : Result ℕ Refusal) (after : List ℕ) : Type 0 where
  pub accepted_exactly_when_apart :
      Ready closed deal (length table) → Decides (is_ok r) (NeighboursApart closed deal)
  pub accepted : IfOk r (Accepted closed deal table after)
  pub dates_are : WellFormed deal → DatesAre deal
