-- Rolling a day off closed days, by the conventions of the trade.
-- Assumes nothing.
use Rattle.std.specs.Prelude.{ℕ, zero, suc, ◌+◌, ◌-◌, Bool, cond, Some, None, Option, nat_le}
use Rattle.days.specs.Calendar.{last_day, month_end}
use Rattle.calendar.specs.declared.rolling.Convention.{Convention}
use Rattle.calendar.specs.declared.rolling.Convention.TheVariants.{Following, ModifiedFollowing, Preceding, Unadjusted}

-- how far a day is rolled, at the most
abbrev pub reach : ℕ
reach = 30

-- the first open day of the `count` days from low on
unfoldable pub first_open : (ℕ → Bool) → ℕ → ℕ → Option ℕ
first_open closed low zero = None
first_open closed low (suc count) =
    let later = first_open closed (suc low) count in cond (closed low) later (Some low)

-- the last open day of the `count` days that end with high
unfoldable pub last_open : (ℕ → Bool) → ℕ → ℕ → Option ℕ
last_open closed high zero = None
last_open closed high (suc count) =
    let earlier = last_open closed (high - 1) count in cond (closed high) earlier (Some high)

abbrev pub or_else : Option ℕ → Option ℕ → Option ℕ
or_else None other = other
or_else (Some n) other = Some n

abbrev pub roll_forward : (ℕ → Bool) → ℕ → ℕ → Option ℕ
roll_forward closed low high = first_open closed low (suc high - low)

-- not below day 0
abbrev pub roll_back : (ℕ → Bool) → ℕ → Option ℕ
roll_back closed n = last_open closed n (suc n - (n - reach))

abbrev pub roll_within : (ℕ → Bool) → Convention → ℕ → Option ℕ
roll_within closed Following n = roll_forward closed n (n + reach)
roll_within closed ModifiedFollowing n = or_else (roll_forward closed n (month_end n)) (roll_back closed n)
roll_within closed Preceding n = roll_back closed n
roll_within closed Unadjusted n = Some n

-- where a day rolls to; a number above the range rolls to no day
abbrev pub rolled : (ℕ → Bool) → Convention → ℕ → Option ℕ
rolled closed convention n = cond (nat_le n last_day) (roll_within closed convention n) None
