-- What a rolled day is, as the least or the greatest open day of a stretch.
-- Assumes nothing.
use Rattle.std.specs.Prelude.{◌≡◌, ℕ, ◌+◌, ◌-◌, ◌<◌, ◌≤◌, Bool, true, false, ◌⊎◌, Some, None, Option, MatchOption, ◌≢◌}
use Rattle.days.specs.Calendar.{last_day, month_end}
use Rattle.calendar.specs.declared.rolling.Convention.{Convention}
use Rattle.calendar.specs.declared.rolling.Convention.TheVariants.{Following, ModifiedFollowing, Preceding, Unadjusted}
use Rattle.calendar.specs.Rolling.{reach, rolled}

abbrev pub NoneOpen : (ℕ → Bool) → ℕ → ℕ → Type 0
NoneOpen closed low high = (n : ℕ) → low ≤ n → n ≤ high → closed n ≡ true

-- x is the least open day from low to high
pub record Least (closed : ℕ → Bool) (low high x : ℕ) : Type 0 where
  pub from : low ≤ x
  pub to : x ≤ high
  pub is_open : closed x ≡ false
  pub before : (n : ℕ) → low ≤ n → n < x → closed n ≡ true

-- x is the greatest open day from low to high
pub record Greatest (closed : ℕ → Bool) (low high x : ℕ) : Type 0 where
  pub from : low ≤ x
  pub to : x ≤ high
  pub is_open : closed x ≡ false
  pub after : (n : ℕ) → x < n → n ≤ high → closed n ≡ true

abbrev pub LeastOrNone : (ℕ → Bool) → ℕ → ℕ → Option ℕ → Type 0
LeastOrNone closed low high r = MatchOption r (NoneOpen closed low high) (Least closed low high)

abbrev pub GreatestOrNone : (ℕ → Bool) → ℕ → ℕ → Option ℕ → Type 0
GreatestOrNone closed low high r = MatchOption r (NoneOpen closed low high) (Greatest closed low high)

-- by convention, of a day of the range
abbrev pub RollsWithin : (ℕ → Bool) → Convention → ℕ → Option ℕ → Type 0
RollsWithin closed Following n r = LeastOrNone closed n (n + reach) r
RollsWithin closed ModifiedFollowing n r =
    MatchOption r ⊥ (Least closed n (month_end n))
    ⊎ (NoneOpen closed n (month_end n) × GreatestOrNone closed (n - reach) n r)
RollsWithin closed Preceding n r = GreatestOrNone closed (n - reach) n r
RollsWithin closed Unadjusted n r = r ≡ Some n

abbrev pub Rolls : (ℕ → Bool) → Convention → ℕ → Option ℕ → Type 0
Rolls closed convention n r = ((n ≤ last_day) × RollsWithin closed convention n r) ⊎ ((last_day < n) × (r ≡ None))

-- of two days the later never rolls to an earlier day
abbrev pub KeepsOrder : (ℕ → Bool) → Convention → Type 0
KeepsOrder closed convention =
    (a b x y : ℕ) → a ≤ b → rolled closed convention a ≡ Some x → rolled closed convention b ≡ Some y → x ≤ y

-- a rolled day is open, unless the convention looks at no set
abbrev pub EndsOpen : (ℕ → Bool) → Convention → Type 0
EndsOpen closed convention =
    (n x : ℕ) → (convention ≢ Unadjusted) → rolled closed convention n ≡ Some x → closed x ≡ false
