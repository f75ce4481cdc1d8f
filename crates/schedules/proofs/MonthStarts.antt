-- The months laid end to end, from January 1900 on.
-- Assumes nothing.
use Rattle.std.proofs.Common.{◌≡◌, ℕ, zero, suc, ◌+◌, ◌-◌, ◌*◌, ◌/◌, ◌%◌, ◌<◌, ◌≤◌, min, refl, ap, ◌∙◌, ⊎_elim, arith}
use Rattle.std.proofs.lemmas.Bool.{cases_lt}
use Rattle.days.specs.Spans.{start_of}
use Rattle.days.specs.Within.{Within}
use Rattle.days.specs.Calendar.{leap, year_span, month_span, month_length, year_of, month_of, day_of, last_day}
use Rattle.days.proofs.Spans.{start_suc, start_mono}
use Rattle.days.proofs.Months.{year_has, month_size}
use Rattle.days.proofs.Round.{number_at, lossless}
use Rattle.schedules.specs.Dates.{month_number, month_days, on_day}

-- the number of days of a month, by the indexes of its year and of the month in it
pub days_is : (i : ℕ) → month_days i ≡ month_span (leap (1900 + i / 12)) (i % 12)
unfolding month_days
days_is i = let e : 1 + i % 12 - 1 ≡ i % 12 = omega arith in rw e refl

pub days_size : (i : ℕ) → (28 ≤ month_days i) × (month_days i ≤ 31)
days_size i = rw days_is (month_size (leap (1900 + i / 12)) (i % 12) (omega arith))

-- the days before a month are those before its year and those before it in the year
pub starts :
    (i : ℕ) →
    start_of month_days i ≡ start_of year_span (i / 12) + start_of (month_span (leap (1900 + i / 12))) (i % 12)
unfolding start_of
starts zero = refl
starts (suc i) =
    let here = starts i in
    let few = days_is i in
    let rest = start_suc (month_span (leap (1900 + i / 12))) (i % 12) in
    ⊎_elim
    (λ (inside : i % 12 < 11).
    let year : suc i / 12 ≡ i / 12 = omega arith in
    let month : suc i % 12 ≡ suc (i % 12) = omega arith in
    rw (year, month) (omega arith))
    (λ (last : 11 ≤ i % 12).
    let year : suc i / 12 ≡ suc (i / 12) = omega arith in
    let month : suc i % 12 ≡ 0 = omega arith in
    let december : suc (i % 12) ≡ 12 = omega arith in
    let whole = year_has (leap (1900 + i / 12)) in
    let all = ap (start_of (month_span (leap (1900 + i / 12)))) december in
    rw (year, month) (omega arith))
    (cases_lt (i % 12) 11)

pub on_day_is : (i d : ℕ) → on_day i d ≡ start_of month_days i + (min d (month_days i) - 1)
unfolding on_day
on_day_is i d = number_at (i / 12) (i % 12) (min d (month_days i)) ∙ omega (arith, starts i)

-- a counted date lies in its month
pub on_day_within : (i d : ℕ) → 1 ≤ d → Within month_days (on_day i d) i
on_day_within i d some =
    let is = on_day_is i d in
    let size = days_size i in
    let next = start_suc month_days i in
    record { from = omega arith; to = omega arith }

-- day, month and year of a day lead back to it
pub on_day_back : (n : ℕ) → n ≤ last_day → on_day (month_number n) (day_of n) ≡ n
unfolding on_day month_number month_days
on_day_back n h =
    let date = lossless.each_number_has_a_date n h in
    let y : 1900 + (12 * (year_of n - 1900) + (month_of n - 1)) / 12 ≡ year_of n = omega arith in
    let m : 1 + (12 * (year_of n - 1900) + (month_of n - 1)) % 12 ≡ month_of n = omega arith in
    let few : min (day_of n) (month_length (year_of n) (month_of n)) ≡ day_of n = omega (arith, date.day_to) in
    rw (y, m, few) (lossless.number_leads_back n h)

pub day_from : (n : ℕ) → n ≤ last_day → 1 ≤ day_of n
day_from n h = (lossless.each_number_has_a_date n h).day_from

pub month_within : (n : ℕ) → n ≤ last_day → Within month_days n (month_number n)
month_within n h = rw (on_day_back n h) at (on_day_within (month_number n) (day_of n) (day_from n h))

pub month_below : (n : ℕ) → n ≤ last_day → month_number n < 3600
unfolding month_number
month_below n h = let date = lossless.each_number_has_a_date n h in omega arith

-- days of two months stand in the order of the months
pub earlier_month : (i j x y : ℕ) → Within month_days x i → Within month_days y j → i < j → x < y
earlier_month i j x y p q h = omega (arith, start_mono month_days (suc i) j h, p.to, q.from)

pub month_mono : (a b : ℕ) → a ≤ b → b ≤ last_day → month_number a ≤ month_number b
month_mono a b h range =
    ⊎_elim
    (λ (before : month_number b < month_number a).
    let later = month_within a (omega arith) in
    absurd (omega (arith, earlier_month (month_number b) (month_number a) b a (month_within b range) later before)))
    (λ (after : month_number a ≤ month_number b). after)
    (cases_lt (month_number b) (month_number a))

-- counted from one day, later months have later dates
pub on_day_rises : (i j d : ℕ) → 1 ≤ d → i < j → on_day i d < on_day j d
on_day_rises i j d some h = earlier_month i j (on_day i d) (on_day j d) (on_day_within i d some) (on_day_within j d some) h

-- a month has at most 31 days
pub start_near : (n i : ℕ) → start_of month_days (i + n) ≤ start_of month_days i + 31 * n
start_near zero i = let e : i + 0 ≡ i = omega arith in rw e (omega arith)
start_near (suc n) i =
    let e : i + suc n ≡ suc (i + n) = omega arith in
    let before = start_near n i in
    rw e (omega (arith, start_suc month_days (i + n), days_size (i + n)))
