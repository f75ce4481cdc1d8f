-- The days before a year, in closed form.
-- Assumes nothing.
use Rattle.std.proofs.Common.{◌≡◌, ℕ, zero, suc, ◌+◌, ◌-◌, ◌*◌, ◌/◌, ◌<◌, ◌≤◌, Bool, cond, eqb, ltb, refl, arith, lit≤}
use Rattle.std.proofs.lemmas.Bool.Decides.{nat_tests}
use Rattle.days.specs.Within.{Within}
use Rattle.std.proofs.lemmas.Bool.{eqb-true}
use Rattle.days.specs.Spans.{start_of}
use Rattle.days.specs.Calendar.{year_span, leap}
use Rattle.days.proofs.Checks.{below}

-- every fourth year is a leap year, but not 1900 and not 2100
abbrev pub before_year : ℕ → ℕ
before_year k = 365 * k + (k - 1) / 4 - cond (ltb 200 k) 1 0

abbrev steps : ℕ → Bool
steps k = eqb (before_year (suc k)) (before_year k + year_span k)

step : (k : ℕ) → k < 300 → before_year (suc k) ≡ before_year k + year_span k
unfolding leap
step k h = eqb-true _ _ (below steps 300 refl k h)

pub before_year_is : (k : ℕ) → k ≤ 300 → start_of year_span k ≡ before_year k
unfolding start_of
before_year_is zero h = refl
before_year_is (suc k) h = omega (arith, before_year_is k (omega arith), step k h)

pub years_end : start_of year_span 300 ≡ 109573
years_end = before_year_is 300 (lit≤ tt)

-- 365 days a year reach the year of the day, or the one after it
pub guess_high :
    (day before : ℕ) → day ≤ 109572 → before ≡ start_of year_span (day / 365) → day < before →
    (1 ≤ day / 365) × ((day / 365 - 1 < 300) × Within year_span day (day / 365 - 1))
guess_high day before in_range is high =
    let here = before_year_is (day / 365) (omega arith) in
    let some : 1 ≤ day / 365 = grind (arith, nat_tests) in
    let earlier = before_year_is (day / 365 - 1) (omega arith) in
    let e : suc (day / 365 - 1) ≡ day / 365 = omega arith in
    (some, (omega arith, record { from = grind (arith, nat_tests); to = rw e (omega arith) }))

pub guess_low :
    (day before : ℕ) → day ≤ 109572 → before ≡ start_of year_span (day / 365) → before ≤ day →
    (day / 365 < 300) × Within year_span day (day / 365)
guess_low day before in_range is low =
    let here = before_year_is (day / 365) (omega arith) in
    let inside : day / 365 < 300 = grind (arith, nat_tests) in
    let later = before_year_is (suc (day / 365)) inside in
    (inside, record { from = omega arith; to = grind (arith, nat_tests) })
