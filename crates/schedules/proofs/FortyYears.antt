-- Forty years of months are at least 14,600 days.
-- Assumes nothing.
use Rattle.std.proofs.Common.{◌≡◌, ℕ, ◌+◌, ◌/◌, ◌%◌, ◌<◌, ◌≤◌, Bool, true, false, cond, ◌&&◌, ltb, leb, refl, arith}
use Rattle.std.proofs.lemmas.Bool.{leb-true, and_parts}
use Rattle.days.specs.Spans.{start_of}
use Rattle.days.specs.Calendar.{leap, year_span, month_span}
use Rattle.days.proofs.Checks.{below, upto}
use Rattle.days.proofs.Years.{before_year_is}
use Rattle.schedules.specs.Dates.{on_day}
use Rattle.schedules.proofs.MonthStarts.{days_is, days_size, starts, on_day_is}

one_or_none : (b : Bool) → cond b 1 0 ≤ 1
one_or_none true = omega arith
one_or_none false = omega arith

years_gain : (k : ℕ) → k + 40 ≤ 300 → start_of year_span k + 14602 ≤ start_of year_span (k + 40)
years_gain k h =
    let early = before_year_is k (omega arith) in
    let late = before_year_is (k + 40) h in
    let c = one_or_none (ltb 200 k) in
    let d = one_or_none (ltb 200 (k + 40)) in
    omega arith

-- common and leap years differ by a day at the most
abbrev alike : Bool → Bool → ℕ → Bool
alike a b i =
    leb (start_of (month_span a) i) (start_of (month_span b) i + 1) && leb (month_span a i) (month_span b i + 1)

all_alike : (a b : Bool) → upto (alike a b) 12 ≡ true
unfolding start_of
all_alike true true = refl
all_alike true false = refl
all_alike false true = refl
all_alike false false = refl

months_alike :
    (a b : Bool) (i : ℕ) → i < 12 →
    (start_of (month_span a) i ≤ start_of (month_span b) i + 1) × (month_span a i ≤ month_span b i + 1)
months_alike a b i h =
    let p = and_parts _ _ (below (alike a b) 12 (all_alike a b) i h) in
    (leb-true _ _ p.0, leb-true _ _ p.1)

pub forty_years : (i d : ℕ) → 1 ≤ d → i + 480 < 3600 → on_day i d + 14600 ≤ on_day (i + 480) d
forty_years i d some h =
    let year : (i + 480) / 12 ≡ i / 12 + 40 = omega arith in
    let month : (i + 480) % 12 ≡ i % 12 = omega arith in
    let early = on_day_is i d in
    let late = on_day_is (i + 480) d in
    let from = starts i in
    let to = rw (year, month) at (starts (i + 480)) in
    let few = days_is i in
    let many = rw (year, month) at (days_is (i + 480)) in
    let gain = years_gain (i / 12) (omega arith) in
    let near = months_alike (leap (1900 + i / 12)) (leap (1900 + (i / 12 + 40))) (i % 12) (omega arith) in
    let size = days_size i in
    let size' = days_size (i + 480) in
    omega arith
