-- The ends of months, in order.
-- Assumes nothing.
use Rattle.std.proofs.Common.{◌≡◌, ℕ, suc, ◌+◌, ◌-◌, ◌<◌, ◌≤◌, ⊎_elim, arith}
use Rattle.std.proofs.lemmas.Bool.{cases_order}
use Rattle.days.specs.Spans.{start_of}
use Rattle.days.specs.Calendar.{leap, year_span, month_span, month_end, last_day}
use Rattle.days.proofs.Spans.{start_suc, start_mono}
use Rattle.days.proofs.Years.{years_end}
use Rattle.days.proofs.Months.{year_has, month_size}
use Rattle.days.proofs.Round.{Placed, placed, year_index, month_index}

-- the month after it begins on the next day
pub end_at :
    (n k i : ℕ) → Placed n k i →
    month_end n + 1 ≡ start_of year_span k + start_of (month_span (leap (1900 + k))) (suc i)
end_at n k i p =
    let year = p.year in
    let month = p.month in
    let index : 1 + i - 1 ≡ i = omega arith in
    let year_number : 1900 + k - 1900 ≡ k = omega arith in
    let size = month_size (leap (1900 + k)) i p.months in
    let next = start_suc (month_span (leap (1900 + k))) i in
    rw (year, month, index, year_number) (omega arith)

pub end_after : (n : ℕ) → n ≤ last_day → (n ≤ month_end n) × (month_end n ≤ last_day)
end_after n h =
    let p = placed n h in
    let e = end_at n (year_index n) (month_index n) p in
    let b = leap (1900 + year_index n) in
    let inside = start_mono (month_span b) (suc (month_index n)) 12 p.months in
    let year = start_suc year_span (year_index n) in
    let end = start_mono year_span (suc (year_index n)) 300 p.years in
    (omega arith, omega (arith, years_end, year_has b))

-- the month of a later day does not end earlier: within a year, and then of any two days
end_in_year : (a b k i j : ℕ) → Placed a k i → Placed b k j → a ≤ b → month_end a ≤ month_end b
end_in_year a b k i j p q h =
    let leaps = leap (1900 + k) in
    let e = end_at a k i p in
    let f = end_at b k j q in
    ⊎_elim
    (λ (same : i ≡ j). let g = start_mono (month_span leaps) (suc i) (suc j) (omega arith) in omega arith)
    (⊎_elim
    (λ (less : i < j). let g = start_mono (month_span leaps) (suc i) (suc j) (omega arith) in omega arith)
    (λ (more : j < i). let g = start_mono (month_span leaps) (suc j) i more in absurd (omega arith)))
    (cases_order i j)

pub end_mono : (a b : ℕ) → a ≤ b → b ≤ last_day → month_end a ≤ month_end b
end_mono a b h range =
    let p = placed a (omega arith) in
    let q = placed b range in
    let after = end_after b range in
    let e = end_at a (year_index a) (month_index a) p in
    let leaps = leap (1900 + year_index a) in
    let whole = start_mono (month_span leaps) (suc (month_index a)) 12 p.months in
    let year = start_suc year_span (year_index a) in
    let length = year_has leaps in
    ⊎_elim
    (λ (same : year_index a ≡ year_index b).
    end_in_year a b (year_index a) (month_index a) (month_index b) p (rw (← same) at q) h)
    (⊎_elim
    (λ (less : year_index a < year_index b).
    let later = start_mono year_span (suc (year_index a)) (year_index b) less in omega arith)
    (λ (more : year_index b < year_index a).
    let later = start_mono year_span (suc (year_index b)) (year_index a) more in absurd (omega arith)))
    (cases_order (year_index a) (year_index b))
