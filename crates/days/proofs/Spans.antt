-- Spans laid end to end: a day lies in one of them, and in no other.
-- Assumes nothing.
use Rattle.std.proofs.Common.{◌≡◌, ℕ, zero, suc, ◌+◌, ◌-◌, ◌<◌, ◌≤◌, ltb, refl, ⊎_elim, arith}
use Rattle.std.proofs.lemmas.Bool.{ltb-true, ltb-false, cond_both, cases_order}
use Rattle.days.specs.Spans.{start_of, span_from, span_of}
use Rattle.days.specs.Within.{Within}

pub start_suc : (len : ℕ → ℕ) (k : ℕ) → start_of len (suc k) ≡ start_of len k + len k
unfolding start_of
start_suc len k = refl

pub start_mono : (len : ℕ → ℕ) (i j : ℕ) → i ≤ j → start_of len i ≤ start_of len j
start_mono len i zero h = let e : i ≡ zero = omega arith in rw e (omega arith)
start_mono len i (suc j) h =
    ⊎_elim (λ e. rw e (omega arith))
    (⊎_elim (λ l. omega (arith, start_mono len i j (omega arith), start_suc len j)) (λ g. absurd (omega arith)))
    (cases_order i (suc j))

-- the span found, looking on from span k, holds the day
pub span_from_holds :
    (len : ℕ → ℕ) (fuel k n : ℕ) → start_of len k + n < start_of len (k + fuel) →
    (span_from len fuel k n < k + fuel) × Within len (start_of len k + n) (span_from len fuel k n)
unfolding span_from
span_from_holds len zero k n h = absurd (omega (arith, start_mono len (k + 0) k (omega arith)))
span_from_holds len (suc fuel) k n h =
    cond_both (ltb n (len k)) k (span_from len fuel (suc k) (n - len k))
    (λ j. (j < k + suc fuel) × Within len (start_of len k + n) j)
    (λ t. let l = ltb-true n (len k) t in (omega arith, record { from = omega arith; to = omega (arith, start_suc len k) }))
    (λ f.
    let l = ltb-false n (len k) f in
    let s = start_suc len k in
    let e : suc k + fuel ≡ k + suc fuel = omega arith in
    let same : start_of len (suc k) + (n - len k) ≡ start_of len k + n = omega arith in
    let before : start_of len (suc k) + (n - len k) < start_of len (suc k + fuel) = rw (same, e) h in
    let r = span_from_holds len fuel (suc k) (n - len k) before in
    (omega (arith, r.0), record { from = omega (arith, r.1.from); to = omega (arith, r.1.to) }))

-- and no other span does
pub span_from_is :
    (len : ℕ → ℕ) (fuel k n j : ℕ) → k ≤ j → j < k + fuel → Within len (start_of len k + n) j →
    span_from len fuel k n ≡ j
unfolding span_from
span_from_is len zero k n j l u w = absurd (omega arith)
span_from_is len (suc fuel) k n j l u w =
    cond_both (ltb n (len k)) k (span_from len fuel (suc k) (n - len k)) (λ i. i ≡ j)
    (λ t.
    let below = ltb-true n (len k) t in
    ⊎_elim (λ e. e)
    (⊎_elim (λ less. absurd (omega (arith, start_mono len (suc k) j less, start_suc len k, w.from))) (λ more. absurd (omega arith)))
    (cases_order k j))
    (λ f.
    let above = ltb-false n (len k) f in
    let s = start_suc len k in
    let same : start_of len (suc k) + (n - len k) ≡ start_of len k + n = omega arith in
    let further : suc k ≤ j =
    ⊎_elim
    (λ e. let t = start_suc len j in absurd (omega (arith, w.to, rw (← e) at w.to)))
    (⊎_elim (λ less. less) (λ more. absurd (omega arith))) (cases_order k j)
    in
    span_from_is len fuel (suc k) (n - len k) j further (omega arith)
    (record { from = rw same w.from; to = rw same w.to }))

pub span_holds :
    (len : ℕ → ℕ) (spans n : ℕ) → n < start_of len spans →
    (span_of len spans n < spans) × Within len n (span_of len spans n)
unfolding start_of
span_holds len spans n h =
    let e : 0 + n ≡ n = omega arith in
    let f : 0 + spans ≡ spans = omega arith in
    let r = span_from_holds len spans 0 n (rw (e, f) h) in
    (omega (arith, r.0), rw e at r.1)

pub span_is : (len : ℕ → ℕ) (spans n j : ℕ) → j < spans → Within len n j → span_of len spans n ≡ j
unfolding start_of
span_is len spans n j l w =
    let e : 0 + n ≡ n = omega arith in
    span_from_is len spans 0 n j (omega arith) (omega arith) (rw e w)

pub length_between : (len : ℕ → ℕ) (i j : ℕ) → i ≡ j - 1 → 1 ≤ j → (start_of len i ≤ start_of len j) × (start_of len j - start_of len i ≡ len i)
length_between len i j e some =
    let s : start_of len j ≡ start_of len i + len i = let f : j ≡ suc i = omega arith in rw f (start_suc len i) in
    (omega arith, omega arith)
