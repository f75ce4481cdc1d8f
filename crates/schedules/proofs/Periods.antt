-- Days that rise: each day between the first and the last lies in one period.
-- Assumes nothing.
use Rattle.std.proofs.Common.{◌≡◌, ℕ, zero, suc, ◌+◌, ◌-◌, ◌<◌, ◌≤◌, List, get_or, ⊎_elim, arith}
use Rattle.std.proofs.lemmas.Bool.{cases_lt, cases_order}
use Rattle.schedules.specs.Laws.{InOnePeriod}

module _ (days : List ℕ) (n : ℕ) (rises : (k : ℕ) → k + 1 < n → get_or days k 0 < get_or days (k + 1) 0) where
  next_rises : (k : ℕ) → suc k < n → get_or days k 0 < get_or days (suc k) 0
  next_rises k h = let e : k + 1 ≡ suc k = omega arith in rw e at (rises k (omega arith))

  rises_far : (j i : ℕ) → i ≤ j → j < n → get_or days i 0 ≤ get_or days j 0
  rises_far zero i h l = let e : i ≡ 0 = omega arith in rw e (omega arith)
  rises_far (suc j) i h l =
      ⊎_elim
      (λ (before : i < suc j). omega (arith, rises_far j i (omega arith) (omega arith), next_rises j l))
      (λ (here : suc j ≤ i). let e : i ≡ suc j = omega arith in rw e (omega arith))
      (cases_lt i (suc j))

  found :
      (m x : ℕ) → get_or days 0 0 ≤ x → x < get_or days m 0 → m < n →
      (k : ℕ) × (k + 1 < n) × (get_or days k 0 ≤ x) × (x < get_or days (k + 1) 0)
  found zero x low high l = absurd (omega arith)
  found (suc m) x low high l =
      ⊎_elim
      (λ (before : x < get_or days m 0). found m x low before (omega arith))
      (λ (here : get_or days m 0 ≤ x).
      let e : m + 1 ≡ suc m = omega arith in
      (m, omega arith, here, rw e high))
      (cases_lt x (get_or days m 0))

  pub in_one_period : (x : ℕ) → get_or days 0 0 ≤ x → x < get_or days (n - 1) 0 → 1 ≤ n → InOnePeriod days n x
  in_one_period x low high some =
      let f = found (n - 1) x low high (omega arith) in
      let p = f.0 in
      let from = f.2 in
      let to = f.3 in
      record {
        period = p;
        is_one = f.1;
        from = from;
        to = to;
        only = λ k is_one low' high'.
            ⊎_elim (λ (e : k ≡ p). e)
            (⊎_elim
            (λ (before : k < p). absurd (omega (arith, rises_far p (k + 1) (omega arith) (omega (arith, f.1)))))
            (λ (after : p < k). absurd (omega (arith, rises_far k (p + 1) (omega arith) (omega arith)))))
            (cases_order k p);
      }
