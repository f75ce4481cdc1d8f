-- The steps of the days of one period add up to the count over them.
-- Assumes nothing.
use Rattle.std.proofs.Common.{◌≡◌, ℕ, zero, suc, ◌+◌, ◌-◌, ◌*◌, ◌<◌, ◌≤◌, true, List, [], ◌∷◌, length, get_or, sum_by, sym, refl, ◌∙◌, mul-zero, mul-add, arith}
use Rattle.std.specs.List.{range_with_len}
use Rattle.std.proofs.lemmas.List.Sums.{sum_by-cons}
use Rattle.std.proofs.lemmas.Bool.{le-leb, lt-leb, and_parts}
use Rattle.days.specs.Calendar.{last_day}
use Rattle.counts.specs.Counting.{asked, Lawful}
use Rattle.register.specs.Calls.{steady, fits_before}
use Rattle.register.specs.Interest.{first_of, step}
use Rattle.register.proofs.Counts.{asked_rises}
use Rattle.register.proofs.Dates.{next_date}

steady_tail : (date : ℕ) (dates : List ℕ) → steady (date ∷ dates) ≡ true → steady dates ≡ true
steady_tail date dates t = (and_parts (fits_before date dates) (steady dates) t).1

-- the dates rise, so the first is not after any other
first_least : (dates : List ℕ) → steady dates ≡ true → (k : ℕ) → k < length dates → get_or dates 0 0 ≤ get_or dates k 0
first_least dates t zero less = omega arith
first_least dates t (suc k) less =
    let e : k + 1 ≡ suc k = omega arith in
    let next : get_or dates k 0 < get_or dates (suc k) 0 = rw e at (next_date dates t k (omega arith)).0 in
    omega (arith, first_least dates t k (omega arith))

-- dates that are all after a day leave what was found
stays : (dates : List ℕ) (found x : ℕ) → (0 < length dates → x < get_or dates 0 0) → first_of dates found x ≡ found
unfolding first_of
stays [] found x later = refl
stays (date ∷ dates) found x later = let after = lt-leb date x (later (omega arith)) in rw after refl

-- a day from the date at k to before the next one lies in the period that begins at k
pub first_of_is :
    (dates : List ℕ) (found k x : ℕ) → steady dates ≡ true → k < length dates → get_or dates k 0 ≤ x →
    ((k + 1 < length dates) → x < get_or dates (k + 1) 0) → first_of dates found x ≡ get_or dates k 0
unfolding first_of
first_of_is [] found k x t less from to = absurd (omega arith)
first_of_is (date ∷ dates) found zero x t less from to =
    let before = le-leb date x from in
    rw before (stays dates date x (λ some. to (omega arith)))
first_of_is (date ∷ dates) found (suc k) x t less from to =
    let least = first_least (date ∷ dates) t (suc k) less in
    let before = le-leb date x (omega arith) in
    let e : suc k + 1 ≡ suc (k + 1) = omega arith in
    let next : (k + 1 < length dates) → x < get_or dates (k + 1) 0 = λ some. rw e at (to (omega arith)) in
    rw before (first_of_is dates date k x (steady_tail date dates t) (omega arith) from next)

pub sum_by_times : {X : Type 0} (m : ℕ) (f : X → ℕ) (xs : List X) → sum_by (λ x. m * f x) xs ≡ m * sum_by f xs
sum_by_times m f [] = sym (mul-zero m)
sum_by_times m f (x ∷ xs) =
    simp (sum_by-cons (λ y. m * f y) x xs, sum_by-cons f x xs) (omega (arith, sum_by_times m f xs, mul-add m (f x) (sum_by f xs)))

module _ (count : ℕ → ℕ → ℕ) (per : ℕ) (lawful : Lawful count per) (dates : List ℕ) (steadily : steady dates ≡ true) (k : ℕ) (inside : k + 1 < length dates) where
  -- the days of one period, from one to before another
  pub steps_add :
      (n a : ℕ) → get_or dates k 0 ≤ a → a + n ≤ get_or dates (k + 1) 0 → get_or dates (k + 1) 0 ≤ last_day →
      sum_by (step (asked count) dates) (range_with_len a n) ≡ asked count (get_or dates k 0) (a + n) - asked count (get_or dates k 0) a
  steps_add zero a from to range = let e : a + 0 ≡ a = omega arith in rw e (omega arith)
  steps_add (suc n) a from to range =
      let first = get_or dates k 0 in
      let here : first_of dates 0 a ≡ first = first_of_is dates 0 k a steadily (omega arith) from (λ _. omega arith) in
      let now : step (asked count) dates a ≡ asked count first (a + 1) - asked count first a = rw here refl in
      let rest = steps_add n (a + 1) (omega arith) (omega arith) range in
      let e : a + 1 + n ≡ a + suc n = omega arith in
      let rest_is : sum_by (step (asked count) dates) (range_with_len (a + 1) n) ≡ asked count first (a + suc n) - asked count first (a + 1) = rw e at rest in
      let low = asked_rises count per lawful first a (a + 1) from (omega arith) (omega arith) in
      let high = asked_rises count per lawful first (a + 1) (a + suc n) (omega arith) (omega arith) (omega arith) in
      sum_by-cons (step (asked count) dates) a (range_with_len (a + 1) n) ∙ omega arith
