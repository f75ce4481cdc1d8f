-- The 30/360 counts keep the laws of a day count.
-- Assumes nothing.
use Rattle.std.specs.Prelude.{◌≡◌, ℕ, zero, suc, ◌+◌, ◌-◌, ◌*◌, ◌<◌, ◌≤◌, Bool, true, false, cond, ◌&&◌, ◌⊎◌, ◌==◌, ◌≢◌, nat_le, nat_lt, refl}
use Rattle.std.proofs.Common.{inl, inr, ⊎_elim, arith}
use Rattle.std.proofs.lemmas.Int.{ints}
use Rattle.std.proofs.lemmas.Bool.{cases_order, cases_Bool, cond_both, eqb-true, eqb-false, leb-true, ltb-false, and_parts}
use Rattle.days.specs.Spans.{start_of}
use Rattle.days.specs.Calendar.{leap, year_span, month_span, year_of, month_of, day_of, last_day}
use Rattle.days.proofs.Checks.{upto, below}
use Rattle.days.proofs.Spans.{start_suc, start_mono}
use Rattle.days.proofs.Months.{month_size}
use Rattle.days.proofs.Round.{Placed, placed, year_index, month_index}
use Rattle.counts.specs.Counting.{Lawful}
use Rattle.counts.specs.Bases.{place, cut, first_place, bond_second, bond, european}
use Rattle.counts.specs.Formulas.{BondByFormula, EuropeanByFormula}

-- a month's start is near thirty days for each month before it
abbrev near : Bool → ℕ → Bool
near leaps i =
    nat_le (30 * i) (start_of (month_span leaps) i + 1) && nat_le (start_of (month_span leaps) i) (30 * i + 5)

nearby : (leaps : Bool) → upto (near leaps) 12 ≡ true
unfolding start_of
nearby true = refl
nearby false = refl

month_near :
    (leaps : Bool) (i : ℕ) → i < 12 →
    (30 * i ≤ start_of (month_span leaps) i + 1) × (start_of (month_span leaps) i ≤ 30 * i + 5)
month_near leaps i h =
    let p = and_parts _ _ (below (near leaps) 12 (nearby leaps) i h) in
    (leb-true _ _ p.0, leb-true _ _ p.1)

-- a year has at least 365 days
years_apart : (k j : ℕ) → start_of year_span k + 365 * j ≤ start_of year_span (k + j)
years_apart k zero = let e : k + 0 ≡ k = omega arith in rw e (omega arith)
years_apart k (suc j) =
    let e : k + suc j ≡ suc (k + j) = omega arith in
    let long : 365 ≤ year_span (k + j) =
    cond_both (leap (1900 + (k + j))) 366 365 (λ n. 365 ≤ n) (λ _. omega arith) (λ _. omega arith)
    in
    rw e (omega (arith, years_apart k j, start_suc year_span (k + j)))

-- a day of the range by year, month and day of the month
record Parts (n k i : ℕ) : Type 0 where
  years : k < 300
  months : i < 12
  year : year_of n ≡ 1900 + k
  month : month_of n ≡ 1 + i
  some : 1 ≤ day_of n
  few : day_of n ≤ 31
  sum : n + 1 ≡ start_of year_span k + start_of (month_span (leap (1900 + k))) i + day_of n
  before : n < start_of year_span (suc k)
  before_month : n < start_of year_span k + start_of (month_span (leap (1900 + k))) (suc i)

parts_at : (n k i : ℕ) → Placed n k i → Parts n k i
parts_at n k i p =
    let b = leap (1900 + k) in
    let size = month_size b i p.months in
    let next = start_suc (month_span b) i in
    record {
      years = p.years;
      months = p.months;
      year = p.year;
      month = p.month;
      some = omega arith;
      few = omega arith;
      sum = omega arith;
      before = p.in_year.to;
      before_month = omega arith;
    }

parts : (n : ℕ) → n ≤ last_day → Parts n (year_index n) (month_index n)
parts n h = parts_at n (year_index n) (month_index n) (placed n h)

-- of two days in order: an earlier year, an earlier month of one year, or a day of one month that is no later
abbrev Ordered : (a b k i l j : ℕ) → Type 0
Ordered a b k i l j = (k < l) ⊎ ((k ≡ l) × ((i < j) ⊎ ((i ≡ j) × (day_of a ≤ day_of b))))

in_one_month : (a b k i : ℕ) → Parts a k i → Parts b k i → a ≤ b → day_of a ≤ day_of b
in_one_month a b k i p q h = omega arith

in_one_year : (a b k i j : ℕ) → Parts a k i → Parts b k j → a ≤ b → (i < j) ⊎ ((i ≡ j) × (day_of a ≤ day_of b))
in_one_year a b k i j p q h =
    ⊎_elim (λ (same : i ≡ j). inr (same, in_one_month a b k i p (rw (← same) at q) h))
    (⊎_elim (λ (less : i < j). inl less)
    (λ (more : j < i).
    let later = start_mono (month_span (leap (1900 + k))) (suc j) i more in absurd (omega arith)))
    (cases_order i j)

ordered : (a b k i l j : ℕ) → Parts a k i → Parts b l j → a ≤ b → Ordered a b k i l j
ordered a b k i l j p q h =
    ⊎_elim (λ (same : k ≡ l). inr (same, in_one_year a b k i j p (rw (← same) at q) h))
    (⊎_elim (λ (less : k < l). inl less)
    (λ (more : l < k). let later = start_mono year_span (suc l) k more in absurd (omega arith)))
    (cases_order k l)

-- how a day of the month may be changed: by at most one, never below 1, and keeping order
record Mild (f : ℕ → ℕ) : Type 0 where
  some : (d : ℕ) → 1 ≤ d → 1 ≤ f d
  less : (d : ℕ) → f d ≤ d
  near : (d : ℕ) → d ≤ f d + 1
  order : (c d : ℕ) → c ≤ d → d ≤ 31 → f c ≤ f d

abbrev place_by : (ℕ → ℕ) → ℕ → ℕ
place_by f n = place (year_of n) (month_of n) (f (day_of n))

cut_cases : (d : ℕ) → ((d ≡ 31) × (cut d ≡ 30)) ⊎ ((d ≢ 31) × (cut d ≡ d))
cut_cases d =
    ⊎_elim (λ t. inl (eqb-true d 31 t, rw t refl)) (λ f. inr (eqb-false d 31 f, rw f refl)) (cases_Bool (d == 31))

cut_mild : Mild cut
cut_mild =
    record {
      some = λ d h. omega (arith, cut_cases d);
      less = λ d. omega (arith, cut_cases d);
      near = λ d. omega (arith, cut_cases d);
      order = λ c d h few. omega (arith, cut_cases c, cut_cases d);
    }

same_mild : Mild (λ d. d)
same_mild =
    record { some = λ d h. h; less = λ d. omega arith; near = λ d. omega arith; order = λ c d h few. h }

-- a later day has a place that is no earlier
place_order :
    (f : ℕ → ℕ) → Mild f → (a b : ℕ) → a ≤ b → b ≤ last_day → place_by f a ≤ place_by f b
place_order f mild a b h range =
    let p = parts a (omega arith) in
    let q = parts b range in
    let most = mild.less (day_of a) in
    let least = mild.some (day_of b) q.some in
    ⊎_elim
    (λ (less : year_index a < year_index b). omega arith)
    (λ (same : (year_index a ≡ year_index b) × ((month_index a < month_index b) ⊎ ((month_index a ≡ month_index b) × (day_of a ≤ day_of b)))).
    ⊎_elim
    (λ (less : month_index a < month_index b). omega arith)
    (λ (one : (month_index a ≡ month_index b) × (day_of a ≤ day_of b)).
    omega (arith, mild.order (day_of a) (day_of b) one.1 q.few))
    same.1)
    (ordered a b (year_index a) (month_index a) (year_index b) (month_index b) p q h)

-- and gains at most seven on the days that pass
place_gain :
    (a b : ℕ) → a ≤ b → b ≤ last_day → place_by (λ d. d) b ≤ place_by (λ d. d) a + (b - a) + 6
place_gain a b h range =
    let p = parts a (omega arith) in
    let q = parts b range in
    let near_a = month_near (leap (1900 + year_index a)) (month_index a) p.months in
    let near_b = month_near (leap (1900 + year_index b)) (month_index b) q.months in
    let no_earlier : year_index a ≤ year_index b =
    ⊎_elim (λ (less : year_index a < year_index b). omega arith) (λ same. omega (arith, same.0))
    (ordered a b (year_index a) (month_index a) (year_index b) (month_index b) p q h)
    in
    let back : year_index a + (year_index b - year_index a) ≡ year_index b = omega arith in
    let apart : start_of year_span (year_index a) + 365 * (year_index b - year_index a) ≤ start_of year_span (year_index b) =
    rw back at (years_apart (year_index a) (year_index b - year_index a))
    in
    omega arith

-- the change of the second day in the bond basis, which hangs on the first day alone
second_mild : (after : Bool) → Mild (λ d. cond after (cut d) d)
second_mild true = cut_mild
second_mild false = same_mild

second_of_first : (after : Bool) (d : ℕ) → nat_lt 29 (cut d) ≡ after → cond after (cut d) d ≡ cut d
second_of_first true d t = refl
second_of_first false d t = omega (arith, ltb-false 29 (cut d) t, cut_cases d)

-- a difference of places keeps the laws, where the first day has one place by both changes
module _ (f : ℕ → ℕ → ℕ) (mild : (a : ℕ) → Mild (f a)) (first : (a : ℕ) → f a (day_of a) ≡ cut (day_of a)) where
  abbrev difference : ℕ → ℕ → ℕ
  difference a b = place_by (f a) b - first_place a

  in_order : (a b : ℕ) → a ≤ b → b ≤ last_day → first_place a ≤ place_by (f a) b
  in_order a b h range = omega (arith, place_order (f a) (mild a) a b h range, first a)

  lawful : Lawful difference 360
  lawful =
      record {
        some = omega arith;
        few = omega arith;
        none = λ a h. omega (arith, first a);
        rises = λ a b c h k range. omega (arith, place_order (f a) (mild a) b c k range);
        short = λ a b h range few.
            omega (arith, place_gain a b h range, (mild a).less (day_of b), cut_mild.near (day_of a));
      }

pub bond_order : (a b : ℕ) → a ≤ b → b ≤ last_day → first_place a ≤ place (year_of b) (month_of b) (bond_second a b)
bond_order =
    in_order (λ a d. cond (nat_lt 29 (cut (day_of a))) (cut d) d) (λ a. second_mild (nat_lt 29 (cut (day_of a))))
    (λ a. second_of_first (nat_lt 29 (cut (day_of a))) (day_of a) refl)

pub bond_lawful : Lawful bond 360
bond_lawful =
    lawful (λ a d. cond (nat_lt 29 (cut (day_of a))) (cut d) d) (λ a. second_mild (nat_lt 29 (cut (day_of a))))
    (λ a. second_of_first (nat_lt 29 (cut (day_of a))) (day_of a) refl)

pub european_order : (a b : ℕ) → a ≤ b → b ≤ last_day → first_place a ≤ first_place b
european_order = in_order (λ a. cut) (λ a. cut_mild) (λ a. refl)

pub european_lawful : Lawful european 360
european_lawful = lawful (λ a. cut) (λ a. cut_mild) (λ a. refl)

pub bond_by_formula : BondByFormula
bond_by_formula a b h range = let o = bond_order a b h range in omega (arith, ints)

pub european_by_formula : EuropeanByFormula
european_by_formula a b h range = let o = european_order a b h range in omega (arith, ints)
