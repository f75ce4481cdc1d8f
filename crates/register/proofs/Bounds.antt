-- The bounds of a book, and that each call keeps them.
-- Assumes nothing.
use Rattle.std.proofs.Common.{◌≡◌, ℕ, zero, suc, ◌+◌, ◌-◌, ◌*◌, ◌%◌, ◌<◌, ◌≤◌, List, [], ◌∷◌, map, length, get_or, set, replicate, sum_by, sum, sym, refl, ap, ◌∙◌, mul-le-mul_right, mod-lt, add-mul, mul-le-mul, arith, length-set}
use lib.ListN.{length-map}
use Rattle.std.proofs.lemmas.List.{length-append, length-replicate}
use Rattle.std.proofs.lemmas.List.Sums.{sum_by-cons, sum_by-append, sum_by-set, sum_by-le-sum_by}
use Rattle.register.specs.declared.row.Row.{Row}
use Rattle.register.specs.Rows.{accrued, posted, settled, gained, lost, worth, total_holding, total_ticks, total_worth, zero_row, opened_row, opened}
use Rattle.register.proofs.Sweeps.{units_below}

pub sum_by_map : {X Y : Type 0} (f : Y → ℕ) (g : X → Y) (xs : List X) → sum_by f (map g xs) ≡ sum_by (λ x. f (g x)) xs
sum_by_map f g [] = refl
sum_by_map f g (x ∷ xs) =
    sum_by-cons f (g x) (map g xs) ∙ ap (λ n. f (g x) + n) (sum_by_map f g xs) ∙ sym (sum_by-cons (λ y. f (g y)) x xs)

pub sum_by_same : {X : Type 0} (f g : X → ℕ) → ((x : X) → f x ≡ g x) → (xs : List X) → sum_by f xs ≡ sum_by g xs
sum_by_same f g same [] = refl
sum_by_same f g same (x ∷ xs) =
    simp (sum_by-cons f x xs, sum_by-cons g x xs) (omega (arith, same x, sum_by_same f g same xs))

sum_by_most : {X : Type 0} (f : X → ℕ) (m : ℕ) → ((x : X) → f x ≤ m) → (xs : List X) → sum_by f xs ≤ length xs * m
sum_by_most f m most [] = omega arith
sum_by_most f m most (x ∷ xs) = simp (sum_by-cons f x xs) (omega (arith, most x, sum_by_most f m most xs, add-mul 1 (length xs) m))

-- what every holding adds, all together
pub sum_accrued :
    (f : Row → ℕ) (rate n : ℕ) (rows : List Row) →
    sum_by (λ r. f r + r.holding * rate * n) rows ≡ sum_by f rows + total_holding rows * rate * n
sum_accrued f rate n [] = omega arith
sum_accrued f rate n (r ∷ rows) =
    let split = add-mul r.holding (total_holding rows) rate in
    let more = add-mul (r.holding * rate) (total_holding rows * rate) n in
    let sums : total_holding (r ∷ rows) * rate * n ≡ (r.holding * rate + total_holding rows * rate) * n =
    ap (λ k. k * rate * n) (sum_by-cons (λ q. q.holding) r rows) ∙ ap (λ k. k * n) split
    in
    simp (sum_by-cons (λ q. f q + q.holding * rate * n) r rows, sum_by-cons f r rows)
    (omega (arith, sum_accrued f rate n rows, sums, more))

pub record Bounded (rows : List Row) (tally period : ℕ) : Type 0 where
  pub room : length rows ≡ 16
  pub counted : tally ≤ 1098
  pub periods : period ≤ 480
  pub nominal : total_holding rows ≤ 10000000000
  pub carried : total_ticks rows ≤ 585600000 + 500000000000000 * tally
  pub money : total_worth 100000 rows ≤ 549000000000000000 * period + 500000000000000 * tally

-- a holding times a rate times n days, at the most
interest_most : (rows : List Row) (rate n : ℕ) → total_holding rows ≤ 10000000000 → rate ≤ 50000 →
    (total_holding rows * rate ≤ 500000000000000) × (total_holding rows * rate * n ≤ 500000000000000 * n)
interest_most rows rate n few low =
    let product : total_holding rows * rate ≤ 10000000000 * 50000 = mul-le-mul few low in
    (product, mul-le-mul_right n product)

pub accrue_bounded :
    (rows now : List Row) (tally period rate n : ℕ) → Bounded rows tally period → rate ≤ 50000 → tally + n ≤ 1098 →
    now ≡ map (accrued rate n) rows → Bounded now (tally + n) period
accrue_bounded rows now tally period rate n b low within e =
    let most = interest_most rows rate n b.nominal low in
    let holdings : total_holding now ≡ total_holding rows = ap total_holding e ∙ sum_by_map (λ r. r.holding) (accrued rate n) rows in
    let ticks : total_ticks now ≡ total_ticks rows + total_holding rows * rate * n =
    ap total_ticks e ∙ sum_by_map (λ r. r.ticks) (accrued rate n) rows ∙ sum_accrued (λ r. r.ticks) rate n rows
    in
    let money : total_worth 100000 now ≡ total_worth 100000 rows + total_holding rows * rate * n =
    ap (total_worth 100000) e ∙ sum_by_map (worth 100000) (accrued rate n) rows
    ∙ sum_by_same (λ r. worth 100000 (accrued rate n r)) (λ r. worth 100000 r + r.holding * rate * n) (λ r. omega arith) rows
    ∙ sum_accrued (worth 100000) rate n rows
    in
    record {
      room = ap length e ∙ length-map rows (accrued rate n) ∙ b.room;
      counted = within;
      periods = b.periods;
      nominal = omega arith;
      carried = omega arith;
      money = omega arith;
    }

pub posted_ticks :
    (rows now : List Row) (v : ℕ) → length rows ≡ 16 → 100000 ≤ v → v ≤ 36600000 → now ≡ map (posted v) rows →
    total_ticks now ≤ 585600000
posted_ticks rows now v room low high e =
    let ticks : total_ticks now ≤ length rows * 36600000 =
    rw (ap total_ticks e ∙ sum_by_map (λ r. r.ticks) (posted v) rows)
    (sum_by_most (λ r. r.ticks % v) 36600000 (λ r. omega (arith, mod-lt r.ticks {m = v} (omega arith))) rows)
    in
    omega arith

pub post_bounded :
    (rows now : List Row) (tally period v : ℕ) → Bounded rows tally period → 100000 ≤ v → v ≤ 36600000 →
    now ≡ map (posted v) rows → Bounded now tally period
post_bounded rows now tally period v b low high e =
    let holdings : total_holding now ≡ total_holding rows = ap total_holding e ∙ sum_by_map (λ r. r.holding) (posted v) rows in
    let ticks = posted_ticks rows now v b.room low high e in
    let money : total_worth 100000 now ≤ total_worth 100000 rows =
    rw (ap (total_worth 100000) e ∙ sum_by_map (worth 100000) (posted v) rows)
    (sum_by-le-sum_by (λ r. worth 100000 (posted v r)) (worth 100000) rows (λ r. omega (arith, units_below r.ticks v low)))
    in
    record {
      room = ap length e ∙ length-map rows (posted v) ∙ b.room;
      counted = b.counted;
      periods = b.periods;
      nominal = omega arith;
      carried = omega (arith, b.room);
      money = omega arith;
    }

-- a change of one row, where the sums are known
pub record Changed (rows now : List Row) (less more : ℕ) : Type 0 where
  pub room : length now ≡ length rows
  pub holding : total_holding now + less ≡ total_holding rows + more
  pub ticks : total_ticks now ≡ total_ticks rows
  pub money : (v : ℕ) → total_worth v now ≡ total_worth v rows

-- one row is changed in its holding, or in what is paid and due together
pub changed_at :
    (rows now : List Row) (i less more : ℕ) (r : Row) → i < length rows → now ≡ set rows i r →
    r.holding + less ≡ (get_or rows i zero_row).holding + more → r.ticks ≡ (get_or rows i zero_row).ticks →
    r.paid + r.due ≡ (get_or rows i zero_row).paid + (get_or rows i zero_row).due → Changed rows now less more
changed_at rows now i less more r inside e holding ticks money =
    record {
      room = ap length e ∙ length-set rows i r;
      holding = rw e (omega (arith, sum_by-set (λ q. q.holding) rows i r zero_row inside));
      ticks = rw e (omega (arith, sum_by-set (λ q. q.ticks) rows i r zero_row inside));
      money = λ v.
          let same : worth v r ≡ worth v (get_or rows i zero_row) = ap (λ k. k * v + r.ticks) money ∙ ap (λ k. ((get_or rows i zero_row).paid + (get_or rows i zero_row).due) * v + k) ticks in
          rw e (omega (arith, sum_by-set (worth v) rows i r zero_row inside));
    }

pub changed_twice :
    (rows mid now : List Row) (a b c d : ℕ) → Changed rows mid a b → Changed mid now c d → Changed rows now (a + c) (b + d)
changed_twice rows mid now a b c d p q =
    record {
      room = q.room ∙ p.room;
      holding = omega arith;
      ticks = q.ticks ∙ p.ticks;
      money = λ v. q.money v ∙ p.money v;
    }

-- the three changes of one row
pub lost_changes :
    (rows : List Row) (i amount : ℕ) (r : Row) → i < length rows → amount ≤ (get_or rows i zero_row).holding →
    r ≡ lost amount (get_or rows i zero_row) → Changed rows (set rows i r) amount 0
lost_changes rows i amount r inside covered e =
    let h = ap (λ q. q.holding) e in
    let t = ap (λ q. q.ticks) e in
    let p = ap (λ q. q.paid) e in
    let d = ap (λ q. q.due) e in
    changed_at rows (set rows i r) i amount 0 r inside refl (omega arith) t (omega arith)

pub gained_changes :
    (rows : List Row) (i amount : ℕ) (r : Row) → i < length rows → r ≡ gained amount (get_or rows i zero_row) →
    Changed rows (set rows i r) 0 amount
gained_changes rows i amount r inside e =
    let h = ap (λ q. q.holding) e in
    let t = ap (λ q. q.ticks) e in
    let p = ap (λ q. q.paid) e in
    let d = ap (λ q. q.due) e in
    changed_at rows (set rows i r) i 0 amount r inside refl (omega arith) t (omega arith)

pub settled_changes :
    (rows : List Row) (i : ℕ) (r : Row) → i < length rows → r ≡ settled (get_or rows i zero_row) → Changed rows (set rows i r) 0 0
settled_changes rows i r inside e =
    let h = ap (λ q. q.holding) e in
    let t = ap (λ q. q.ticks) e in
    let p = ap (λ q. q.paid) e in
    let d = ap (λ q. q.due) e in
    changed_at rows (set rows i r) i 0 0 r inside refl (omega arith) t (omega arith)

-- an opening: the rows hold what they are given, and no interest
sum_zeros : (f : Row → ℕ) → f zero_row ≡ 0 → (n : ℕ) → sum_by f (replicate n zero_row) ≡ 0
sum_zeros f none zero = refl
sum_zeros f none (suc n) = sum_by-cons f zero_row (replicate n zero_row) ∙ omega (arith, none, sum_zeros f none n)

pub sum_opened :
    (f : Row → ℕ) (g : ℕ → ℕ) → f zero_row ≡ 0 → ((h : ℕ) → f (opened_row h) ≡ g h) → (holdings : List ℕ) →
    sum_by f (opened holdings) ≡ sum_by g holdings
sum_opened f g none each holdings =
    sum_by-append f (map opened_row holdings) (replicate (16 - length holdings) zero_row)
    ∙ omega
    (arith, sum_by_map f opened_row holdings, sum_by_same (λ h. f (opened_row h)) g each holdings, sum_zeros f none (16 - length holdings))

pub sum_none : (holdings : List ℕ) → sum_by (λ h. 0) holdings ≡ 0
sum_none [] = refl
sum_none (h ∷ hs) = sum_by-cons (λ k. 0) h hs ∙ omega (arith, sum_none hs)

pub opened_long : (holdings : List ℕ) → length holdings ≤ 16 → length (opened holdings) ≡ 16
opened_long holdings few =
    length-append (map opened_row holdings) (replicate (16 - length holdings) zero_row)
    ∙ omega (arith, length-map holdings opened_row, length-replicate (16 - length holdings) zero_row)

pub opened_bounded :
    (holdings : List ℕ) (rows : List Row) → length holdings ≤ 16 → sum holdings ≤ 10000000000 → rows ≡ opened holdings → Bounded rows 0 0
opened_bounded holdings rows few most e =
    let held : total_holding rows ≡ sum holdings = ap total_holding e ∙ sum_opened (λ r. r.holding) (λ h. h) refl (λ h. refl) holdings in
    let ticks : total_ticks rows ≡ 0 = ap total_ticks e ∙ sum_opened (λ r. r.ticks) (λ h. 0) refl (λ h. refl) holdings ∙ sum_none holdings in
    let money : total_worth 100000 rows ≡ 0 =
    ap (total_worth 100000) e ∙ sum_opened (worth 100000) (λ h. 0) refl (λ h. refl) holdings ∙ sum_none holdings
    in
    record {
      room = ap length e ∙ opened_long holdings few;
      counted = omega arith;
      periods = omega arith;
      nominal = omega arith;
      carried = omega arith;
      money = omega arith;
    }
