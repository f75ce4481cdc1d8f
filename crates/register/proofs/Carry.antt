-- From standing after some calls to standing after one call more.
-- Assumes nothing.
use Rattle.std.proofs.Common.{◌≡◌, ℕ, zero, suc, ◌+◌, ◌-◌, ◌*◌, ◌/◌, ◌<◌, ◌≢◌, List, [], ◌∷◌, ◌++◌, map, length, get_or, take, set, replicate, sym, refl, ap, ◌∙◌, ⊎_elim, add-mul, arith}
use native.Mathlib.Nat.{zero-div, zero-mod}
use lib.ListN.{length-map}
use Rattle.std.proofs.lemmas.Nat.{div-add-mod'}
use Rattle.std.proofs.lemmas.List.{map-set, take-map, take_at, get_or-set_same, get_or-set_other}
use Rattle.std.proofs.lemmas.Bool.{cases_eq}
use Rattle.register.specs.declared.row.Row.{Row}
use Rattle.register.specs.Rows.{accrued, posted, worth, zero_row, at, opened, opened_row}
use Rattle.register.proofs.Seen.{held}

-- a change of every row that leaves an empty one
pub at_map : (f : Row → Row) → f zero_row ≡ zero_row → (rows : List Row) (i : ℕ) → at (map f rows) i ≡ f (at rows i)
at_map f none [] i = sym none
at_map f none (r ∷ rows) zero = refl
at_map f none (r ∷ rows) (suc i) = at_map f none rows i

pub accrued_none : (rate n : ℕ) → accrued rate n zero_row ≡ zero_row
accrued_none rate n =
    let none : 0 + 0 * rate * n ≡ 0 = omega arith in
    ap (λ t. record { holding = 0; paid = 0; due = 0; ticks = t }) none

pub posted_none : (v : ℕ) → posted v zero_row ≡ zero_row
posted_none v = let d = zero-div v in let m = zero-mod v in rw (d, m) refl

-- posting moves interest from one part of a row to another
pub posted_worth : (v : ℕ) (r : Row) → worth v (posted v r) ≡ worth v r
posted_worth v r =
    let split = div-add-mod' r.ticks v in
    let parts = add-mul (r.paid + r.due) (r.ticks / v) v in
    let e : r.paid + (r.due + r.ticks / v) ≡ r.paid + r.due + r.ticks / v = omega arith in
    rw e (omega arith)

-- one row changed, as it is seen
take_set : {X : Type 0} (n : ℕ) (xs : List X) (i : ℕ) (x : X) → take n (set xs i x) ≡ set (take n xs) i x
take_set zero xs i x = refl
take_set (suc n) [] i x = refl
take_set (suc n) (y ∷ xs) zero x = refl
take_set (suc n) (y ∷ xs) (suc i) x = ap (λ rest. y ∷ rest) (take_set n xs i x)

pub held_set : (holders : ℕ) (rows : List Row) (i : ℕ) (r : Row) → held holders (set rows i r) ≡ set (held holders rows) i r.holding
held_set holders rows i r =
    ap (map (λ q. q.holding)) (take_set holders rows i r) ∙ map-set (λ q. q.holding) (take holders rows) i r

at_set :
    (rows : List Row) (i k : ℕ) (r : Row) (P : Row → Type 0) → i < length rows → (k ≡ i → P r) → (k ≢ i → P (at rows k)) →
    P (at (set rows i r) k)
at_set rows i k r P inside here there =
    ⊎_elim (λ (e : k ≡ i). rw e (rw (get_or-set_same rows i r zero_row inside) (here e)))
    (λ (ne : k ≢ i). rw (get_or-set_other rows i k r zero_row ne) (there ne)) (cases_eq k i)

-- a row and its holding changed together keep the holdings
pub set_holdings :
    (rows : List Row) (hs : List ℕ) (i : ℕ) (r : Row) → i < length rows → i < length hs →
    ((k : ℕ) → (at rows k).holding ≡ get_or hs k 0) → (k : ℕ) → (at (set rows i r) k).holding ≡ get_or (set hs i r.holding) k 0
set_holdings rows hs i r inside within same k =
    at_set rows i k r (λ q. q.holding ≡ get_or (set hs i r.holding) k 0) inside
    (λ e. rw e (sym (get_or-set_same hs i r.holding 0 within)))
    (λ ne. same k ∙ sym (get_or-set_other hs i k r.holding 0 ne))

-- a row changed to one of the same worth keeps every worth
pub set_worths :
    (v : ℕ) (rows : List Row) (i : ℕ) (r : Row) → i < length rows → worth v r ≡ worth v (at rows i) →
    (k : ℕ) → worth v (at (set rows i r) k) ≡ worth v (at rows k)
set_worths v rows i r inside same k =
    at_set rows i k r (λ q. worth v q ≡ worth v (at rows k)) inside (λ e. rw e same) (λ ne. refl)

-- a change that leaves every holding leaves what is seen of them
map_holding : (f : Row → Row) → ((r : Row) → (f r).holding ≡ r.holding) → (rows : List Row) → map (λ r. r.holding) (map f rows) ≡ map (λ r. r.holding) rows
map_holding f same [] = refl
map_holding f same (r ∷ rows) = let e = same r in let rest = map_holding f same rows in rw (e, rest) refl

pub held_map : (holders : ℕ) (f : Row → Row) → ((r : Row) → (f r).holding ≡ r.holding) → (rows : List Row) → held holders (map f rows) ≡ held holders rows
held_map holders f same rows = ap (map (λ r. r.holding)) (take-map f holders rows) ∙ map_holding f same (take holders rows)

-- what is seen of an opening
pub held_opened : (hs : List ℕ) → held (length hs) (opened hs) ≡ hs
held_opened hs =
    let front : length (map opened_row hs) ≡ length hs = length-map hs opened_row in
    ap (map (λ r. r.holding)) (take_at (map opened_row hs) (replicate (16 - length hs) zero_row) (length hs) front) ∙ again hs
  where
    again : (xs : List ℕ) → map (λ r. r.holding) (map opened_row xs) ≡ xs
    again [] = refl
    again (x ∷ xs) = ap (λ rest. x ∷ rest) (again xs)

at_zeros : (n i : ℕ) → at (replicate n zero_row) i ≡ zero_row
at_zeros zero i = refl
at_zeros (suc n) zero = refl
at_zeros (suc n) (suc i) = at_zeros n i

at_opening : (hs : List ℕ) (n i : ℕ) → at (map opened_row hs ++ replicate n zero_row) i ≡ opened_row (get_or hs i 0)
at_opening [] n i = at_zeros n i
at_opening (h ∷ hs) n zero = refl
at_opening (h ∷ hs) n (suc i) = at_opening hs n i

pub at_opened : (hs : List ℕ) (i : ℕ) → at (opened hs) i ≡ opened_row (get_or hs i 0)
at_opened hs i = at_opening hs (16 - length hs) i
