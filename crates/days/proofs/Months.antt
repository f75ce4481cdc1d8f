-- The days before a month, and how far 32 days a month go wrong.
-- Assumes nothing.
use Rattle.std.proofs.Common.{◌≡◌, ℕ, suc, ◌+◌, ◌*◌, ◌/◌, ◌<◌, ◌≤◌, Bool, true, false, cond, ◌&&◌, eqb, ltb, leb, ◌⊎◌, List, [], ◌∷◌, get_or, refl, ⊎_elim, arith}
use Rattle.days.specs.Within.{Within}
use Rattle.std.proofs.lemmas.Bool.{eqb-true, leb-true, and_parts, cond_both}
use Rattle.days.specs.Spans.{start_of}
use Rattle.days.specs.Calendar.{month_span}
use Rattle.days.proofs.Checks.{below, upto}

-- the table of the code
abbrev pub common : List ℕ
common = 0 ∷ 31 ∷ 59 ∷ 90 ∷ 120 ∷ 151 ∷ 181 ∷ 212 ∷ 243 ∷ 273 ∷ 304 ∷ 334 ∷ 365 ∷ []

abbrev tabled : Bool → ℕ → Bool
tabled leaps i = eqb (start_of (month_span leaps) i) (get_or common i 0 + cond (leaps && ltb 1 i) 1 0)

tables : (leaps : Bool) → upto (tabled leaps) 13 ≡ true
unfolding start_of
tables true = refl
tables false = refl

pub before_month_is :
    (leaps : Bool) (i : ℕ) → i < 13 → start_of (month_span leaps) i ≡ get_or common i 0 + cond (leaps && ltb 1 i) 1 0
before_month_is leaps i h = eqb-true _ _ (below (tabled leaps) 13 (tables leaps) i h)

-- 32 days for each month before reach into the month or the next
abbrev near : Bool → ℕ → Bool
near leaps i = leb (start_of (month_span leaps) i) (32 * i) && leb (32 * i) (start_of (month_span leaps) (suc i))

nearby : (leaps : Bool) → upto (near leaps) 12 ≡ true
unfolding start_of
nearby true = refl
nearby false = refl

pub guess_near :
    (leaps : Bool) (i : ℕ) → i < 12 →
    (start_of (month_span leaps) i ≤ 32 * i) × (32 * i ≤ start_of (month_span leaps) (suc i))
guess_near leaps i h =
    let p = and_parts _ _ (below (near leaps) 12 (nearby leaps) i h) in
    (leb-true _ _ p.0, leb-true _ _ p.1)

pub year_has : (leaps : Bool) → start_of (month_span leaps) 12 ≡ cond leaps 366 365
unfolding start_of
year_has true = refl
year_has false = refl

-- 32 days a month reach the month of the day, or the one before it
pub guess_short :
    (leaps : Bool) (day before : ℕ) → day / 32 < 11 → before ≡ start_of (month_span leaps) (day / 32 + 1) →
    before ≤ day → (day / 32 + 1 < 12) × Within (month_span leaps) day (day / 32 + 1)
guess_short leaps day before room is short =
    let next = guess_near leaps (day / 32 + 1) (omega arith) in
    (omega arith, record { from = omega arith; to = omega arith })

pub guess_right :
    (leaps : Bool) (day : ℕ) → day < cond leaps 366 365 →
    ((day / 32 < 11) × (day < start_of (month_span leaps) (day / 32 + 1))) ⊎ (11 ≤ day / 32) →
    (day / 32 < 12) × Within (month_span leaps) day (day / 32)
guess_right leaps day inside reached =
    let most : cond leaps 366 365 ≤ 366 = cond_both leaps 366 365 (λ n. n ≤ 366) (λ _. omega arith) (λ _. omega arith) in
    let room : day / 32 < 12 = omega arith in
    let near = guess_near leaps (day / 32) room in
    let before : day < start_of (month_span leaps) (suc (day / 32)) =
    ⊎_elim {A = (day / 32 < 11) × (day < start_of (month_span leaps) (day / 32 + 1))} {B = 11 ≤ day / 32}
    (λ h. let e : day / 32 + 1 ≡ suc (day / 32) = omega arith in rw e at h.1)
    (λ h. let e : suc (day / 32) ≡ 12 = omega arith in rw e (omega (arith, year_has leaps))) reached
    in
    (room, record { from = omega arith; to = before })

-- a month has from 28 to 31 days
abbrev sized : Bool → ℕ → Bool
sized leaps i = leb 28 (month_span leaps i) && leb (month_span leaps i) 31

sizes : (leaps : Bool) → upto (sized leaps) 12 ≡ true
sizes true = refl
sizes false = refl

pub month_size : (leaps : Bool) (i : ℕ) → i < 12 → (28 ≤ month_span leaps i) × (month_span leaps i ≤ 31)
month_size leaps i h =
    let p = and_parts _ _ (below (sized leaps) 12 (sizes leaps) i h) in
    (leb-true _ _ p.0, leb-true _ _ p.1)
