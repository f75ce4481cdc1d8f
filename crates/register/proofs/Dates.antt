-- Steady dates: place by place, and which period holds a day.
-- Assumes nothing.
use Rattle.std.proofs.Common.{◌≡◌, ℕ, zero, suc, ◌+◌, ◌-◌, ◌<◌, ◌≤◌, ◌↔◌, Bool, true, false, ◌&&◌, ltb, leb, List, [], ◌∷◌, length, get_or, drop, IsTrue, EachIndex, sym, refl, ◌∙◌, arith}
use Rattle.std.specs.List.{IsAllAdjacentAnswer}
use Rattle.std.proofs.lemmas.List.{drop_more, at_drop_more}
use Rattle.std.proofs.lemmas.Bool.{le-leb, lt-ltb, and_parts, leb-true, ltb-true}
use Rattle.days.specs.Calendar.{last_day}
use Rattle.register.specs.Calls.{steady, follows_at}

pub follows_next :
    (dates : List ℕ) (i : ℕ) → i + 1 < length dates → get_or dates i 0 ≤ last_day →
    follows_at dates i
    ≡ (ltb (get_or dates i 0) (get_or dates (i + 1) 0) && leb (get_or dates (i + 1) 0) (get_or dates i 0 + 800))
follows_next dates i less inside =
    let more = drop_more dates (i + 1) 0 less in
    let range = le-leb (get_or dates i 0) last_day inside in
    rw (more, range) refl

pub steady_step :
    (dates : List ℕ) (i : ℕ) → i < length dates → steady (drop i dates) ≡ (follows_at dates i && steady (drop (i + 1) dates))
steady_step dates i less = at_drop_more steady dates i 0 less

pub steady_drop : (dates : List ℕ) → steady dates ≡ true → (i : ℕ) → i ≤ length dates → steady (drop i dates) ≡ true
steady_drop dates t zero h = t
steady_drop dates t (suc i) h =
    let less : i < length dates = omega arith in
    let step = sym (steady_step dates i less) ∙ steady_drop dates t i (omega arith) in
    let e : i + 1 ≡ suc i = omega arith in
    let rest : steady (drop (i + 1) dates) ≡ true = (and_parts (follows_at dates i) _ step).1 in
    rw e at rest

pub steady_at : (dates : List ℕ) → steady dates ≡ true → (i : ℕ) → i < length dates → follows_at dates i ≡ true
steady_at dates t i less = (and_parts _ _ (sym (steady_step dates i less) ∙ steady_drop dates t i (omega arith))).0

pub date_in_range : (dates : List ℕ) → steady dates ≡ true → (i : ℕ) → i < length dates → get_or dates i 0 ≤ last_day
date_in_range dates t i less = leb-true _ _ (and_parts _ _ (steady_at dates t i less)).0

-- the next date is later, by at most 800 days
pub next_date :
    (dates : List ℕ) → steady dates ≡ true → (i : ℕ) → i + 1 < length dates →
    (get_or dates i 0 < get_or dates (i + 1) 0) × (get_or dates (i + 1) 0 ≤ get_or dates i 0 + 800)
next_date dates t i less =
    let p = and_parts _ _ (sym (follows_next dates i less (date_in_range dates t i (omega arith))) ∙ steady_at dates t i (omega arith)) in
    (ltb-true _ _ p.0, leb-true _ _ p.1)

-- each date but the first follows the one before it closely
abbrev pub RisesClosely : List ℕ → Type 0
RisesClosely dates =
    (k : ℕ) → k + 1 < length dates →
    (get_or dates k 0 < get_or dates (k + 1) 0) × (get_or dates (k + 1) 0 ≤ get_or dates k 0 + 800)

-- what is asked of two neighbours
abbrev pub follows_closely : ℕ → ℕ → Bool
follows_closely x y = ltb x y && leb (y - x) 800

pub rises_where_answered :
    (dates : List ℕ) (r : Bool) → IsAllAdjacentAnswer (λ x y b. b ≡ follows_closely x y) dates r → IsTrue r ↔ RisesClosely dates
rises_where_answered dates true all = (
  λ t k less. let p = and_parts _ _ (sym (all k 0 less)) in (ltb-true _ _ p.0, omega (arith, leb-true _ _ p.1)),
  λ rises. refl,
)
rises_where_answered dates false (k, less, apart) = (
  λ t. let z : ◌≡◌ {A = ℕ} 0 1 = cc in absurd (omega arith),
  λ rises.
      let x = get_or dates k 0 in
      let y = get_or dates (k + 1) 0 in
      let later = lt-ltb x y (rises k less).0 in
      let near : leb (y - x) 800 ≡ true = le-leb (y - x) 800 (omega (arith, rises k less)) in
      rw (later, near) at (apart 0),
)

steady_from_each :
    (dates : List ℕ) → EachIndex dates (λ k. get_or dates k 0 ≤ last_day) → RisesClosely dates → steady dates ≡ true
steady_from_each [] inside rises = refl
steady_from_each (x ∷ []) inside rises = let range = le-leb x last_day (inside 0 (omega arith)) in rw range refl
steady_from_each (x ∷ y ∷ ys) inside rises =
    let range = le-leb x last_day (inside 0 (omega arith)) in
    let both = rises 0 (omega arith) in
    let later = lt-ltb x y both.0 in
    let near = le-leb y (x + 800) both.1 in
    let rest =
    steady_from_each (y ∷ ys) (λ k less. inside (suc k) (omega arith))
    (λ k less. let e : suc k + 1 ≡ suc (k + 1) = omega arith in rw e at (rises (suc k) (omega arith)))
    in
    rw (range, later, near, rest) refl

untrue : (b : Bool) → (b ≡ true → ⊥) → false ≡ b
untrue true never = absurd (never refl)
untrue false never = refl

-- where every date is of the range, the dates are steady just where they rise closely
pub steady_where_rising :
    (dates : List ℕ) (b : Bool) → EachIndex dates (λ k. get_or dates k 0 ≤ last_day) → IsTrue b ↔ RisesClosely dates → b ≡ steady dates
steady_where_rising dates true inside rises = sym (steady_from_each dates inside (rises.0 refl))
steady_where_rising dates false inside rises =
    untrue (steady dates)
    (λ t. let z : false ≡ true = rises.1 (next_date dates t) in let n : ◌≡◌ {A = ℕ} 0 1 = cc in omega arith)

pub unsteady :
    (dates : List ℕ) (a : Bool) → IsTrue a ↔ EachIndex dates (λ k. get_or dates k 0 ≤ last_day) → a ≡ false → a ≡ steady dates
unsteady dates a days e =
    e ∙ untrue (steady dates)
    (λ t. let z : true ≡ false = sym (days.1 (date_in_range dates t)) ∙ e in let n : ◌≡◌ {A = ℕ} 0 1 = cc in omega arith)
