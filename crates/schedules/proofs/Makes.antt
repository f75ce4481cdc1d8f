-- What the code finds, date by date, is what the rule says of the whole list; and the other way round.
-- Assumes nothing.
use Rattle.std.proofs.Common.{◌≡◌, ℕ, zero, suc, ◌+◌, ◌-◌, ◌<◌, true, false, eqb, List, [], ◌∷◌, ◌++◌, length, get_or, drop, is_some, Some, None, Ok, Err, Option, Result, refl, ap, ◌∙◌, ⊎_elim, arith}
use Rattle.std.proofs.lemmas.Bool.{cases_Bool, eq-eqb, ne_eqb}
use Rattle.days.specs.Refusals.{told, answer}
use Rattle.days.specs.declared.refusal.Layer.TheVariants.{Calendar}
use Rattle.days.specs.declared.refusal.Refusal.{Refusal}
use Rattle.days.specs.declared.refusal.Refusal.TheVariants.{NeighboursOnOneDay}
use Rattle.schedules.specs.Outcomes.{EachRolls, NoDayAt, AllApart, ClashAt}
use Rattle.schedules.specs.Schedule.{with_first, roll_all, clash_from, first_clash, laid_out, Answers}

module _ (roll : ℕ → Option ℕ) where
  each_later : (date day : ℕ) (dates days : List ℕ) → EachRolls roll (date ∷ dates) (day ∷ days) → EachRolls roll dates days
  each_later date day dates days each k h = each (suc k) (omega arith)

  pub all_rolled :
      (dates days : List ℕ) (i : ℕ) → length days ≡ length dates → EachRolls roll dates days →
      roll_all roll i dates ≡ Ok days
  unfolding roll_all
  all_rolled [] [] i e each = refl
  all_rolled [] (day ∷ days) i e each = absurd (omega arith)
  all_rolled (date ∷ dates) [] i e each = absurd (omega arith)
  all_rolled (date ∷ dates) (day ∷ days) i e each =
      let here : roll date ≡ Some day = each 0 (omega arith) in
      let rest = all_rolled dates days (suc i) (omega arith) (each_later date day dates days each) in
      rw (here, rest) refl

  passed_on : (o : Option ℕ) (i j : ℕ) → is_some o ≡ true → with_first o i (Err j) ≡ Err j
  passed_on None i j e = absurd (let z : ◌≡◌ {A = ℕ} 0 1 = cc in omega arith)
  passed_on (Some day) i j e = refl

  later_none : (date : ℕ) (dates : List ℕ) (index : ℕ) → NoDayAt roll (date ∷ dates) (suc index) → NoDayAt roll dates index
  later_none date dates index at =
      record { within = omega (arith, at.within); none = at.none; before = λ k h. at.before (suc k) (omega arith) }

  pub none_rolled :
      (dates : List ℕ) (index i : ℕ) → NoDayAt roll dates index → roll_all roll i dates ≡ Err (i + index)
  unfolding roll_all
  none_rolled [] index i at = absurd (omega (arith, at.within))
  none_rolled (date ∷ dates) zero i at =
      let here : roll date ≡ None = at.none in
      let e : i + 0 ≡ i = omega arith in
      rw (here, e) refl
  none_rolled (date ∷ dates) (suc index) i at =
      let here : is_some (roll date) ≡ true = at.before 0 (omega arith) in
      let rest = none_rolled dates index (suc i) (later_none date dates index at) in
      let e : suc i + index ≡ i + suc index = omega arith in
      rw (rest, passed_on (roll date) i (suc i + index) here, e) refl

  each_more :
      (date day : ℕ) (dates days : List ℕ) → roll date ≡ Some day → EachRolls roll dates days →
      EachRolls roll (date ∷ dates) (day ∷ days)
  each_more date day dates days here each zero h = here
  each_more date day dates days here each (suc k) h = each k (omega arith)

  -- and the other way round
  first_some :
      (o : Option ℕ) (i : ℕ) (rest : Result (List ℕ) ℕ) (days : List ℕ) → with_first o i rest ≡ Ok days →
      (day : ℕ) × (later : List ℕ) × (o ≡ Some day) × (rest ≡ Ok later) × (days ≡ day ∷ later)
  first_some None i rest days e = absurd (let z : ◌≡◌ {A = ℕ} 0 1 = cc in omega arith)
  first_some (Some day) i (Ok later) days e = (day, later, refl, refl, (cc))
  first_some (Some day) i (Err j) days e = absurd (let z : ◌≡◌ {A = ℕ} 0 1 = cc in omega arith)

  pub rolled_each :
      (dates days : List ℕ) (i : ℕ) → roll_all roll i dates ≡ Ok days →
      (length days ≡ length dates) × EachRolls roll dates days
  unfolding roll_all
  rolled_each [] days i e =
      let none : days ≡ [] = cc in rw none (refl, λ k h. absurd (omega arith))
  rolled_each (date ∷ dates) days i e =
      let parts = first_some (roll date) i (roll_all roll (suc i) dates) days e in
      let day = parts.0 in
      let later = parts.1 in
      let rest = rolled_each dates later (suc i) parts.3 in
      rw parts.4 (
        omega (arith, rest.0),
        λ k h. each_more date day dates later parts.2 rest.1 k h,
      )

  none_later :
      (o : Option ℕ) (i : ℕ) (rest : Result (List ℕ) ℕ) (j : ℕ) → with_first o i rest ≡ Err j → is_some o ≡ true →
      rest ≡ Err j
  none_later None i rest j e some = absurd (let z : ◌≡◌ {A = ℕ} 0 1 = cc in omega arith)
  none_later (Some day) i (Ok later) j e some = absurd (let z : ◌≡◌ {A = ℕ} 0 1 = cc in omega arith)
  none_later (Some day) i (Err k) j e some = e

  -- where each date rolls, there is none without a day
  pub rolled_none :
      (dates : List ℕ) (i j : ℕ) → roll_all roll i dates ≡ Err j →
      ((k : ℕ) → k < length dates → is_some (roll (get_or dates k 0)) ≡ true) → ⊥
  unfolding roll_all
  rolled_none [] i j e each = let z : ◌≡◌ {A = ℕ} 0 1 = cc in omega arith
  rolled_none (date ∷ dates) i j e each =
      rolled_none dates (suc i) j (none_later (roll date) i (roll_all roll (suc i) dates) j e (each 0 (omega arith)))
      (λ k h. each (suc k) (omega arith))

apart_later : (x : ℕ) (xs : List ℕ) → AllApart (x ∷ xs) → AllApart xs
apart_later x xs apart k h e =
    let s : suc k + 1 ≡ suc (k + 1) = omega arith in apart (suc k) (omega arith) (rw s e)

pub no_clash_from : (x : ℕ) (xs : List ℕ) (i : ℕ) → AllApart (x ∷ xs) → clash_from x i xs ≡ None
unfolding clash_from
no_clash_from x [] i apart = refl
no_clash_from x (y ∷ ys) i apart =
    let differ = ne_eqb x y (apart 0 (omega arith)) in
    rw differ (no_clash_from y ys (suc i) (apart_later x (y ∷ ys) apart))

later_clash : (x : ℕ) (xs : List ℕ) (j : ℕ) → ClashAt (x ∷ xs) (suc (suc j)) → ClashAt xs (suc j)
later_clash x xs j at =
    let e : suc (suc j) - 1 ≡ suc j = omega arith in
    let f : suc j - 1 ≡ j = omega arith in
    record {
      some = omega arith;
      within = omega (arith, at.within);
      same = rw f (rw e at at.same);
      before = λ k h same. let s : suc k + 1 ≡ suc (k + 1) = omega arith in at.before (suc k) (omega arith) (rw s same);
    }

pub clash_found : (x : ℕ) (xs : List ℕ) (j i : ℕ) → ClashAt (x ∷ xs) (suc j) → clash_from x i xs ≡ Some (i + j)
unfolding clash_from
clash_found x [] j i at = absurd (omega (arith, at.within))
clash_found x (y ∷ ys) zero i at =
    let same = eq-eqb x y at.same in
    let e : i + 0 ≡ i = omega arith in
    rw (same, e) refl
clash_found x (y ∷ ys) (suc j) i at =
    let differ = ne_eqb x y (at.before 0 (omega arith)) in
    let e : suc i + j ≡ i + suc j = omega arith in
    rw (differ, clash_found y ys j (suc i) (later_clash x (y ∷ ys) j at), e) refl

pub no_clash : (days : List ℕ) → AllApart days → first_clash days ≡ None
unfolding first_clash
no_clash [] apart = refl
no_clash (x ∷ xs) apart = no_clash_from x xs 1 apart

pub one_clash : (days : List ℕ) (index : ℕ) → ClashAt days index → first_clash days ≡ Some index
unfolding first_clash
one_clash [] index at = absurd (omega (arith, at.within))
one_clash (x ∷ xs) index at =
    let e : index ≡ suc (index - 1) = omega (arith, at.some) in
    let f : 1 + (index - 1) ≡ index = omega (arith, at.some) in
    clash_found x xs (index - 1) 1 (rw e at at) ∙ ap Some f

-- and the other way round
pub apart_from : (x : ℕ) (xs : List ℕ) (i : ℕ) → clash_from x i xs ≡ None → AllApart (x ∷ xs)
unfolding clash_from
apart_from x [] i e k h same = omega arith
apart_from x (y ∷ ys) i e zero h same =
    let t = eq-eqb x y same in
    let is = rw t at e in
    let z : ◌≡◌ {A = ℕ} 0 1 = cc in omega arith
apart_from x (y ∷ ys) i e (suc k) h same =
    let s : suc k + 1 ≡ suc (k + 1) = omega arith in
    ⊎_elim
    (λ (t : eqb x y ≡ true). let is = rw t at e in let z : ◌≡◌ {A = ℕ} 0 1 = cc in omega arith)
    (λ (t : eqb x y ≡ false). apart_from y ys (suc i) (rw t at e) k (omega arith) (rw s at same))
    (cases_Bool (eqb x y))

pub all_apart : (days : List ℕ) → first_clash days ≡ None → AllApart days
unfolding first_clash
all_apart [] e k h same = omega arith
all_apart (x ∷ xs) e k h same = apart_from x xs 1 e k h same

module _ (roll : ℕ → Option ℕ) (dates table : List ℕ) where
  pub refused_12 :
      (e : Refusal) (index : ℕ) → NoDayAt roll dates index → told e ≡ answer 12 Calendar index →
      Answers (laid_out (roll_all roll 0 dates)) table (Err e) table
  refused_12 e index at is =
      let z : 0 + index ≡ index = omega arith in
      rw (none_rolled roll dates index 0 at, z) (is, refl)

  pub refused_13 :
      (days : List ℕ) (index : ℕ) → length days ≡ length dates → EachRolls roll dates days → ClashAt days index →
      Answers (laid_out (roll_all roll 0 dates)) table (Err (NeighboursOnOneDay index)) table
  refused_13 days index long each at =
      rw (all_rolled roll dates days 0 long each, one_clash days index at) (refl, refl)

  pub accepted :
      (days copied : List ℕ) → length days ≡ length dates → EachRolls roll dates days → AllApart days → copied ≡ days →
      Answers (laid_out (roll_all roll 0 dates)) table (Ok (length days)) (copied ++ drop (length days - 0) table)
  accepted days copied long each apart same =
      let z : length days - 0 ≡ length days = omega arith in
      rw (all_rolled roll dates days 0 long each, no_clash days apart, z, same) (refl, refl)
