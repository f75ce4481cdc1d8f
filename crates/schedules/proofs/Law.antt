-- What the rule answers keeps the law.
-- Assumes nothing.
use Rattle.std.proofs.Common.{◌≡◌, ℕ, ◌+◌, ◌-◌, ◌<◌, ◌≤◌, Bool, true, false, cond, not, ltb, ◌⊎◌, List, ◌++◌, length, get_or, drop, Some, None, Ok, Err, Option, Result, sym, refl, ap, ◌∙◌, inl, inr, ⊎_elim, arith}
use Rattle.std.proofs.lemmas.List.{get_or_append_left, get_or-append_right, get_or-drop}
use Rattle.std.proofs.lemmas.Bool.{cases_lt, ltb-true, leb-true, eqb-true, lt-ltb, le-ltb, le-leb, and_parts, and_from, or_cases}
use Rattle.days.specs.Refusals.{Told}
use Rattle.days.specs.declared.refusal.Refusal.{Refusal}
use Rattle.calendar.specs.Closed.{ClosesAboveRange}
use Rattle.calendar.specs.Rolling.{rolled}
use Rattle.calendar.proofs.Rolls.{keeps_order, ends_open}
use Rattle.schedules.specs.declared.deal.Deal.{Deal}
use Rattle.schedules.specs.Dates.{Sound, good_term, good_months, dates}
use Rattle.schedules.specs.Outcomes.{EachRolls, AllApart}
use Rattle.schedules.specs.Schedule.{roll_all, first_clash, unless_clash, laid_out, rolled_dates, scheduled, Answers, ByRule}
use Rattle.schedules.specs.Laws.{WellFormed, Accepted, Ready, NeighboursApart, ScheduleLaw}
use Rattle.schedules.proofs.Inners.{dates_length}
use Rattle.schedules.proofs.Gaps.{dates_rise, dates_near, dates_few}
use Rattle.schedules.proofs.Makes.{rolled_each, rolled_none, no_clash, all_apart}
use Rattle.schedules.proofs.Periods.{in_one_period}
use Rattle.schedules.proofs.Readings.{dates_are}
use Rattle.schedules.proofs.Moves.{moves, stays_in_range}

-- the allowed months, as a test and as a fact
months_tell :
    (m : ℕ) → good_months m ≡ true →
    (m ≡ 1) ⊎ ((m ≡ 2) ⊎ ((m ≡ 3) ⊎ ((m ≡ 4) ⊎ ((m ≡ 6) ⊎ (m ≡ 12)))))
months_tell m e =
    ⊎_elim (λ t. inl (eqb-true _ _ t))
    (λ t.
    inr
    (⊎_elim (λ t₂. inl (eqb-true _ _ t₂))
    (λ t₂.
    inr
    (⊎_elim (λ t₃. inl (eqb-true _ _ t₃))
    (λ t₃.
    inr
    (⊎_elim (λ t₄. inl (eqb-true _ _ t₄))
    (λ t₄.
    inr
    (⊎_elim (λ t₅. inl (eqb-true _ _ t₅)) (λ t₅. inr (eqb-true _ _ t₅)) (or_cases _ _ t₄)))
    (or_cases _ _ t₃)))
    (or_cases _ _ t₂)))
    (or_cases _ _ t)))
    (or_cases _ _ e)

pub well_formed : (deal : Deal) → good_term deal ≡ true → good_months deal.months ≡ true → WellFormed deal
well_formed deal t m =
    let p = and_parts _ _ t in
    let q = and_parts _ _ p.1 in
    record {
      rises = ltb-true _ _ p.0;
      near = leb-true _ _ q.0;
      in_range = leb-true _ _ q.1;
      months = months_tell deal.months m;
    }

pub sound_from : (deal : Deal) → WellFormed deal → Sound deal
sound_from deal w =
    record {
      rises = w.rises;
      near = w.near;
      in_range = w.in_range;
      some_months = omega (arith, w.months);
      few_months = omega (arith, w.months);
    }

good_term_from : (deal : Deal) → WellFormed deal → good_term deal ≡ true
good_term_from deal w =
    and_from _ _ (lt-ltb _ _ w.rises) (and_from _ _ (le-leb _ _ w.near) (le-leb _ _ w.in_range))

months_pass :
    (m : ℕ) → (m ≡ 1) ⊎ ((m ≡ 2) ⊎ ((m ≡ 3) ⊎ ((m ≡ 4) ⊎ ((m ≡ 6) ⊎ (m ≡ 12))))) → good_months m ≡ true
months_pass m one =
    let yes : (n : ℕ) → good_months n ≡ true → m ≡ n → good_months m ≡ true = λ n t e. ap good_months e ∙ t in
    ⊎_elim (yes 1 refl)
    (⊎_elim (yes 2 refl) (⊎_elim (yes 3 refl) (⊎_elim (yes 4 refl) (⊎_elim (yes 6 refl) (yes 12 refl))))) one

-- what an answer says of the tests before it
accepted_after :
    (t m l : Bool) (rest : Result (List ℕ) Told) (why₁ why₂ why₃ : Told) (table after : List ℕ) (n : ℕ) →
    Answers (cond (not t) (Err why₁) (cond (not m) (Err why₂) (cond l (Err why₃) rest))) table (Ok n) after →
    (t ≡ true) × (m ≡ true) × (l ≡ false) × Answers rest table (Ok n) after
accepted_after false m l rest why₁ why₂ why₃ table after n a = absurd a
accepted_after true false l rest why₁ why₂ why₃ table after n a = absurd a
accepted_after true true true rest why₁ why₂ why₃ table after n a = absurd a
accepted_after true true false rest why₁ why₂ why₃ table after n a = (refl, refl, refl, a)

refused_after :
    (t m l : Bool) (rest : Result (List ℕ) Told) (why₁ why₂ why₃ : Told) (table after : List ℕ) (e : Refusal) →
    t ≡ true → m ≡ true → l ≡ false →
    Answers (cond (not t) (Err why₁) (cond (not m) (Err why₂) (cond l (Err why₃) rest))) table (Err e) after →
    Answers rest table (Err e) after
refused_after t m l rest why₁ why₂ why₃ table after e t-is m-is l-is a = rw (t-is, m-is, l-is) at a

unless_none :
    (days : List ℕ) (o : Option ℕ) (table after : List ℕ) (n : ℕ) → Answers (unless_clash days o) table (Ok n) after →
    (o ≡ None) × (n ≡ length days) × (after ≡ days ++ drop (length days) table)
unless_none days None table after n a = (refl, a.0, a.1)
unless_none days (Some index) table after n a = absurd a

laid_ok :
    (all : Result (List ℕ) ℕ) (table after : List ℕ) (n : ℕ) → Answers (laid_out all) table (Ok n) after →
    (days : List ℕ) × (all ≡ Ok days) × (first_clash days ≡ None) × (n ≡ length days)
    × (after ≡ days ++ drop (length days) table)
laid_ok (Ok days) table after n a =
    let u = unless_none days (first_clash days) table after n a in (days, refl, u.0, u.1, u.2)
laid_ok (Err index) table after n a = absurd a

unless_some :
    (days : List ℕ) (o : Option ℕ) (table after : List ℕ) (e : Refusal) →
    Answers (unless_clash days o) table (Err e) after → o ≡ None → ⊥
unless_some days None table after e a none = a
unless_some days (Some index) table after e a none = let z : ◌≡◌ {A = ℕ} 0 1 = cc in omega arith

laid_err :
    (all : Result (List ℕ) ℕ) (table after : List ℕ) (e : Refusal) → Answers (laid_out all) table (Err e) after →
    ((index : ℕ) × (all ≡ Err index)) ⊎ ((days : List ℕ) × (all ≡ Ok days) × (first_clash days ≡ None → ⊥))
laid_err (Ok days) table after e a = inr (days, refl, unless_some days (first_clash days) table after e a)
laid_err (Err index) table after e a = inl (index, refl)

some_same : (x y : ℕ) → ◌≡◌ {A = Option ℕ} (Some x) (Some y) → x ≡ y
some_same x y e = cc

module _ (closed : ℕ → Bool) (deal : Deal) where
  -- days of dates that are apart rise, and are not far apart
  module _
      (sound : Sound deal) (days : List ℕ)
      (each : EachRolls (rolled closed deal.convention) (dates deal) days) where
    days_keep : (k : ℕ) → k + 1 < length (dates deal) → get_or days k 0 ≤ get_or days (k + 1) 0
    days_keep k h =
        keeps_order closed deal.convention (get_or (dates deal) k 0) (get_or (dates deal) (k + 1) 0) (get_or days k 0)
        (get_or days (k + 1) 0) (omega (arith, dates_rise deal sound k h)) (each k (omega arith)) (each (k + 1) h)

    days_rise :
        AllApart days → length days ≡ length (dates deal) → (k : ℕ) → k + 1 < length (dates deal) →
        get_or days k 0 < get_or days (k + 1) 0
    days_rise apart long k h =
        let keep = days_keep k h in
        let differ = apart k (omega arith) in
        ⊎_elim (λ (l : get_or days k 0 < get_or days (k + 1) 0). l)
        (λ (g : get_or days (k + 1) 0 ≤ get_or days k 0). absurd (differ (omega arith)))
        (cases_lt (get_or days k 0) (get_or days (k + 1) 0))

    days_near : (k : ℕ) → k + 1 < length (dates deal) → get_or days (k + 1) 0 ≤ get_or days k 0 + 800
    days_near k h =
        let near = dates_near deal sound k h in
        let here = moves closed deal.convention (get_or (dates deal) k 0) (get_or days k 0) (each k (omega arith)) in
        let next = moves closed deal.convention (get_or (dates deal) (k + 1) 0) (get_or days (k + 1) 0) (each (k + 1) h) in
        omega arith

    -- neighbouring dates roll to one day where their days are one
    pub apart_days : NeighboursApart closed deal → length days ≡ length (dates deal) → AllApart days
    apart_days apart long k h e =
        let l : k + 1 < length (dates deal) = omega arith in
        apart k l (each k (omega arith) ∙ ap Some e ∙ sym (each (k + 1) l))

    pub apart_dates : AllApart days → length days ≡ length (dates deal) → NeighboursApart closed deal
    apart_dates apart long k h e =
        apart k (omega arith) (some_same _ _ (sym (each k (omega arith)) ∙ e ∙ each (k + 1) h))

  -- the schedule that is written
  module _
      (table after days : List ℕ) (n : ℕ) (count : n ≡ length days) (is : after ≡ days ++ drop (length days) table) where
    after_front : (k : ℕ) → k < n → get_or after k 0 ≡ get_or days k 0
    after_front k h = ap (λ xs. get_or xs k 0) is ∙ get_or_append_left days (drop (length days) table) 0 k (omega arith)

    after_rest : (k : ℕ) → n ≤ k → get_or after k 0 ≡ get_or table k 0
    after_rest k h =
        let e : length days + (k - length days) ≡ k = omega arith in
        ap (λ xs. get_or xs k 0) is
        ∙ get_or-append_right days (drop (length days) table) (length days) k 0 refl (omega arith)
        ∙ get_or-drop (length days) table (k - length days) 0 ∙ ap (λ j. get_or table j 0) e

    accepted_days :
        ClosesAboveRange closed → WellFormed deal → length days ≡ length (dates deal) →
        EachRolls (rolled closed deal.convention) (dates deal) days → AllApart days → Accepted closed deal table after n
    accepted_days lawful well long each apart =
        let sound = sound_from deal well in
        let all = dates_length deal sound in
        let few = dates_few deal sound in
        let rises : (k : ℕ) → k + 1 < n → get_or after k 0 < get_or after (k + 1) 0 =
        λ k h.
        let here = after_front k (omega arith) in
        let next = after_front (k + 1) h in
        let up = days_rise sound days each apart long k (omega arith) in omega arith
        in
        record {
          well_formed = well;
          all_the_dates = omega arith;
          begins_with_rolled_dates = λ k h. each k (omega arith) ∙ ap Some (sym (after_front k h));
          unchanged_beyond = after_rest;
          rises = rises;
          each_day_in_one_period = λ x low high. in_one_period after n rises x low high (omega arith);
          periods_begin_open = λ adjusted k h.
              let here = after_front k h in
              rw here (ends_open closed deal.convention _ _ adjusted (each k (omega arith)));
          in_range = λ k h.
              let here = after_front k h in
              let in_range = stays_in_range closed deal.convention lawful _ _ (each k (omega arith)) in
              omega arith;
          neighbours_near = λ k h.
              let here = after_front k (omega arith) in
              let next = after_front (k + 1) h in
              let near = days_near sound days each k (omega arith) in
              omega arith;
          one_period_at_least = omega arith;
          few = omega arith;
        }

  module _ (table after : List ℕ) (lawful : ClosesAboveRange closed) where
    pub accepted_is :
        (n : ℕ) → Answers (scheduled closed deal (length table)) table (Ok n) after → Accepted closed deal table after n
    accepted_is n a =
        let tests =
        accepted_after (good_term deal) (good_months deal.months) (ltb (length table) (length (dates deal)))
        (rolled_dates closed deal) _ _ _ table after n a
        in
        let laid = laid_ok (roll_all (rolled closed deal.convention) 0 (dates deal)) table after n tests.3 in
        let each = rolled_each (rolled closed deal.convention) (dates deal) laid.0 0 laid.1 in
        accepted_days table after laid.0 n laid.3 laid.4 lawful (well_formed deal tests.0 tests.1)
        each.0 each.1 (all_apart laid.0 laid.2)

    never_refused :
        (e : Refusal) → Answers (scheduled closed deal (length table)) table (Err e) after →
        Ready closed deal (length table) → NeighboursApart closed deal → ⊥
    never_refused e a ready apart =
        let well = ready.well_formed in
        let rest =
        refused_after (good_term deal) (good_months deal.months) (ltb (length table) (length (dates deal)))
        (rolled_dates closed deal) _ _ _ table after e (good_term_from deal well) (months_pass deal.months well.months)
        (le-ltb (length table) (length (dates deal)) ready.fits) a
        in
        ⊎_elim
        (λ (none : (index : ℕ) × (roll_all (rolled closed deal.convention) 0 (dates deal) ≡ Err index)).
        rolled_none (rolled closed deal.convention) (dates deal) 0 none.0 none.1 ready.each_rolls)
        (λ
        (clash :
        (days : List ℕ) × (roll_all (rolled closed deal.convention) 0 (dates deal) ≡ Ok days)
        × (first_clash days ≡ None → ⊥)).
        let each = rolled_each (rolled closed deal.convention) (dates deal) clash.0 0 clash.1 in
        clash.2
        (no_clash clash.0 (apart_days (sound_from deal well) clash.0 each.1 apart each.0)))
        (laid_err (roll_all (rolled closed deal.convention) 0 (dates deal)) table after e rest)

    exactly_ok :
        (n : ℕ) → Answers (scheduled closed deal (length table)) table (Ok n) after → NeighboursApart closed deal
    exactly_ok n a k h e =
        let is = accepted_is n a in
        let rises = is.rises k (omega (arith, is.all_the_dates)) in
        let here = is.begins_with_rolled_dates k (omega (arith, is.all_the_dates)) in
        let next = is.begins_with_rolled_dates (k + 1) (omega (arith, is.all_the_dates)) in
        omega (arith, some_same _ _ (sym here ∙ e ∙ next))

    pub law : (r : Result ℕ Refusal) → ByRule closed deal table r after → ScheduleLaw closed deal table r after
    law (Ok n) a =
        record {
          accepted_exactly_when_apart = λ ready. (λ _. exactly_ok n a, λ _. refl);
          accepted = accepted_is n a;
          dates_are = λ well. dates_are deal (sound_from deal well);
        }
    law (Err e) a =
        record {
          accepted_exactly_when_apart = λ ready.
              (λ no'. absurd (let z : ◌≡◌ {A = ℕ} 0 1 = cc in omega arith), λ apart. absurd (never_refused e a ready apart));
          accepted = tt;
          dates_are = λ well. dates_are deal (sound_from deal well);
        }
