-- The law of interest holds of the lines that are printed.
-- Assumes nothing.
use Rattle.std.proofs.Common.{◌≡◌, ℕ, zero, suc, ◌<◌, ◌≤◌, List, [], ◌∷◌, ◌++◌, map, length, take, Some, None, Ok, sum_by, Option, Result, sym, refl, ap, ◌∙◌, subst, append_assoc, zero-mul, arith}
use Rattle.std.proofs.lemmas.List.{length-take-le, get_or-take}
use Rattle.std.proofs.lemmas.List.Sums.{sum_by-cons}
use Rattle.days.specs.Refusals.{Told}
use Rattle.counts.specs.Counting.{asked, Lawful}
use Rattle.register.specs.declared.row.Row.{Row}
use Rattle.register.specs.Calls.{Call, judge}
use Rattle.register.specs.Mirrors.{After}
use Rattle.register.specs.Rows.{at, worth, zero_row}
use Rattle.register.specs.Rules.{View, seen_state, unit, rows_in_use, opened_view}
use Rattle.register.specs.Runs.{fresh_view, left_by, said_by, stepped, outcome, run}
use Rattle.register.proofs.Runs.{stands_after}
use Rattle.report.specs.Deals.{DealLines}
use Rattle.report.specs.Laws.{opening_of, calls_on, InterestShown, InterestLaw}
use Rattle.report.specs.Printed.{st_lines}
use Rattle.report.specs.Reports.{call_lines, front_lines, lines_by}
use Rattle.report.proofs.InUse.{InUse, opened_in_use, run_in_use}

-- a call that was answered was let through
let_through :
    (count : ℕ → ℕ → ℕ) (per : ℕ) (v : View) (call : Call) (n : ℕ) (o : Option Told) →
    said_by count per v call o ≡ Ok n → o ≡ None
let_through count per v call n None said = refl
let_through count per v call n (Some why) said = let z : ◌≡◌ {A = ℕ} 0 1 = cc in absurd (omega arith)

-- empty rows add nothing to a total
total_in_use :
    (f : Row → ℕ) → f zero_row ≡ 0 → (n : ℕ) (rows : List Row) → ((i : ℕ) → n ≤ i → at rows i ≡ zero_row) →
    sum_by f (take n rows) ≡ sum_by f rows
total_in_use f none zero [] empty = refl
total_in_use f none (suc n) [] empty = refl
total_in_use f none zero (r ∷ rows) empty =
    let here : f r ≡ 0 = ap f (empty 0 (omega arith)) ∙ none in
    let later = total_in_use f none 0 rows (λ i past. empty (suc i) (omega arith)) in
    simp (sum_by-cons f r rows) (omega arith)
total_in_use f none (suc n) (r ∷ rows) empty =
    let later = total_in_use f none n rows (λ i past. empty (suc i) (omega arith)) in
    simp (sum_by-cons f r rows, sum_by-cons f r (take n rows)) (omega arith)

module _ (c0 : ℕ → ℕ → ℕ) (per : ℕ) (lawful : Lawful c0 per) (deal : DealLines) where
  -- the register after the opening and every call
  abbrev left_on : List ℕ → View
  left_on days =
      run (asked c0) per (stepped (asked c0) per fresh_view (opening_of deal days)) (map (λ c. c.call) deal.calls)

  -- it stands after the calls of the law
  stands : (days : List ℕ) → After (asked c0) per (calls_on deal days) (left_on days)
  unfolding run
  stands days = stands_after c0 per lawful (calls_on deal days)

  -- each holding of the opening has its row
  in_use :
      (days : List ℕ) (nominal : ℕ) → outcome (asked c0) per fresh_view (opening_of deal days) ≡ Ok nominal →
      InUse (length deal.holdings) (left_on days)
  in_use days nominal accepted =
      let call = opening_of deal days in
      let rate = deal.terms.rate.value in
      let none : judge (seen_state fresh_view) call ≡ None =
      let_through (asked c0) per fresh_view call nominal (judge (seen_state fresh_view) call) accepted
      in
      let opens : stepped (asked c0) per fresh_view call ≡ opened_view days rate deal.holdings =
      ap (left_by (asked c0) per fresh_view call) none
      in
      run_in_use (asked c0) per (length deal.holdings) (stepped (asked c0) per fresh_view call) (map (λ c. c.call) deal.calls)
      (subst (λ (v : View). InUse (length deal.holdings) v) (sym opens)
      (opened_in_use fresh_view days rate deal.holdings none))

  -- the lines of an accepted schedule
  shown_on :
      (days : List ℕ) (nominal : ℕ) → outcome (asked c0) per fresh_view (opening_of deal days) ≡ Ok nominal →
      InterestShown (asked c0) per deal days (lines_by (asked c0) per deal (Ok days))
  shown_on days nominal accepted =
      let v = left_on days in
      let rate = deal.terms.rate.value in
      let front = front_lines (asked c0) per fresh_view rate deal.holdings deal.line (Ok days) in
      let answers = call_lines (asked c0) per (stepped (asked c0) per fresh_view (opening_of deal days)) deal.calls in
      let m = stands days in
      let u = in_use days nominal accepted in
      let long : length (rows_in_use v) ≡ v.holders = length-take-le v.holders v.rows (omega (arith, u.rest.sixteen, u.holders, u.few)) in
      let same : (i : ℕ) → i < length (rows_in_use v) → at (rows_in_use v) i ≡ at v.rows i =
      λ i less. get_or-take v.holders v.rows i zero_row (omega arith)
      in
      record {
        before = front ++ answers;
        rows = rows_in_use v;
        ends_with_the_rows = sym (append_assoc front answers (st_lines 0 (rows_in_use v)));
        a_row_for_each_holder = long ∙ u.holders;
        holding = λ i less. ap (λ r. r.holding) (same i less) ∙ m.holding i;
        each_holder = λ i less. ap (worth (unit per)) (same i less) ∙ m.each_holder i;
        all_holders =
            total_in_use (worth (unit per)) (omega (arith, zero-mul (unit per))) v.holders v.rows
            (λ i past. u.rest.beyond i (omega (arith, u.holders)))
            ∙ m.all_holders;
      }

-- whatever the schedule answers: an opened deal has an accepted one
pub interest_shown :
    (c0 : ℕ → ℕ → ℕ) (per : ℕ) → Lawful c0 per → (deal : DealLines) (s : Result (List ℕ) Told) →
    InterestLaw (asked c0) per deal s
interest_shown c0 per lawful deal s days nominal is accepted =
    subst (λ (t : Result (List ℕ) Told). InterestShown (asked c0) per deal days (lines_by (asked c0) per deal t)) (sym is)
    (shown_on c0 per lawful deal days nominal accepted)
