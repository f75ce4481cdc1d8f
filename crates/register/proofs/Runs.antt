-- A run of calls keeps the law.
-- Assumes nothing.
use Rattle.std.proofs.Common.{◌≡◌, ℕ, zero, suc, ◌<◌, List, [], ◌∷◌, ◌++◌, length, get_or, take, Some, None, Ok, Option, sym, refl, ap, ◌∙◌, append_assoc, append-nil, zero-mul, arith, MatchResult}
use Rattle.days.specs.Refusals.{Told}
use Rattle.counts.specs.Counting.{asked, Lawful}
use Rattle.register.specs.Calls.{Call, posting, judge}
use Rattle.register.specs.Journal.{journal, state_of}
use Rattle.register.specs.Mirrors.{After}
use Rattle.register.specs.Rows.{worth, opened_row}
use Rattle.register.specs.Rules.{View, seen_state, unit}
use Rattle.register.specs.Runs.{fresh_view, left_by, said_by, stepped, outcome, run, outcomes, LawOfInterest}
use Rattle.register.proofs.Bounds.{sum_opened}
use Rattle.register.proofs.Carry.{at_opened}
use Rattle.register.proofs.Counts.{asked_same}
use Rattle.register.proofs.Law.{call_law}
use Rattle.register.proofs.Sound.{journal_sound, journal_accepts, journal_refuses}

module _ (c0 : ℕ → ℕ → ℕ) (per : ℕ) (lawful : Lawful c0 per) where
  pub fresh_after : After (asked c0) per [] fresh_view
  fresh_after =
      let nothing : (h : ℕ) → worth (unit per) (opened_row h) ≡ 0 = λ h. omega (arith, zero-mul (unit per)) in
      record {
        state = refl;
        rate = refl;
        nominal = sum_opened (λ r. r.holding) (λ h. h) refl (λ h. refl) [];
        holding = λ k. ap (λ r. r.holding) (at_opened [] k);
        each_holder = λ k. ap (worth (unit per)) (at_opened [] k) ∙ nothing 0;
        all_holders = sum_opened (worth (unit per)) (λ h. 0) (nothing 0) nothing [];
        tally = sym (asked_same c0 per lawful 0 (omega arith));
      }

  left_after :
      (done : List Call) (v : View) (call : Call) (o : Option Told) → After (asked c0) per done v →
      judge (seen_state v) call ≡ o → After (asked c0) per (done ++ call ∷ []) (left_by (asked c0) per v call o)
  left_after done v call None m e =
      let judged : judge (state_of (journal done)) call ≡ None = sym (ap (λ s. judge s call) m.state) ∙ e in
      rw (journal_accepts done call judged) (call_law c0 per lawful (journal done) (journal_sound done) v m call judged)
  left_after done v call (Some t) m e =
      let judged : judge (state_of (journal done)) call ≡ Some t = sym (ap (λ s. judge s call) m.state) ∙ e in
      rw (journal_refuses done call t judged) m

  run_after :
      (calls done : List Call) (v : View) → After (asked c0) per done v →
      After (asked c0) per (done ++ calls) (run (asked c0) per v calls)
  unfolding run
  run_after [] done v m = rw (append-nil done) m
  run_after (call ∷ calls) done v m =
      let next = left_after done v call (judge (seen_state v) call) m refl in
      rw (append_assoc done (call ∷ []) calls) at
      (run_after calls (done ++ call ∷ []) (stepped (asked c0) per v call) next)

  pub stands_after : (calls : List Call) → After (asked c0) per calls (run (asked c0) per fresh_view calls)
  stands_after calls = run_after calls [] fresh_view fresh_after

  outcome_at :
      (calls : List Call) (v : View) (k : ℕ) → k < length calls →
      get_or (outcomes (asked c0) per v calls) k (Ok 0) ≡ outcome (asked c0) per (run (asked c0) per v (take k calls)) (get_or calls k posting)
  unfolding run outcomes
  outcome_at [] v k less = absurd (omega arith)
  outcome_at (call ∷ calls) v zero less = refl
  outcome_at (call ∷ calls) v (suc k) less = outcome_at calls (stepped (asked c0) per v call) k (omega arith)

  said_as :
      (v : View) (call : Call) (o p : Option Told) → o ≡ p →
      MatchResult (said_by (asked c0) per v call o) (λ n. p ≡ None) (λ t. p ≡ Some t)
  said_as v call None p e = sym e
  said_as v call (Some t) p e = sym e

  pub law_of_interest : (calls : List Call) → LawOfInterest (asked c0) per calls
  law_of_interest calls =
      record {
        after_each = λ k h. stands_after (take k calls);
        answered_by_rule = λ k less. outcome_at calls fresh_view k less;
        refused_as_journal = λ k less.
            let v = run (asked c0) per fresh_view (take k calls) in
            let call = get_or calls k posting in
            rw (outcome_at calls fresh_view k less)
            (said_as v call (judge (seen_state v) call) (judge (state_of (journal (take k calls))) call)
            (ap (λ s. judge s call) (stands_after (take k calls)).state));
      }
