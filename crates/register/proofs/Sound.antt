-- What holds of every journal.
-- Assumes nothing.
use Rattle.std.proofs.Common.{◌≡◌, ◌+◌, ◌≤◌, Bool, true, false, cond, eqb, List, [], ◌∷◌, ◌++◌, length, get_or, is_some, Some, None, fold, Option, refl, ◌∙◌, arith}
use Rattle.std.proofs.lemmas.List.Sums.{fold_push}
use Rattle.std.proofs.lemmas.Bool.{both_ways, eqb-true, leb-false}
use Rattle.days.specs.Refusals.{Told}
use Rattle.register.specs.Calls.{Call, opening, advance, transfer, redemption, posting, payment, empty, closed, end_of, steady, judge}
use Rattle.register.specs.Journal.{Journal, fresh, state_of, change, next, journal}
use Rattle.register.proofs.Accepted.{opening_good, advance_within, posting_open}

pub record Sound (j : Journal) : Type 0 where
  pub steadily : steady j.dates ≡ true
  pub begun : closed (state_of j) ≡ false → get_or j.dates j.period 0 ≤ j.today
  pub unopened : empty (state_of j) ≡ true → j.evenings ≡ []

fresh_sound : Sound fresh
fresh_sound = record { steadily = refl; begun = λ f. absurd (both_ways true f refl); unopened = λ e. refl }

posted_begun : (j : Journal) (ends : Bool) → eqb j.today (end_of (state_of j)) ≡ ends → Sound j → closed (state_of j) ≡ false →
    get_or j.dates (cond ends (j.period + 1) j.period) 0 ≤ j.today
posted_begun j true e s running = omega (arith, eqb-true _ _ e)
posted_begun j false e s running = s.begun running

-- a journal that is not closed is not empty
not_empty : (j : Journal) → closed (state_of j) ≡ false → empty (state_of j) ≡ true → ⊥
not_empty j running none = omega (arith, leb-false _ _ running, eqb-true _ _ none)

change_sound : (j : Journal) (call : Call) → Sound j → judge (state_of j) call ≡ None → Sound (change j call)
change_sound j (opening dates rate holdings) s e =
    let good = opening_good (state_of j) dates rate holdings e in
    record {
      steadily = good.3;
      begun = λ f. omega arith;
      unopened = λ none. absurd (omega (arith, eqb-true (length dates) 0 none, good.1));
    }
change_sound j (advance day) s e =
    let within = advance_within (state_of j) day e in
    record {
      steadily = s.steadily;
      begun = λ f. omega (arith, s.begun f, within.1);
      unopened = λ none. absurd (not_empty j within.0 none);
    }
change_sound j (transfer from to amount) s e = record { steadily = s.steadily; begun = s.begun; unopened = s.unopened }
change_sound j (redemption holder amount) s e = record { steadily = s.steadily; begun = s.begun; unopened = s.unopened }
change_sound j posting s e =
    let running = posting_open (state_of j) e in
    record {
      steadily = s.steadily;
      begun = λ f. posted_begun j (eqb j.today (end_of (state_of j))) refl s running;
      unopened = λ none. s.unopened none;
    }
change_sound j (payment holder) s e = s

next_sound : (j : Journal) (call : Call) (o : Option Told) → judge (state_of j) call ≡ o → Sound j → Sound (cond (is_some o) j (change j call))
next_sound j call None e s = change_sound j call s e
next_sound j call (Some told) e s = s

folded_sound : (calls : List Call) (j : Journal) → Sound j → Sound (fold next j calls)
folded_sound [] j s = s
folded_sound (call ∷ calls) j s = folded_sound calls (next j call) (next_sound j call (judge (state_of j) call) refl s)

pub journal_sound : (calls : List Call) → Sound (journal calls)
journal_sound calls = folded_sound calls fresh fresh_sound

-- one call more
pub journal_accepts :
    (calls : List Call) (call : Call) → judge (state_of (journal calls)) call ≡ None →
    journal (calls ++ call ∷ []) ≡ change (journal calls) call
journal_accepts calls call e = fold_push next fresh calls call ∙ rw e refl

pub journal_refuses :
    (calls : List Call) (call : Call) (told : Told) → judge (state_of (journal calls)) call ≡ Some told →
    journal (calls ++ call ∷ []) ≡ journal calls
journal_refuses calls call told e = fold_push next fresh calls call ∙ rw e refl
