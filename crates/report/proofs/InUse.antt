-- The rows in use of an opened register: one for each holding of the opening, and those beyond them stay empty.
-- Assumes nothing.
use Rattle.std.proofs.Common.{◌≡◌, ℕ, ◌-◌, ◌<◌, ◌≤◌, Bool, true, false, cond, eqb, ◌≢◌, List, [], ◌∷◌, map, length, set, replicate, Some, None, Option, refl, ap, ◌∙◌, arith, length-set}
use lib.ListN.{length-map, length-replicate}
use Rattle.std.proofs.lemmas.List.{length-append, get_or-set_other, get_or_past}
use Rattle.std.proofs.lemmas.Bool.{ne_eqb}
use Rattle.days.specs.Refusals.{Told}
use Rattle.register.specs.declared.row.Row.{Row}
use Rattle.register.specs.Calls.{Call, opening, advance, transfer, redemption, posting, payment, empty, unknown, end_of, judge}
use Rattle.register.specs.Rows.{accrued, posted, settled, gained, lost, zero_row, at, moved, redeemed, paid_out, opened, opened_row}
use Rattle.register.specs.Rules.{View, seen_state, unit, days_on, with_rows, begun, opened_view, ruled}
use Rattle.register.specs.Runs.{left_by, stepped, run}
use Rattle.register.proofs.Accepted.{payment_known, redemption_known, transfer_known, opening_good}
use Rattle.register.proofs.Carry.{at_map, accrued_none, posted_none, at_opened}
use Rattle.register.proofs.Seen.{known_below}

-- sixteen rows, all empty from n on
pub record EmptyFrom (n : ℕ) (rows : List Row) : Type 0 where
  pub sixteen : length rows ≡ 16
  pub beyond : (i : ℕ) → n ≤ i → at rows i ≡ zero_row

-- an opened register with n rows in use
pub record InUse (n : ℕ) (v : View) : Type 0 where
  pub dated : empty (seen_state v) ≡ false
  pub holders : v.holders ≡ n
  pub few : n ≤ 16
  pub rest : EmptyFrom n v.rows

-- a change of every row that leaves an empty one keeps all of them empty
map_empty :
    (n : ℕ) (f : Row → Row) (rows : List Row) → f zero_row ≡ zero_row → EmptyFrom n rows → EmptyFrom n (map f rows)
map_empty n f rows none e =
    record {
      sixteen = length-map rows f ∙ e.sixteen;
      beyond = λ i past. at_map f none rows i ∙ (ap f (e.beyond i past) ∙ none);
    }

-- a change of a row in use touches no other
set_empty :
    (n : ℕ) (rows : List Row) (k : ℕ) (r : Row) → k < n → EmptyFrom n rows → EmptyFrom n (set rows k r)
set_empty n rows k r less e =
    record {
      sixteen = length-set rows k r ∙ e.sixteen;
      beyond = λ i past. let ne : i ≢ k = omega arith in get_or-set_other rows k i r zero_row ne ∙ e.beyond i past;
    }

-- the rows of an opening beyond its holdings
opened_empty : (holdings : List ℕ) → length holdings ≤ 16 → EmptyFrom (length holdings) (opened holdings)
opened_empty holdings few =
    record {
      sixteen =
          length-append (map opened_row holdings) (replicate (16 - length holdings) zero_row)
          ∙ omega (arith, length-map holdings opened_row, length-replicate (16 - length holdings) zero_row);
      beyond = λ i past. at_opened holdings i ∙ ap opened_row (get_or_past holdings i 0 past);
    }

-- the register of an accepted opening
pub opened_in_use :
    (v : View) (dates : List ℕ) (rate : ℕ) (holdings : List ℕ) → judge (seen_state v) (opening dates rate holdings) ≡ None →
    InUse (length holdings) (opened_view dates rate holdings)
opened_in_use v dates rate holdings e =
    let good = opening_good (seen_state v) dates rate holdings e in
    record {
      dated = ne_eqb (length dates) 0 (λ none. omega (arith, good.1));
      holders = refl;
      few = good.5;
      rest = opened_empty holdings good.5;
    }

not_both : (b : Bool) → b ≡ true → b ≡ false → ⊥
not_both b holds fails = let z : ◌≡◌ {A = ℕ} 0 1 = cc in omega arith

module _ (count : ℕ → ℕ → ℕ) (per n : ℕ) where
  -- rows changed, and nothing else
  with_rows_in_use : (v : View) (rows : List Row) → InUse n v → EmptyFrom n rows → InUse n (with_rows v rows)
  with_rows_in_use v rows u e = record { dated = u.dated; holders = u.holders; few = u.few; rest = e }

  -- a known holder is in use
  known_in_use : (v : View) (i : ℕ) → InUse n v → unknown (seen_state v) i ≡ false → i < n
  known_in_use v i u f =
      let inside : v.holders ≤ length v.rows = omega (arith, u.rest.sixteen) in
      omega (arith, known_below v.holders v.rows i inside f)

  -- a new period begins on the same rows
  begun_in_use : (v : View) (ends : Bool) → InUse n v → InUse n (cond ends (begun v) v)
  begun_in_use v true u = record { dated = u.dated; holders = u.holders; few = u.few; rest = u.rest }
  begun_in_use v false u = u

  -- an accepted call leaves the same rows in use; an opening is not accepted again
  ruled_in_use :
      (v : View) (call : Call) → InUse n v → judge (seen_state v) call ≡ None → InUse n (ruled count per v call)
  ruled_in_use v (opening dates rate holdings) u e =
      let fresh = (opening_good (seen_state v) dates rate holdings e).0 in
      absurd (not_both (empty (seen_state v)) fresh u.dated)
  ruled_in_use v (advance day) u e =
      let by = accrued_none v.rate (days_on count v day) in
      record {
        dated = u.dated;
        holders = u.holders;
        few = u.few;
        rest = map_empty n (accrued v.rate (days_on count v day)) v.rows by u.rest;
      }
  ruled_in_use v (transfer from to amount) u e =
      let known = transfer_known (seen_state v) from to amount e in
      let mid = redeemed from amount v.rows in
      let left = set_empty n v.rows from (lost amount (at v.rows from)) (known_in_use v from u known.0) u.rest in
      with_rows_in_use v (moved from to amount v.rows) u
      (set_empty n mid to (gained amount (at mid to)) (known_in_use v to u known.1) left)
  ruled_in_use v (redemption holder amount) u e =
      let known = known_in_use v holder u (redemption_known (seen_state v) holder amount e).0 in
      with_rows_in_use v (redeemed holder amount v.rows) u
      (set_empty n v.rows holder (lost amount (at v.rows holder)) known u.rest)
  ruled_in_use v posting u e =
      let after = with_rows v (map (posted (unit per)) v.rows) in
      let kept = with_rows_in_use v after.rows u (map_empty n (posted (unit per)) v.rows (posted_none (unit per)) u.rest) in
      begun_in_use after (eqb v.today (end_of (seen_state v))) kept
  ruled_in_use v (payment holder) u e =
      let known = known_in_use v holder u (payment_known (seen_state v) holder e) in
      with_rows_in_use v (paid_out holder v.rows) u
      (set_empty n v.rows holder (settled (at v.rows holder)) known u.rest)

  -- a refused call changes nothing
  left_in_use :
      (v : View) (call : Call) (o : Option Told) → judge (seen_state v) call ≡ o → InUse n v →
      InUse n (left_by count per v call o)
  left_in_use v call None e u = ruled_in_use v call u e
  left_in_use v call (Some why) e u = u

  pub run_in_use : (v : View) (calls : List Call) → InUse n v → InUse n (run count per v calls)
  unfolding run
  run_in_use v [] u = u
  run_in_use v (call ∷ calls) u =
      run_in_use (stepped count per v call) calls (left_in_use v call (judge (seen_state v) call) refl u)
