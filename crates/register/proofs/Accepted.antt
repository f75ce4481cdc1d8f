-- What an accepted call knows: that no cause of refusal holds.
-- Assumes nothing.
use Rattle.std.proofs.Common.{◌≡◌, ℕ, ◌≤◌, Bool, true, false, not, ◌||◌, eqb, ltb, List, length, get_or, None, sum, Option, refl, arith}
use Rattle.std.proofs.lemmas.Bool.{or_parts, and_parts, leb-true, ltb-false, eqb-false, not-false}
use Rattle.days.specs.Refusals.{Told}
use Rattle.register.specs.Calls.{opening, advance, transfer, redemption, posting, payment, State, empty, closed, end_of, unknown, uncovered, steady, good_dates, refuse_if, judge}

let_through : (cause : Bool) (n : ℕ) (rest : Option Told) → refuse_if cause n rest ≡ None → (cause ≡ false) × (rest ≡ None)
let_through true n rest e = absurd (let z : ◌≡◌ {A = ℕ} 0 1 = cc in omega arith)
let_through false n rest e = (refl, e)

pub covered : (s : State) (holder amount : ℕ) → uncovered s holder amount ≡ false → amount ≤ get_or s.holdings holder 0
covered s holder amount f = ltb-false _ _ (or_parts _ _ f).1

pub payment_known : (s : State) (holder : ℕ) → judge s (payment holder) ≡ None → unknown s holder ≡ false
payment_known s holder e = (let_through (unknown s holder) 22 None (let_through (empty s) 19 _ e).1).0

pub redemption_known :
    (s : State) (holder amount : ℕ) → judge s (redemption holder amount) ≡ None →
    (unknown s holder ≡ false) × (amount ≤ get_or s.holdings holder 0)
redemption_known s holder amount e =
    let known = let_through (unknown s holder) 22 _ (let_through (closed s) 20 _ (let_through (empty s) 19 _ e).1).1 in
    (known.0, covered s holder amount (let_through (uncovered s holder amount) 24 None known.1).0)

pub transfer_known :
    (s : State) (from to amount : ℕ) → judge s (transfer from to amount) ≡ None →
    (unknown s from ≡ false) × (unknown s to ≡ false) × (from ≡ to → ⊥) × (amount ≤ get_or s.holdings from 0)
transfer_known s from to amount e =
    let both = let_through (unknown s from || unknown s to) 22 _ (let_through (closed s) 20 _ (let_through (empty s) 19 _ e).1).1 in
    let apart = let_through (eqb from to) 23 _ both.1 in
    let known = or_parts _ _ both.0 in
    (known.0, known.1, eqb-false _ _ apart.0, covered s from amount (let_through (uncovered s from amount) 24 None apart.1).0)

pub posting_open : (s : State) → judge s posting ≡ None → closed s ≡ false
posting_open s e = (let_through (closed s) 20 None (let_through (empty s) 19 _ e).1).0

pub advance_within :
    (s : State) (day : ℕ) → judge s (advance day) ≡ None → (closed s ≡ false) × (s.today ≤ day) × (day ≤ end_of s)
advance_within s day e =
    let running = let_through (closed s) 20 _ (let_through (empty s) 19 _ e).1 in
    let within = or_parts _ _ (let_through (ltb day s.today || ltb (end_of s) day) 21 None running.1).0 in
    (running.0, ltb-false _ _ within.0, ltb-false _ _ within.1)

pub opening_good :
    (s : State) (dates : List ℕ) (rate : ℕ) (holdings : List ℕ) → judge s (opening dates rate holdings) ≡ None →
    (empty s ≡ true) × (2 ≤ length dates) × (length dates ≤ 481) × (steady dates ≡ true) × (rate ≤ 50000)
    × (length holdings ≤ 16) × (sum holdings ≤ 10000000000)
opening_good s dates rate holdings e =
    let fresh = let_through (not (empty s)) 14 _ e in
    let dated = let_through (not (good_dates dates)) 15 _ fresh.1 in
    let low = let_through (ltb 50000 rate) 16 _ dated.1 in
    let few = let_through (eqb (length holdings) 0 || ltb 16 (length holdings)) 17 _ low.1 in
    let most = let_through (eqb (sum holdings) 0 || ltb 10000000000 (sum holdings)) 18 None few.1 in
    let good = and_parts _ _ (not-false _ dated.0) in
    let long = and_parts _ _ good.0 in (
      not-false _ fresh.0,
      leb-true _ _ long.0,
      leb-true _ _ long.1,
      good.1,
      ltb-false _ _ low.0,
      ltb-false _ _ (or_parts _ _ few.0).1,
      ltb-false _ _ (or_parts _ _ most.0).1,
    )
