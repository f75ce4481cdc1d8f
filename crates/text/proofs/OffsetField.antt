-- Offsets are read as they are spelled: a sign, and a number behind it.
-- Assumes nothing.
use Rattle.std.proofs.Common.{◌≡◌, ℕ, zero, suc, ◌-◌, Bool, true, false, cond, eqb, ◌⊎◌, List, [], ◌∷◌, ℤ, pos, negsuc, Some, None, Ok, Err, decimal, Option, sym, refl, ap, ◌∙◌, inl, inr, arith}
use Rattle.std.proofs.lemmas.Bool.{eqb-true, leb-true, ltb-true, ne_eqb, cond-true, cond-false}
use Rattle.days.specs.declared.refusal.Refusal.TheVariants.{OffsetOutOfRange}
use Rattle.calendar.specs.Kinds.{within_sixty}
use Rattle.text.specs.Kinds.{offset, number_said, plus_said, minus_said, offset_said}
use Rattle.text.specs.KindLaws.{KindLaw}
use Rattle.text.specs.Spelled.{spelled_offset}
use Rattle.text.proofs.Chosen.{same_from_some, ok_from_only}
use Rattle.text.proofs.NumberField.{number_read, number_said_again, decimal_above}
use Rattle.text.proofs.Unbroken.{Above, unbroken_from_above}

minus_of_some : (n : ℕ) → minus_said (Some (suc n)) ≡ Some (negsuc n)
minus_of_some n =
    cond-false (eqb (suc n) 0) None (Some (negsuc (suc n - 1))) (ne_eqb (suc n) 0 (λ e. omega arith))
    ∙ ap (λ (m : ℕ). Some (negsuc m)) (omega arith)

-- behind each sign the number that it goes with
plus_from_some : (o : Option ℕ) (z : ℤ) → plus_said o ≡ Some z → (n : ℕ) × (o ≡ Some n) × (z ≡ pos n)
plus_from_some None z e = cc
plus_from_some (Some n) z e = (n, refl, sym (same_from_some e))

minus_from_some : (o : Option ℕ) (z : ℤ) → minus_said o ≡ Some z → (n : ℕ) × (o ≡ Some (suc n)) × (z ≡ negsuc n)
minus_from_some None z e = cc
minus_from_some (Some zero) z e = cc
minus_from_some (Some (suc n)) z e = (n, refl, sym (same_from_some (sym (minus_of_some n) ∙ e)))

-- which sign stands in front
sign_from_some :
    (plus minus : Bool) (a b : Option ℤ) (z : ℤ) → cond plus a (cond minus b None) ≡ Some z →
    ((plus ≡ true) × (a ≡ Some z)) ⊎ ((minus ≡ true) × (b ≡ Some z))
sign_from_some true minus a b z e = inl (refl, e)
sign_from_some false true a b z e = inr (refl, e)
sign_from_some false false a b z e = cc

plus_read : (c : ℕ) (cs : List ℕ) (z : ℤ) → c ≡ 43 → plus_said (number_said cs) ≡ Some z → spelled_offset z ≡ c ∷ cs
plus_read c cs z sign e =
    let parts = plus_from_some (number_said cs) z e in
    let digits : decimal parts.0 ≡ cs = (number_read cs parts.0 parts.1).0 in
    ap spelled_offset parts.2 ∙ (cc)

minus_read : (c : ℕ) (cs : List ℕ) (z : ℤ) → c ≡ 45 → minus_said (number_said cs) ≡ Some z → spelled_offset z ≡ c ∷ cs
minus_read c cs z sign e =
    let parts = minus_from_some (number_said cs) z e in
    let digits : decimal (suc parts.0) ≡ cs = (number_read cs (suc parts.0) parts.1).0 in
    ap spelled_offset parts.2 ∙ (cc)

offset_read : (word : List ℕ) (z : ℤ) → offset_said word ≡ Some z → spelled_offset z ≡ word
offset_read [] z e = cc
offset_read (c ∷ cs) z e =
    elim (sign_from_some (eqb c 43) (eqb c 45) (plus_said (number_said cs)) (minus_said (number_said cs)) z e) [
      | inl p ↦ plus_read c cs z (eqb-true c 43 p.0) p.1
      | inr p ↦ minus_read c cs z (eqb-true c 45 p.0) p.1
    ]

-- and back, for the offsets that a text may have
offset_said_again : (z : ℤ) → within_sixty z ≡ true → offset_said (spelled_offset z) ≡ Some z
offset_said_again (pos n) near =
    let few = leb-true n 60 near in
    ap plus_said (number_said_again n (omega arith))
offset_said_again (negsuc n) near =
    let few = ltb-true n 60 near in
    ap minus_said (number_said_again (suc n) (omega arith)) ∙ minus_of_some n

offset_above : (z : ℤ) → within_sixty z ≡ true → Above (spelled_offset z)
offset_above (pos n) near =
    let few = leb-true n 60 near in
    (omega arith, decimal_above n (omega arith))
offset_above (negsuc n) near =
    let few = ltb-true n 60 near in
    (omega arith, decimal_above (suc n) (omega arith))

pub offset_law : KindLaw offset
offset_law =
    record {
      read_as_spelled = λ word s v e f.
          let chosen = ok_from_only (within_sixty s) s OffsetOutOfRange f in
          (offset_read word v (e ∙ ap Some chosen.1), ap within_sixty (sym chosen.1) ∙ chosen.0);
      spelled_and_read = λ z near.
          (z, offset_said_again z near, cond-true (within_sixty z) (Ok z) (Err OffsetOutOfRange) near);
      unbroken = λ z near. unbroken_from_above (spelled_offset z) (offset_above z near);
    }
