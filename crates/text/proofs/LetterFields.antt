-- The fields that are spelled by letters: stubs, conventions and day counts.
-- Assumes nothing.
use Rattle.std.proofs.Common.{◌≡◌, ℕ, true, ◌&&◌, eqb, List, [], ◌∷◌, Some, sym, refl, ap, ◌∙◌, inl, inr}
use Rattle.std.proofs.lemmas.Bool.{eqb-true, and_parts}
use Rattle.calendar.specs.Letters.{convention_of}
use Rattle.calendar.specs.declared.rolling.Convention.{Convention}
use Rattle.calendar.specs.declared.rolling.Convention.TheVariants.{Following, ModifiedFollowing, Preceding, Unadjusted}
use Rattle.schedules.specs.declared.deal.Stub.{Stub}
use Rattle.schedules.specs.declared.deal.Stub.TheVariants.{ShortFirst, ShortLast}
use Rattle.text.specs.declared.basis.Basis.{Basis}
use Rattle.text.specs.declared.basis.Basis.TheVariants.{Actual360, Actual365, BondBasis, European}
use Rattle.text.specs.Kinds.{stub, convention, basis, stub_said, convention_said, same_bytes, basis_said}
use Rattle.text.specs.KindLaws.{KindLaw, Unbroken}
use Rattle.text.specs.Spelled.{spelled_stub, spelled_convention, spelled_basis}
use Rattle.text.proofs.Chosen.{same_from_ok, some_from_cond, some_from_only}
use Rattle.text.proofs.Unbroken.{unbroken_from_test}

-- words that pass a test for a spelling are that spelling
two_same : (a b x y : ℕ) → (eqb a x && eqb b y) ≡ true → x ∷ y ∷ [] ≡ a ∷ b ∷ []
two_same a b x y e =
    let p = and_parts (eqb a x) (eqb b y) e in
    let first = eqb-true a x p.0 in
    let second = eqb-true b y p.1 in
    cc

one_same : (a x : ℕ) → eqb a x ≡ true → x ∷ [] ≡ a ∷ []
one_same a x e = let first = eqb-true a x e in cc

bytes_same : (xs ys : List ℕ) → same_bytes xs ys ≡ true → ys ≡ xs
bytes_same [] [] e = refl
bytes_same [] (y ∷ ys) e = cc
bytes_same (x ∷ xs) [] e = cc
bytes_same (x ∷ xs) (y ∷ ys) e =
    let p = and_parts (eqb x y) (same_bytes xs ys) e in
    let first = eqb-true x y p.0 in
    let others = bytes_same xs ys p.1 in
    cc

-- stubs
stub_read : (word : List ℕ) (s : Stub) → stub_said word ≡ Some s → spelled_stub s ≡ word
stub_read [] s e = cc
stub_read (a ∷ []) s e = cc
stub_read (a ∷ b ∷ []) s e =
    elim (some_from_cond (eqb a 83 && eqb b 70) ShortFirst _ e) [
      | inl p ↦ ap spelled_stub (sym p.1) ∙ two_same a b 83 70 p.0
      | inr e' ↦
          let p = some_from_only (eqb a 83 && eqb b 76) ShortLast e' in
          ap spelled_stub (sym p.1) ∙ two_same a b 83 76 p.0
    ]
stub_read (a ∷ b ∷ c ∷ rest) s e = cc

stub_said_again : (s : Stub) → stub_said (spelled_stub s) ≡ Some s
stub_said_again ShortFirst = refl
stub_said_again ShortLast = refl

stub_unbroken : (s : Stub) → Unbroken (spelled_stub s)
stub_unbroken ShortFirst = unbroken_from_test (spelled_stub ShortFirst) refl
stub_unbroken ShortLast = unbroken_from_test (spelled_stub ShortLast) refl

pub stub_law : KindLaw stub
stub_law =
    record {
      read_as_spelled = λ word s v e f. (ap spelled_stub (sym (same_from_ok f)) ∙ stub_read word s e, tt);
      spelled_and_read = λ v h. (v, stub_said_again v, refl);
      unbroken = λ v h. stub_unbroken v;
    }

-- conventions
letter_read : (a : ℕ) (c : Convention) → convention_of a ≡ Some c → spelled_convention c ≡ a ∷ []
letter_read a c e =
    elim (some_from_cond (eqb a 70) Following _ e) [
      | inl p ↦ ap spelled_convention (sym p.1) ∙ one_same a 70 p.0
      | inr e' ↦ elim (some_from_cond (eqb a 77) ModifiedFollowing _ e') [
        | inl p ↦ ap spelled_convention (sym p.1) ∙ one_same a 77 p.0
        | inr e'' ↦ elim (some_from_cond (eqb a 80) Preceding _ e'') [
          | inl p ↦ ap spelled_convention (sym p.1) ∙ one_same a 80 p.0
          | inr e''' ↦
              let p = some_from_only (eqb a 85) Unadjusted e''' in
              ap spelled_convention (sym p.1) ∙ one_same a 85 p.0
        ]
      ]
    ]

convention_read : (word : List ℕ) (c : Convention) → convention_said word ≡ Some c → spelled_convention c ≡ word
convention_read [] c e = cc
convention_read (a ∷ []) c e = letter_read a c e
convention_read (a ∷ b ∷ rest) c e = cc

convention_said_again : (c : Convention) → convention_said (spelled_convention c) ≡ Some c
convention_said_again Following = refl
convention_said_again ModifiedFollowing = refl
convention_said_again Preceding = refl
convention_said_again Unadjusted = refl

convention_unbroken : (c : Convention) → Unbroken (spelled_convention c)
convention_unbroken Following = unbroken_from_test (spelled_convention Following) refl
convention_unbroken ModifiedFollowing = unbroken_from_test (spelled_convention ModifiedFollowing) refl
convention_unbroken Preceding = unbroken_from_test (spelled_convention Preceding) refl
convention_unbroken Unadjusted = unbroken_from_test (spelled_convention Unadjusted) refl

pub convention_law : KindLaw convention
convention_law =
    record {
      read_as_spelled = λ word s v e f. (ap spelled_convention (sym (same_from_ok f)) ∙ convention_read word s e, tt);
      spelled_and_read = λ v h. (v, convention_said_again v, refl);
      unbroken = λ v h. convention_unbroken v;
    }

-- day counts
basis_read : (word : List ℕ) (b : Basis) → basis_said word ≡ Some b → spelled_basis b ≡ word
basis_read word b e =
    elim (some_from_cond (same_bytes word (spelled_basis Actual360)) Actual360 _ e) [
      | inl p ↦ ap spelled_basis (sym p.1) ∙ bytes_same word (spelled_basis Actual360) p.0
      | inr e' ↦ elim (some_from_cond (same_bytes word (spelled_basis Actual365)) Actual365 _ e') [
        | inl p ↦ ap spelled_basis (sym p.1) ∙ bytes_same word (spelled_basis Actual365) p.0
        | inr e'' ↦ elim (some_from_cond (same_bytes word (spelled_basis BondBasis)) BondBasis _ e'') [
          | inl p ↦ ap spelled_basis (sym p.1) ∙ bytes_same word (spelled_basis BondBasis) p.0
          | inr e''' ↦
              let p = some_from_only (same_bytes word (spelled_basis European)) European e''' in
              ap spelled_basis (sym p.1) ∙ bytes_same word (spelled_basis European) p.0
        ]
      ]
    ]

basis_said_again : (b : Basis) → basis_said (spelled_basis b) ≡ Some b
basis_said_again Actual360 = refl
basis_said_again Actual365 = refl
basis_said_again BondBasis = refl
basis_said_again European = refl

basis_unbroken : (b : Basis) → Unbroken (spelled_basis b)
basis_unbroken Actual360 = unbroken_from_test (spelled_basis Actual360) refl
basis_unbroken Actual365 = unbroken_from_test (spelled_basis Actual365) refl
basis_unbroken BondBasis = unbroken_from_test (spelled_basis BondBasis) refl
basis_unbroken European = unbroken_from_test (spelled_basis European) refl

pub basis_law : KindLaw basis
basis_law =
    record {
      read_as_spelled = λ word s v e f. (ap spelled_basis (sym (same_from_ok f)) ∙ basis_read word s e, tt);
      spelled_and_read = λ v h. (v, basis_said_again v, refl);
      unbroken = λ v h. basis_unbroken v;
    }
