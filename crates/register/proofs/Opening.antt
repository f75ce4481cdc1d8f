-- The sixteen rows of an opening, each made from its place.
-- Assumes nothing.
use Rattle.std.proofs.Common.{◌≡◌, ℕ, zero, suc, ◌+◌, ◌<◌, ◌≤◌, List, length, get_or, sym, subst, ◌∙◌, arith}
use Rattle.std.specs.Array.{IsFromFnResult, IsFromFnResultFrom}
use Rattle.std.specs.Fn.{Called}
use denote.Param.Members.{Mut}
use Rattle.std.proofs.lemmas.List.{ext_get_or}
use Rattle.register.specs.declared.row.Row.{Row}
use Rattle.register.specs.Rows.{zero_row, opened_row, opened}
use Rattle.register.proofs.Bounds.{opened_long}
use Rattle.register.proofs.Carry.{at_opened}

module _ {F : Type 0} (g : Mut F (ℕ × Unit {0}) Row) (f : F) (rows : List Row) (make : ℕ → Row)
    (calls : (i : ℕ) (r : Row) (q : F) → Called g f (i, tt) r q → (q ≡ f) × (r ≡ make i)) where
  made_from :
      (n i : ℕ) → IsFromFnResultFrom g f rows i n → (k : ℕ) → k < n → get_or rows (i + k) zero_row ≡ make (i + k)
  made_from zero i from k less = absurd (omega arith)
  made_from (suc n) i (q, r, at, called, rest) zero less =
      let e : i + 0 ≡ i = omega arith in rw e (at.1 zero_row ∙ (calls i r q called).1)
  made_from (suc n) i (q, r, at, called, rest) (suc k) less =
      let same : IsFromFnResultFrom g f rows (i + 1) n = subst (λ p. IsFromFnResultFrom g p rows (i + 1) n) (calls i r q called).0 rest in
      let e : i + 1 + k ≡ i + suc k = omega arith in
      rw e at (made_from n (i + 1) same k (omega arith))

pub opened_by_place :
    {F : Type 0} (g : Mut F (ℕ × Unit {0}) Row) (f : F) (rows : List Row) (holdings : List ℕ) → length holdings ≤ 16 →
    IsFromFnResult g f rows 16 →
    ((i : ℕ) (r : Row) (q : F) → Called g f (i, tt) r q → (q ≡ f) × (r ≡ opened_row (get_or holdings i 0))) → rows ≡ opened holdings
opened_by_place g f rows holdings few made calls =
    ext_get_or zero_row rows (opened holdings) (made.long ∙ sym (opened_long holdings few))
    (λ k less.
    let e : 0 + k ≡ k = omega arith in
    rw e at (made_from g f rows (λ i. opened_row (get_or holdings i 0)) calls 16 0 made.each k (omega (arith, made.long)))
    ∙ sym (at_opened holdings k))
