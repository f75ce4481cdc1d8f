-- A word of another length is no name of a day count.
-- Assumes nothing.
use Rattle.std.proofs.Common.{◌≡◌, ℕ, None, false, eqb, List, [], ◌∷◌, length, refl, arith}
use Rattle.std.proofs.lemmas.Bool.{and_right}
use Rattle.text.specs.Kinds.{same_bytes, basis_said}

other_length : (word name : List ℕ) → (length word ≡ length name → ⊥) → same_bytes word name ≡ false
other_length [] [] other = absurd (other refl)
other_length [] (y ∷ ys) other = refl
other_length (x ∷ xs) [] other = refl
other_length (x ∷ xs) (y ∷ ys) other = and_right (eqb x y) _ (other_length xs ys (λ e. other (omega arith)))

-- each name has four bytes
pub no_name : (word : List ℕ) → (length word ≡ 4 → ⊥) → None ≡ basis_said word
no_name word other =
    rw (
      other_length word (65 ∷ 51 ∷ 54 ∷ 48 ∷ []) other,
      other_length word (65 ∷ 51 ∷ 54 ∷ 53 ∷ []) other,
      other_length word (66 ∷ 51 ∷ 54 ∷ 48 ∷ []) other,
      other_length word (69 ∷ 51 ∷ 54 ∷ 48 ∷ []) other,
    ) refl
