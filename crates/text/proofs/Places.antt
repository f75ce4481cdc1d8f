-- A list of a known length, written out by its places.
-- Assumes nothing.
use Rattle.std.proofs.Common.{◌≡◌, ℕ, zero, suc, List, [], ◌∷◌, length, get_or, drop, refl, ap, arith}

-- the first k places, each 0 where the list has none
abbrev pub places : ℕ → List ℕ → List ℕ
places zero word = []
places (suc k) word = get_or word 0 0 ∷ places k (drop 1 word)

pub places_are : (k : ℕ) (word : List ℕ) → length word ≡ k → places k word ≡ word
places_are zero [] size = refl
places_are zero (c ∷ cs) size = absurd (omega arith)
places_are (suc k) [] size = absurd (omega arith)
places_are (suc k) (c ∷ cs) size = ap (λ (rest : List ℕ). c ∷ rest) (places_are k cs (omega arith))
