-- There is always a first word, where the words begin.
-- Assumes nothing.
use Rattle.std.proofs.Common.{◌≡◌, ℕ, ◌+◌, eqb, List, [], ◌∷◌, Err, refl, inl, inr}
use Rattle.std.proofs.lemmas.Bool.{cases_Bool}
use Rattle.days.specs.declared.refusal.Refusal.TheVariants.{BadField}
use Rattle.text.specs.Cuts.{Word, words, space}
use Rattle.text.specs.Fields.{Ending, fault, none_left}
use Rattle.text.specs.Left.{word_at}

some_word : (column : ℕ) (xs : List ℕ) → (bytes : List ℕ) × (later : List Word) × (words column xs ≡ word_at column bytes ∷ later)
unfolding words
some_word column [] = ([], [], refl)
some_word column (b ∷ xs) =
    elim (cases_Bool (eqb b space)) [
      | inl e ↦ ([], words (column + 1) xs, rw e refl)
      | inr e ↦ let next = some_word (column + 1) xs in (b ∷ next.0, next.1, rw (e, next.2) refl)
    ]

-- so a word is left
pub one_left :
    (column : ℕ) (rest : List ℕ) (end : Ending) → none_left end (words column rest) ≡ Err (fault BadField end.line column)
one_left column rest end = rw (some_word column rest).2 refl
