-- Words that neither a space nor the end of a line breaks.
-- Assumes nothing.
use Rattle.std.proofs.Common.{◌≡◌, ℕ, ◌<◌, Bool, true, ◌&&◌, ltb, List, [], ◌∷◌, get_or, refl, arith}
use Rattle.std.specs.List.{AllByRecursion as All}
use Rattle.std.proofs.ByRecursion.{All-get_or, Decides-by_and}
use Rattle.std.proofs.lemmas.Bool.Decides.{Decides-ltb}
use Rattle.text.specs.KindLaws.{Unbroken}

-- every byte lies above the space, and so above the end of a line
abbrev pub Above : List ℕ → Type 0
Above word = All (λ c. 32 < c) word

abbrev pub all_above : List ℕ → Bool
all_above [] = true
all_above (c ∷ cs) = ltb 32 c && all_above cs

pub unbroken_from_above : (word : List ℕ) → Above word → Unbroken word
unbroken_from_above word above i inside =
    let byte : 32 < get_or word i 0 = All-get_or (λ c. 32 < c) word i 0 inside above in
    (λ e. omega arith, λ e. omega arith)

-- for a word that is written out, where the test computes
pub unbroken_from_test : (word : List ℕ) → all_above word ≡ true → Unbroken word
unbroken_from_test word test =
    unbroken_from_above word
    ((Decides-by_and (λ c. ltb 32 c) (λ c. 32 < c) all_above (λ c. Decides-ltb 32 c) refl (λ _ _. refl) word).0 test)
