-- Texts that are cut off at the end of a draft.
-- Assumes nothing.
use Rattle.std.proofs.Common.{◌≡◌, ℕ, zero, suc, ◌+◌, ◌<◌, List, [], ◌∷◌, ◌++◌, length, get_or, take, sym, refl, ap, ◌∙◌, append_assoc}
use Rattle.std.proofs.lemmas.List.{take_more}

-- what was cut off once stays off
pub cut_again : (n : ℕ) (xs ys : List ℕ) → take n (take n xs ++ ys) ≡ take n (xs ++ ys)
cut_again zero xs ys = refl
cut_again (suc n) [] ys = refl
cut_again (suc n) (x ∷ xs) ys = ap (λ t. x ∷ t) (cut_again n xs ys)

-- two parts put behind a text one after the other
pub cut_more :
    (n : ℕ) (text xs ys after : List ℕ) → after ≡ take n (text ++ xs) → take n (after ++ ys) ≡ take n (text ++ (xs ++ ys))
cut_more n text xs ys after e =
    ap (λ t. take n (t ++ ys)) e ∙ cut_again n (text ++ xs) ys ∙ ap (take n) (append_assoc text xs ys)

pub then :
    (text xs ys : List ℕ) {after final : List ℕ} → after ≡ take 128 (text ++ xs) → final ≡ take 128 (after ++ ys) →
    final ≡ take 128 (text ++ (xs ++ ys))
then text xs ys {after} so_far put = put ∙ cut_more 128 text xs ys after so_far

-- a loop that puts the bytes of a word behind a text
pub word_more :
    (text text' after bytes : List ℕ) (i : ℕ) → i < length bytes → text ≡ take 128 (text' ++ take i bytes) →
    after ≡ take 128 (text ++ (get_or bytes i 0 ∷ [])) → after ≡ take 128 (text' ++ take (i + 1) bytes)
word_more text text' after bytes i less so_far pushed =
    pushed ∙ cut_more 128 text' (take i bytes) (get_or bytes i 0 ∷ []) text so_far
    ∙ ap (λ t. take 128 (text' ++ t)) (sym (take_more bytes i 0 less))
