-- Numbers, digit by digit.
-- Assumes nothing.
use Rattle.std.proofs.Common.{◌≡◌, ℕ, ◌+◌, ◌/◌, ◌%◌, ◌^◌, ◌<◌, ◌≤◌, List, [], ◌∷◌, ◌++◌, length, take, decimal, sym, ap, ◌∙◌, arith}
use Rattle.std.proofs.lemmas.Fmt.{decimal_step, length-decimal-le}
use Rattle.writing.proofs.Cuts.{cut_more}

pub decimal_short : (n : ℕ) → n < 2 ^ 64 → length (decimal n) ≤ 20
decimal_short n fits = length-decimal-le 20 n (omega arith) (omega arith) fits

-- the last digit behind the digits of the tenth
pub number_last :
    (n : ℕ) (text front : List ℕ) → 10 ≤ n → n < 2 ^ 64 → front ≡ take 128 (text ++ decimal (n / 10)) →
    take 128 (front ++ ((48 + n % 10) ∷ [])) ≡ take 128 (text ++ decimal n)
number_last n text front large fits is =
    cut_more 128 text (decimal (n / 10)) ((48 + n % 10) ∷ []) front is
    ∙ ap (λ t. take 128 (text ++ t)) (sym (decimal_step n large fits))
