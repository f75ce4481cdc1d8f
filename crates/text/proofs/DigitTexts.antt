-- Texts of digits, in the words of the fields.
-- Assumes nothing.
use Rattle.std.proofs.Common.{◌≡◌, ℕ, true, List, [], ◌∷◌, refl, ap, arith}
use Rattle.std.specs.Str.{all_ascii_digits}
use Rattle.std.specs.Int.{IsInRange}
use Rattle.std.proofs.lemmas.Str.Parse.{FoldsDigits, IsNumeralModel, numerals_by_fold, tells_all_ascii_digits}
use Rattle.text.specs.Kinds.{read_on}
use Rattle.text.proofs.Unbroken.{Above}

read_on_folds : FoldsDigits read_on
read_on_folds =
    record {
      empty = λ n. refl;
      more = λ n c cs digit. ap (λ (m : ℕ). read_on m cs) (omega arith);
    }

-- `allDigits` tells texts of digits, and `read_on 0` is the number that such a text writes
pub own : IsNumeralModel (λ ds. all_ascii_digits ds ≡ true) (read_on 0)
own = numerals_by_fold (λ ds. all_ascii_digits ds ≡ true) tells_all_ascii_digits read_on read_on_folds

-- the first byte and the others
pub digit_and_digits : (c : ℕ) (cs : List ℕ) → all_ascii_digits (c ∷ cs) ≡ true → IsInRange 48 57 c × (all_ascii_digits cs ≡ true)
digit_and_digits c cs digits = tells_all_ascii_digits.parts c cs digits

pub digits_above : (ds : List ℕ) → all_ascii_digits ds ≡ true → Above ds
digits_above [] digits = tt
digits_above (c ∷ cs) digits =
    let parts = digit_and_digits c cs digits in
    (omega (arith, parts.0), digits_above cs parts.1)
