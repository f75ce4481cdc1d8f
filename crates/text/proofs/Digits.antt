-- How a word of digits is read, byte by byte.
-- Assumes nothing.
use Rattle.std.proofs.Common.{◌≡◌, ℕ, ◌+◌, ◌*◌, ◌^◌, ◌<◌, ◌≤◌, ◌||◌, eqb, List, [], ◌∷◌, length, IfSome, Some, None, Option, refl, pow-suc, add-one, arith, lit<}
use native.Mathlib.Nat.{pow-le-pow_right}
use Rattle.std.proofs.Math.Nat.{pow-le-pow_left}
use Rattle.std.specs.Int.{is_in_range}
use Rattle.std.proofs.lemmas.Nat.{mul-add-lt}
use Rattle.std.proofs.lemmas.Bool.{eq-eqb}
use Rattle.std.proofs.lemmas.Bool.Decides.{nat_tests}
use Rattle.text.specs.Kinds.{all_bits, pattern_said}
use Rattle.text.specs.Words.{all_digits, digits_from}

-- a number of i digits
pub grown : (radix n i d : ℕ) → n < radix ^ i → d < radix → radix * n + d < radix ^ (i + 1)
grown radix n i d small digit = rw (add-one i, pow-suc radix i) (omega (arith, mul-add-lt n radix d (radix ^ i) small digit))

pub below_eleven : (radix i : ℕ) → radix ≤ 10 → i ≤ 11 → radix ^ i ≤ 10 ^ 11
below_eleven radix i ten few =
    let wide = pow-le-pow_left ten i in
    let long : 10 ^ i ≤ 10 ^ 11 = pow-le-pow_right (lit< tt) few in
    omega arith

pub of_eleven :
    (o : Option ℕ) (k : ℕ) → k ≤ 11 → IfSome o (λ n. n < 10 ^ k) → IfSome o (λ n. n < 10 ^ 11)
of_eleven None k l h = tt
of_eleven (Some n) k l h = omega (arith, below_eleven 10 k (omega arith) l)

bit_test : (b : ℕ) → is_in_range 48 49 b ≡ (eqb b 48 || eqb b 49)
bit_test b = grind (arith, nat_tests)

bits_test : (word : List ℕ) → all_digits 2 word ≡ all_bits word
bits_test [] = refl
bits_test (c ∷ cs) = rw (bit_test c, bits_test cs) refl

pub pattern_by_bits : (word : List ℕ) → length word ≡ 7 → digits_from 2 0 word ≡ pattern_said word
pattern_by_bits word seven = rw (eq-eqb (length word) 7 seven, bits_test word) refl
