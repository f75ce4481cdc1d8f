-- Numbers are read as they are spelled.
-- Assumes nothing.
use Rattle.std.proofs.Common.{◌≡◌, ℕ, ◌^◌, ◌<◌, ◌≤◌, true, not, ◌&&◌, ◌||◌, eqb, leb, List, length, get_or, Some, None, decimal, sym, refl, ap, ◌∙◌, inl, inr, arith}
use Rattle.std.specs.Str.{all_ascii_digits}
use Rattle.std.proofs.lemmas.Fmt.{decimal-digits_value, decimal_digit, decimal_nonempty, digits_decimal, digits_value-decimal, length-decimal-le, first_decimal}
use Rattle.std.proofs.lemmas.Str.Parse.{digits_value_short}
use Rattle.std.proofs.lemmas.Bool.{and_parts, and_from, or_cases, or_left, or_right, not-true, not_from_false, leb-true, le-leb, eqb-true, eqb-false, eq-eqb, ne_eqb, cases_eq, cond-true}
use Rattle.text.specs.Kinds.{number, read_on, is_number, number_said}
use Rattle.text.specs.KindLaws.{KindLaw}
use Rattle.text.proofs.Chosen.{same_from_ok, some_from_only}
use Rattle.text.proofs.DigitTexts.{own, digits_above}
use Rattle.text.proofs.Unbroken.{Above, unbroken_from_above}

-- the test of a number, in its parts
pub record NumberWord (word : List ℕ) : Type 0 where
  pub some : 1 ≤ length word
  pub few : length word ≤ 11
  pub digits : all_ascii_digits word ≡ true
  pub zero_alone : get_or word 0 0 ≡ 48 → length word ≡ 1

number_word_from_test : (word : List ℕ) → is_number word ≡ true → NumberWord word
number_word_from_test word test =
    let sizes = leb 1 (length word) && leb (length word) 11 in
    let short = eqb (length word) 1 in
    let no_zero = not (eqb (get_or word 0 0) 48) in
    let halves = and_parts sizes (all_ascii_digits word && (short || no_zero)) test in
    let size = and_parts (leb 1 (length word)) (leb (length word) 11) halves.0 in
    let rest = and_parts (all_ascii_digits word) (short || no_zero) halves.1 in
    record {
      some = leb-true 1 (length word) size.0;
      few = leb-true (length word) 11 size.1;
      digits = rest.0;
      zero_alone = λ zero. elim (or_cases short no_zero rest.1) [
        | inl e ↦ eqb-true (length word) 1 e
        | inr e ↦ absurd (eqb-false (get_or word 0 0) 48 (not-true (eqb (get_or word 0 0) 48) e) zero)
      ];
    }

test_from_number_word : (word : List ℕ) → NumberWord word → is_number word ≡ true
test_from_number_word word w =
    let sizes = leb 1 (length word) && leb (length word) 11 in
    let short = eqb (length word) 1 in
    let no_zero = not (eqb (get_or word 0 0) 48) in
    let lead : (short || no_zero) ≡ true =
    elim (cases_eq (get_or word 0 0) 48) [
      | inl zero ↦ or_left short no_zero (eq-eqb (length word) 1 (w.zero_alone zero))
      | inr other ↦ or_right short no_zero (not_from_false (eqb (get_or word 0 0) 48) (ne_eqb (get_or word 0 0) 48 other))
    ]
    in
    and_from sizes (all_ascii_digits word && (short || no_zero))
    (and_from (leb 1 (length word)) (leb (length word) 11) (le-leb 1 (length word) w.some) (le-leb (length word) 11 w.few))
    (and_from (all_ascii_digits word) (short || no_zero) w.digits lead)

-- a number of at most 11 digits is spelled by such a word
zero_alone_in_decimal : (n : ℕ) → n < 10 ^ 11 → get_or (decimal n) 0 0 ≡ 48 → length (decimal n) ≡ 1
zero_alone_in_decimal n small zero =
    elim (cases_eq n 0) [
      | inl none ↦ ap length (decimal_digit n (omega arith))
      | inr some ↦ absurd (let first = first_decimal n (omega arith) (omega arith) in omega arith)
    ]

decimal_is_number : (n : ℕ) → n < 10 ^ 11 → NumberWord (decimal n)
decimal_is_number n small =
    let below : n < 2 ^ 64 = omega arith in
    record {
      some = decimal_nonempty n below;
      few = length-decimal-le 11 n (omega arith) small below;
      digits = digits_decimal own n below;
      zero_alone = zero_alone_in_decimal n small;
    }

-- what a number's word says, and the word of what it says
pub number_read : (word : List ℕ) (n : ℕ) → number_said word ≡ Some n → (decimal n ≡ word) × (n < 10 ^ 11)
number_read word n e =
    let chosen = some_from_only (is_number word) (read_on 0 word) e in
    let w = number_word_from_test word chosen.0 in
    let small : read_on 0 word < 10 ^ 11 = digits_value_short own word 11 w.digits w.few in
    let same : decimal (read_on 0 word) ≡ word =
    decimal-digits_value own word w.digits w.some w.zero_alone (omega arith) in
    (ap decimal (sym chosen.1) ∙ same, rw (← chosen.1) small)

pub number_said_again : (n : ℕ) → n < 10 ^ 11 → number_said (decimal n) ≡ Some n
number_said_again n small =
    cond-true (is_number (decimal n)) (Some (read_on 0 (decimal n))) None
    (test_from_number_word (decimal n) (decimal_is_number n small))
    ∙ ap Some (digits_value-decimal own n (omega arith))

pub decimal_above : (n : ℕ) → n < 10 ^ 11 → Above (decimal n)
decimal_above n small = digits_above (decimal n) (digits_decimal own n (omega arith))

pub number_law : KindLaw number
number_law =
    record {
      read_as_spelled = λ word s v e f.
          let same = same_from_ok f in
          number_read word v (e ∙ ap Some same);
      spelled_and_read = λ n small. (n, number_said_again n small, refl);
      unbroken = λ n small. unbroken_from_above (decimal n) (decimal_above n small);
    }
