-- Patterns are read as they are spelled: seven bits, Monday first.
-- Assumes nothing.
use Rattle.std.proofs.Common.{◌≡◌, ℕ, zero, suc, ◌+◌, ◌-◌, ◌*◌, ◌/◌, ◌%◌, ◌^◌, ◌<◌, ◌≤◌, ◌&&◌, ◌||◌, eqb, leb, List, [], ◌∷◌, length, Some, None, Ok, Err, Decides, sym, refl, ap, ◌∙◌, subst, inl, inr, ⊎_elim, arith}
use lib.Count.{ones}
use Rattle.std.specs.Int.{IsInRange}
use Rattle.std.specs.List.{AllByRecursion as All}
use Rattle.std.proofs.ByRecursion.{All-weaker, Decides-by_and}
use Rattle.std.proofs.lemmas.Nat.{div-mul-add, shr-shr}
use Rattle.std.proofs.lemmas.Bool.{and_parts, eqb-true, leb-true, le-leb, cond-true, cases_eq}
use Rattle.std.proofs.lemmas.Bool.Decides.{Decides-eqb, Decides-or, Decides-like}
use Rattle.days.specs.declared.refusal.Refusal.TheVariants.{ClosesWholeWeek}
use Rattle.text.specs.Kinds.{pattern, all_bits, bits_on, pattern_said}
use Rattle.text.specs.KindLaws.{KindLaw}
use Rattle.text.specs.Spelled.{bit, spelled_pattern}
use Rattle.text.proofs.Chosen.{some_from_only, ok_from_only}
use Rattle.text.proofs.Places.{places_are}
use Rattle.text.proofs.Unbroken.{Above, unbroken_from_above}

-- 0 and 1 by their codes
bit_decides : (c : ℕ) → Decides (eqb c 48 || eqb c 49) (IsInRange 48 49 c)
bit_decides c =
    Decides-like (eqb c 48 || eqb c 49)
    (λ either. ⊎_elim (λ off. (omega arith, omega arith)) (λ on. (omega arith, omega arith)) either)
    (λ range. elim (cases_eq c 48) [ inl off ↦ inl off | inr other ↦ inr (omega arith) ])
    (Decides-or (eqb c 48) (eqb c 49) (Decides-eqb c 48) (Decides-eqb c 49))

abbrev Bits : List ℕ → Type 0
Bits word = All (λ c. IsInRange 48 49 c) word

bits_decide : (word : List ℕ) → Decides (all_bits word) (Bits word)
bits_decide word =
    Decides-by_and (λ c. eqb c 48 || eqb c 49) (λ c. IsInRange 48 49 c) all_bits bit_decides refl (λ _ _. refl) word

-- the bit of a weight, of a number with q above that bit and r below it
bit_at :
    (n weight q r byte : ℕ) → IsInRange 48 49 byte → n ≡ (2 * q + (byte - 48)) * weight + r → r < weight → bit n weight ≡ byte
bit_at n weight q r byte range parts below =
    let quotient : n / weight ≡ 2 * q + (byte - 48) =
    ap (λ (m : ℕ). m / weight) parts ∙ div-mul-add (2 * q + (byte - 48)) weight r below in
    ap (λ (m : ℕ). 48 + m % 2) quotient ∙ omega arith

-- what seven bits say, in whichever word
record Read (word : List ℕ) : Type 0 where
  spells : spelled_pattern (bits_on 0 word) ≡ word
  small : bits_on 0 word < 128

seven_read :
    (a b c d e f g : ℕ) → Bits (a ∷ b ∷ c ∷ d ∷ e ∷ f ∷ g ∷ []) →
    Read (a ∷ b ∷ c ∷ d ∷ e ∷ f ∷ g ∷ [])
seven_read a b c d e f g (ha, (hb, (hc, (hd, (he, (hf, (hg, end))))))) =
    let n = bits_on 0 (a ∷ b ∷ c ∷ d ∷ e ∷ f ∷ g ∷ []) in
    let one = bits_on 0 (a ∷ []) in
    let two = bits_on 0 (a ∷ b ∷ []) in
    let three = bits_on 0 (a ∷ b ∷ c ∷ []) in
    let four = bits_on 0 (a ∷ b ∷ c ∷ d ∷ []) in
    let five = bits_on 0 (a ∷ b ∷ c ∷ d ∷ e ∷ []) in
    let six = bits_on 0 (a ∷ b ∷ c ∷ d ∷ e ∷ f ∷ []) in
    let monday : bit n 64 ≡ a = bit_at n 64 0 (n - one * 64) a ha (omega arith) (omega arith) in
    let tuesday : bit n 32 ≡ b = bit_at n 32 one (n - two * 32) b hb (omega arith) (omega arith) in
    let wednesday : bit n 16 ≡ c = bit_at n 16 two (n - three * 16) c hc (omega arith) (omega arith) in
    let thursday : bit n 8 ≡ d = bit_at n 8 three (n - four * 8) d hd (omega arith) (omega arith) in
    let friday : bit n 4 ≡ e = bit_at n 4 four (n - five * 4) e he (omega arith) (omega arith) in
    let saturday : bit n 2 ≡ f = bit_at n 2 five (n - six * 2) f hf (omega arith) (omega arith) in
    let sunday : bit n 1 ≡ g = bit_at n 1 six 0 g hg (omega arith) (omega arith) in
    record { spells = cc; small = omega arith }

-- what a pattern's word says, and the word of what it says
pattern_read :
    (word : List ℕ) (mask : ℕ) → pattern_said word ≡ Some mask → (spelled_pattern mask ≡ word) × (mask < 128)
pattern_read word mask e =
    let chosen = some_from_only (eqb (length word) 7 && all_bits word) (bits_on 0 word) e in
    let tests = and_parts (eqb (length word) 7) (all_bits word) chosen.0 in
    let same = places_are 7 word (eqb-true (length word) 7 tests.0) in
    let bits : Bits word = (bits_decide word).0 tests.1 in
    let read : Read word =
    subst (λ (w : List ℕ). Bits w → Read w) same (seven_read _ _ _ _ _ _ _) bits in
    (ap spelled_pattern (sym chosen.1) ∙ read.spells, rw (← chosen.1) read.small)

spelled_bits : (mask : ℕ) → Bits (spelled_pattern mask)
spelled_bits mask =
    let byte : (weight : ℕ) → IsInRange 48 49 (bit mask weight) = λ weight. (omega arith, omega arith) in
    (byte 64, (byte 32, (byte 16, (byte 8, (byte 4, (byte 2, (byte 1, tt)))))))

-- the lowest bits of a number; seven of them are the spelling of a pattern
abbrev low_bits : ℕ → ℕ → List ℕ
low_bits n zero = []
low_bits n (suc k) = bit n (2 ^ k) ∷ low_bits n k

low_bits_value : (n k : ℕ) → bits_on (n / 2 ^ k) (low_bits n k) ≡ n
low_bits_value n zero = omega arith
low_bits_value n (suc k) =
    let half : n / 2 ^ k / 2 ≡ n / 2 ^ suc k = shr-shr n k 1 ∙ ap (λ (j : ℕ). n / 2 ^ j) (omega arith) in
    ap (λ (m : ℕ). bits_on m (low_bits n k)) (omega arith) ∙ low_bits_value n k

pattern_value : (mask : ℕ) → mask < 128 → bits_on 0 (spelled_pattern mask) ≡ mask
pattern_value mask small =
    let none : 0 ≡ mask / 128 = omega arith in
    ap (λ (m : ℕ). bits_on m (spelled_pattern mask)) none ∙ low_bits_value mask 7

pattern_said_again : (mask : ℕ) → mask < 128 → pattern_said (spelled_pattern mask) ≡ Some mask
pattern_said_again mask small =
    cond-true (all_bits (spelled_pattern mask)) (Some (bits_on 0 (spelled_pattern mask))) None
    ((bits_decide (spelled_pattern mask)).1 (spelled_bits mask))
    ∙ ap Some (pattern_value mask small)

pattern_above : (mask : ℕ) → Above (spelled_pattern mask)
pattern_above mask =
    All-weaker (λ c. IsInRange 48 49 c) (λ c. 32 < c) (λ c range. omega (arith, range.0)) (spelled_pattern mask)
    (spelled_bits mask)

pub pattern_law : KindLaw pattern
pattern_law =
    record {
      read_as_spelled = λ word s v e f.
          let chosen = ok_from_only (leb (ones s) 6) s ClosesWholeWeek f in
          let read = pattern_read word v (e ∙ ap Some chosen.1) in
          (read.0, (read.1, subst (λ (m : ℕ). ones m ≤ 6) chosen.1 (leb-true (ones s) 6 chosen.0)));
      spelled_and_read = λ mask h. (
        mask,
        pattern_said_again mask h.0,
        cond-true (leb (ones mask) 6) (Ok mask) (Err ClosesWholeWeek) (le-leb (ones mask) 6 h.1),
      );
      unbroken = λ mask h. unbroken_from_above (spelled_pattern mask) (pattern_above mask);
    }
