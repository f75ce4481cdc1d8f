-- Day counts as a register asks them.
-- Assumes nothing.
use Rattle.std.proofs.Common.{◌≡◌, ℕ, ◌+◌, ◌≤◌, ◌&&◌, leb, refl, ◌∙◌, arith}
use Rattle.std.proofs.lemmas.Bool.{cond_both, and_parts, leb-true, le-leb}
use Rattle.days.specs.Calendar.{last_day}
use Rattle.counts.specs.Counting.{asked, Lawful}

module _ (count : ℕ → ℕ → ℕ) (per : ℕ) (lawful : Lawful count per) where
  -- days in order within the range are answered with their count
  pub asked_is : (a b : ℕ) → a ≤ b → b ≤ last_day → asked count a b ≡ count a b
  asked_is a b h range =
      let order = le-leb a b h in
      let inside = le-leb b last_day range in
      rw (order, inside) refl

  pub asked_short : (a b : ℕ) → b ≤ a + 800 → asked count a b ≤ 1098
  asked_short a b near =
      cond_both (leb a b && leb b last_day) (count a b) 0 (λ n. n ≤ 1098)
      (λ t.
      let p = and_parts (leb a b) (leb b last_day) t in
      let order = leb-true a b p.0 in
      omega (arith, lawful.short a b order (leb-true b last_day p.1) (omega arith), lawful.few))
      (λ f. omega arith)

  pub asked_same : (a : ℕ) → a ≤ last_day → asked count a a ≡ 0
  asked_same a h = asked_is a a (omega arith) h ∙ lawful.none a h

  pub asked_rises : (a b c : ℕ) → a ≤ b → b ≤ c → c ≤ last_day → asked count a b ≤ asked count a c
  asked_rises a b c h k range =
      let first = asked_is a b h (omega arith) in
      let second = asked_is a c (omega arith) range in
      rw (first, second) (lawful.rises a b c h k range)
