-- Equal masks are equal patterns, and equal offsets are equal rules: nothing else tells two of them apart.
-- Assumes nothing.
use Rattle.std.proofs.Common.{◌≡◌, ◌<◌, ◌≤◌, pos, length, take, sym, ap, ◌∙◌, count_ones}
use mathlib.Core.HLevel.{is_prop→PathP}
use mathlib.Core.List.{is_set as List-set}
use native.Mathlib.Nat.{ℕ_set}
use Rattle.std.specs.Coded.{le_prop}
use lib.IntN.{ℤ_set}
use Rattle.shortlist.specs.Filling.{Filled, filled, used, gives_back}
use Rattle.calendar.specs.declared.movable.EasterRule.{EasterRule}
use Rattle.calendar.specs.declared.pattern.WeekdayPattern.{WeekdayPattern}

pub same_pattern : (a b : WeekdayPattern) → a.mask ≡ b.mask → a ≡ b
same_pattern a b same =
    λ i.
    record {
      mask = same i;
      seven = is_prop→PathP (λ j. same j < 128) (λ j. le_prop) a.seven b.seven i;
      some_open = is_prop→PathP (λ j. count_ones (same j) ≤ 6) (λ j. le_prop) a.some_open b.some_open i;
    }

pub same_rule : (a b : EasterRule) → take a.count a.offsets ≡ take b.count b.offsets → a ≡ b
same_rule a b same =
    let count : a.count ≡ b.count =
    sym (used 8 (pos 0) a.offsets a.count a.filled) ∙ (ap length same ∙ used 8 (pos 0) b.offsets b.count b.filled)
    in
    let offsets : a.offsets ≡ b.offsets =
    sym (gives_back 8 (pos 0) a.offsets a.count a.filled)
    ∙ (ap (filled 8 (pos 0)) same ∙ gives_back 8 (pos 0) b.offsets b.count b.filled)
    in
    λ i.
    record {
      offsets = offsets i;
      count = count i;
      filled = is_prop→PathP (λ j. Filled 8 (pos 0) (offsets j) (count j)) (λ j. hlevel (le_prop, ℕ_set, ℤ_set, List-set)) a.filled b.filled i;
    }
