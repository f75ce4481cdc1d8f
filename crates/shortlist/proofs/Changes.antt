-- Items laid over blanks, and one more item, leave blanks behind them.
-- Assumes nothing.
use Rattle.std.proofs.Common.{◌≡◌, ℕ, zero, suc, refl, [], ◌∷◌, ◌+◌, ◌-◌, ◌<◌, ◌≤◌, ◌++◌, List, length, drop, replicate, set, ap, ◌∙◌, arith, length-append, length-set}
use Rattle.std.proofs.lemmas.List.{drop-set-lt, drop-replicate, length-replicate}
use Rattle.std.proofs.Math.Seq.{drop-append_seam}
use Rattle.shortlist.specs.Filling.{Filled}

pub laid_over :
    {X : Type 0} (n : ℕ) (blank b : X) (items front : List X) → b ≡ blank → front ≡ items → length items ≤ n →
    Filled n blank (front ++ drop (length items) (replicate n b)) (length items)
laid_over n blank b items front is same few =
    let behind = drop-replicate (length items) n blank in
    rw (is, same, behind) (
    record {
      room = omega (arith, length-append items (replicate (n - length items) blank), length-replicate (n - length items) blank);
      few = few;
      blanks = drop-append_seam items (replicate (n - length items) blank);
    }
    )

drop_more : {X : Type 0} (n : ℕ) (xs : List X) → drop (suc n) xs ≡ drop 1 (drop n xs)
drop_more zero xs = refl
drop_more (suc n) [] = refl
drop_more (suc n) (x ∷ xs) = drop_more n xs

pub one_more :
    {X : Type 0} (n : ℕ) (blank : X) (places : List X) (len : ℕ) (item : X) → Filled n blank places len → len < n →
    Filled n blank (set places len item) (len + 1)
one_more n blank places len item h less =
    record {
      room = length-set places len item ∙ h.room;
      few = omega arith;
      blanks =
          drop-set-lt (len + 1) places len item (omega arith) ∙ ap (λ k. drop k places) (let e : len + 1 ≡ suc len = omega arith in e) ∙ drop_more len places ∙ ap (drop 1) h.blanks
          ∙ drop-replicate 1 (n - len) blank ∙ ap (λ k. replicate k blank) (omega arith);
    }
