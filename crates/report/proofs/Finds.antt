-- What is found in lines, gathered into a table one by one.
-- Assumes nothing.
use Rattle.std.proofs.Common.{◌≡◌, ℕ, ◌+◌, ◌<◌, ◌≤◌, List, [], ◌∷◌, ◌++◌, length, get_or, set, take, drop, Some, None, Option, sym, ap, ◌∙◌, append_assoc, arith}
use Rattle.std.proofs.lemmas.List.{append-nil, length-append, length-take-le, at_drop_more, at_drop_all, take_more_set}
use Rattle.text.specs.declared.line.Line.{Line}
use Rattle.text.specs.declared.line.Line.TheVariants.{Posting}
use Rattle.report.specs.Parts.{Part, part, put_first, gathered}

module _ {X : Type 0} (find : Part → Option X) (lines : List Line) where
  -- the first n places of a table hold what was found before line i
  pub record Copied (table : List X) (n i : ℕ) : Type 0 where
    pub within : n ≤ length table
    pub so_far : take n table ++ gathered find (drop i lines) ≡ gathered find lines

  found_here :
      (i : ℕ) (o : Option X) → i < length lines → find (part (get_or lines i Posting)) ≡ o →
      gathered find (drop i lines) ≡ put_first o (gathered find (drop (i + 1) lines))
  found_here i o inside is =
      at_drop_more (gathered find) lines i Posting inside ∙ ap (λ p. put_first p (gathered find (drop (i + 1) lines))) is

  pub copied_room :
      (table : List X) (n i : ℕ) (x : X) → Copied table n i → i < length lines → length (gathered find lines) ≤ length table →
      find (part (get_or lines i Posting)) ≡ Some x → n < length table
  copied_room table n i x copied inside fits is =
      let here = ap length (found_here i (Some x) inside is) in
      let all = sym (length-append (take n table) (gathered find (drop i lines))) ∙ ap length copied.so_far in
      omega (arith, all, here, length-take-le n table copied.within)

  pub copied_more :
      (table : List X) (n i : ℕ) (x : X) (after : List X) → Copied table n i → i < length lines → n < length table →
      find (part (get_or lines i Posting)) ≡ Some x → after ≡ set table n x → length after ≡ length table → Copied after (n + 1) (i + 1)
  copied_more table n i x after copied inside room is set_there long =
      let later = gathered find (drop (i + 1) lines) in
      record {
        within = omega arith;
        so_far =
            ap (λ t. take (n + 1) t ++ later) set_there
            ∙ (ap (λ t. t ++ later) (take_more_set table n x room)
            ∙ (append_assoc (take n table) (x ∷ []) later
            ∙ (ap (λ t. take n table ++ t) (sym (found_here i (Some x) inside is)) ∙ copied.so_far)));
      }

  pub copied_past :
      (table : List X) (n i : ℕ) → Copied table n i → i < length lines → find (part (get_or lines i Posting)) ≡ None →
      Copied table n (i + 1)
  copied_past table n i copied inside none =
      record {
        within = copied.within;
        so_far = ap (λ t. take n table ++ t) (sym (found_here i None inside none)) ∙ copied.so_far;
      }

  pub copied_all : (table : List X) (n i : ℕ) → Copied table n i → length lines ≤ i → take n table ≡ gathered find lines
  copied_all table n i copied past =
      sym (append-nil (take n table))
      ∙ (ap (λ t. take n table ++ t) (sym (at_drop_all (gathered find) lines i past)) ∙ copied.so_far)
