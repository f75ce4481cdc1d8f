-- Lines are read as good lines that spell them, and good lines are read from what they spell.
-- Assumes nothing: the laws of the kinds of fields are an argument.
use Rattle.std.proofs.Common.{◌≡◌, ℕ, ◌+◌, List, [], ◌∷◌, ◌++◌, Ok, refl, ap, ◌∙◌, subst, ap₂}
use Rattle.text.specs.declared.line.Line.{Line}
use Rattle.text.specs.declared.standing.Standing.{Standing}
use Rattle.text.specs.Cuts.{line_end, cut_lines}
use Rattle.text.specs.KindLaws.{KindLaw}
use Rattle.text.specs.Kinds.{Kind}
use Rattle.text.specs.Laws.{GoodLines}
use Rattle.text.specs.Lines.{mark_from, line_of}
use Rattle.text.specs.Marks.{next}
use Rattle.text.specs.Meaning.{read_lines}
use Rattle.text.specs.Spelled.{written}
use Rattle.text.proofs.Chosen.{same_from_ok}
use Rattle.text.proofs.FieldSteps.{then_ok}
use Rattle.text.proofs.LineCuts.{joined_lines, AllWithout, cut_joined}
use Rattle.text.proofs.LineLaws.{line_bytes, spelled_then, line_read, line_stands, line_without_line_end}

-- lines as they are spelled, without the byte 10 that ends each
abbrev pub bytes_each : List Line → List (List ℕ)
bytes_each [] = []
bytes_each (l ∷ ls) = line_bytes l ∷ bytes_each ls

pub written_joins : (ls : List Line) → written ls ≡ joined_lines (bytes_each ls) []
written_joins [] = refl
written_joins (l ∷ ls) =
    spelled_then l (written ls) ∙ ap (λ rest. line_bytes l ++ line_end ∷ rest) (written_joins ls)

module _ (laws : (kind : Kind) → KindLaw kind) where
  pub lines_read :
      (lines : List (List ℕ)) (standing : Standing) (n : ℕ) (left : List ℕ) (ls : List Line) →
      read_lines standing n lines left ≡ Ok ls → GoodLines standing n ls × (written ls ≡ joined_lines lines left)
  unfolding read_lines
  lines_read [] standing n [] ls e =
      subst (λ all. GoodLines standing n all × (written all ≡ [])) (same_from_ok e) (tt, refl)
  lines_read [] standing n (b ∷ bs) ls e = cc
  lines_read (bytes ∷ later) standing n left ls e =
      let first = then_ok (line_of standing n bytes) _ ls e in
      let l = first.0 in
      let others = then_ok (read_lines (next standing (mark_from l)) (n + 1) later left) _ ls first.2 in
      let is = line_read laws standing n bytes l first.1 in
      let are = lines_read later (next standing (mark_from l)) (n + 1) left others.0 others.1 in
      subst (λ all. GoodLines standing n all × (written all ≡ bytes ++ line_end ∷ joined_lines later left))
      (same_from_ok others.2) (
        (is.well_formed, is.may_stand, are.0),
        spelled_then l (written others.0)
            ∙ ap₂ (λ (line rest : List ℕ). line ++ line_end ∷ rest) is.spells are.1,
      )

  pub lines_stand :
      (ls : List Line) (standing : Standing) (n : ℕ) → GoodLines standing n ls →
      read_lines standing n (bytes_each ls) [] ≡ Ok ls
  unfolding read_lines
  lines_stand [] standing n good = refl
  lines_stand (l ∷ ls) standing n good =
      let first = line_stands laws standing n l good.0 good.1 in
      let others = lines_stand ls (next standing (mark_from l)) (n + 1) good.2 in
      rw (first, others) refl

  lines_without_line_end :
      (ls : List Line) (standing : Standing) (n : ℕ) → GoodLines standing n ls → AllWithout (bytes_each ls)
  lines_without_line_end [] standing n good = tt
  lines_without_line_end (l ∷ ls) standing n good =
      (line_without_line_end laws n l good.0, lines_without_line_end ls (next standing (mark_from l)) (n + 1) good.2)

  pub cut_written :
      (ls : List Line) (standing : Standing) (n : ℕ) → GoodLines standing n ls →
      cut_lines (written ls) ≡ record { whole = bytes_each ls; left = [] }
  cut_written ls standing n good =
      ap cut_lines (written_joins ls) ∙ cut_joined (bytes_each ls) (lines_without_line_end ls standing n good)
