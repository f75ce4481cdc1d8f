-- The lines of one sort among the lines of a text.
-- Assumes nothing.
use Rattle.std.proofs.Common.{ℕ, ◌+◌, Bool, cond, eqb, List, [], ◌∷◌}
use Rattle.text.specs.declared.line.Line.{Line}
use Rattle.text.specs.declared.standing.Standing.{Standing}
use Rattle.text.specs.Laws.{GoodLines, WellFormed}
use Rattle.text.specs.Lines.{mark_from}
use Rattle.text.specs.Marks.{Role, a_pattern, a_closed_day, an_offset, a_deal, a_holding, a_call, role, start, next}

-- a number for each sort, by which two are told apart
abbrev code : Role → ℕ
code a_pattern = 0
code a_closed_day = 1
code an_offset = 2
code a_deal = 3
code a_holding = 4
code a_call = 5

abbrev pub is_role : Role → Role → Bool
is_role r s = eqb (code r) (code s)

-- the lines of one sort
abbrev pub lines_of : Role → List Line → ℕ
lines_of r [] = 0
lines_of r (l ∷ ls) = cond (is_role r (role (mark_from l))) 1 0 + lines_of r ls

-- the lines of one sort that come first
abbrev pub lines_leading : Role → List Line → ℕ
lines_leading r [] = 0
lines_leading r (l ∷ ls) = cond (is_role r (role (mark_from l))) (1 + lines_leading r ls) 0

-- each line is well formed, wherever it stands
abbrev pub EachFormed : ℕ → List Line → Type 0
EachFormed n [] = Unit {0}
EachFormed n (l ∷ ls) = WellFormed n l × EachFormed (n + 1) ls

formed_from : (lines : List Line) (standing : Standing) (n : ℕ) → GoodLines standing n lines → EachFormed n lines
formed_from [] standing n good = tt
formed_from (l ∷ ls) standing n (formed, stands, later) =
    (formed, formed_from ls (next standing (mark_from l)) (n + 1) later)

pub each_formed : (lines : List Line) → GoodLines start 1 lines → EachFormed 1 lines
each_formed lines good = formed_from lines start 1 good
