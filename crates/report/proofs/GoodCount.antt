-- A text has no more lines than bytes, since a line ends in a byte of its own.
-- Assumes nothing.
use Rattle.std.proofs.Common.{◌≡◌, ℕ, ◌≤◌, List, [], ◌∷◌, length, ap, arith, length-append}
use Rattle.text.specs.declared.line.Line.{Line}
use Rattle.text.specs.Spelled.{spelled_line, written}

line_has_bytes : (l : Line) → 1 ≤ length (spelled_line l)
line_has_bytes l = simp length-append (omega arith)

fewer_lines : (lines : List Line) → length lines ≤ length (written lines)
fewer_lines [] = omega arith
fewer_lines (l ∷ ls) = omega (arith, length-append (spelled_line l) (written ls), line_has_bytes l, fewer_lines ls)

pub good_count : (lines : List Line) (text : List ℕ) → written lines ≡ text → length lines ≤ length text
good_count lines text spells = omega (arith, fewer_lines lines, ap length spells)
