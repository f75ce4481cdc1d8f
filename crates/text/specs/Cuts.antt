-- A text cut into lines at byte 10, and a line into words at single spaces.
-- Assumes nothing.
use Rattle.std.specs.Prelude.{◌≡◌, ℕ, ◌+◌, cond, List, [], ◌∷◌, ◌++◌, length, Some, None, Option, ◌==◌}
use Rattle.std.specs.Borrow.{Bor}

abbrev pub line_end : ℕ
line_end = 10

abbrev pub space : ℕ
space = 32

-- no byte of the list is b
abbrev pub Without : ℕ → List ℕ → Type 0
Without b [] = Unit {0}
Without b (c ∷ cs) = (c ≡ b → ⊥) × Without b cs

-- a list, and what stands in it before the first b and behind it
pub record Splits (b : ℕ) (whole front back : List ℕ) : Type 0 where
  pub joins : whole ≡ front ++ b ∷ back
  pub clean : Without b front

-- the lines that byte 10 ends, without it, and what is left behind the last of them
pub record Cut : Type 0 where
  pub whole : List (List ℕ)
  pub left : List ℕ

abbrev pub with_byte : ℕ → Cut → List (List ℕ) → Cut
with_byte b cut [] = record { whole = []; left = b ∷ cut.left }
with_byte b cut (line ∷ lines) = record { whole = (b ∷ line) ∷ lines; left = cut.left }

unfoldable pub cut_lines : List ℕ → Cut
cut_lines [] = record { whole = []; left = [] }
cut_lines (b ∷ bs) =
    let rest : Cut = cut_lines bs in
    let ended : Cut = record { whole = [] ∷ rest.whole; left = rest.left } in
    cond (b == line_end) ended (with_byte b rest rest.whole)

-- a word, and the column of its first byte; an empty word stands where it would begin
pub record Word : Type 0 where
  pub column : ℕ
  pub bytes : List ℕ

abbrev pub longer : ℕ → ℕ → List Word → List Word
longer column b [] = []
longer column b (word ∷ words) = record { column = column; bytes = b ∷ word.bytes } ∷ words

-- the words of a line from a column on; there is always a first
unfoldable pub words : ℕ → List ℕ → List Word
words column [] = record { column = column; bytes = [] } ∷ []
words column (b ∷ bs) =
    let later = words (column + 1) bs in
    cond (b == space) (record { column = column; bytes = [] } ∷ later) (longer column b later)

-- where a line ends whose rest begins at a column; where nothing is left it has ended
abbrev pub end_from : ℕ → Option (Bor (List ℕ)) → ℕ
end_from column None = column
end_from column (Some rest) = column + length rest.now
