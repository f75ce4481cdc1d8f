-- The lines that are printed. A line ends in byte 10.
-- Assumes nothing.
use Rattle.std.specs.Prelude.{ℕ, ◌+◌, List, [], ◌∷◌, ◌++◌, Ok, Err, decimal, Result}
use Rattle.days.specs.Refusals.{Told, told}
use Rattle.days.specs.Texts.{letter}
use Rattle.register.specs.declared.row.Row.{Row}
use Rattle.text.specs.declared.fault.Fault.{Fault}
use Rattle.writing.specs.Spelling.{spelled_date}

abbrev pub space : ℕ
space = 32

-- a number behind a space
abbrev pub field : ℕ → List ℕ
field n = space ∷ decimal n

abbrev pub ended : List ℕ
ended = 10 ∷ []

-- SC index date
abbrev pub sc_line : ℕ → ℕ → List ℕ
sc_line index day = 83 ∷ 67 ∷ (field index ++ (space ∷ (spelled_date day ++ ended)))

abbrev pub sc_lines : ℕ → List ℕ → List (List ℕ)
sc_lines index [] = []
sc_lines index (day ∷ days) = sc_line index day ∷ sc_lines (index + 1) days

-- OK answer
abbrev pub ok_line : ℕ → List ℕ
ok_line answer = 79 ∷ 75 ∷ (field answer ++ ended)

-- NO number layer place line
abbrev pub no_fields : ℕ → ℕ → ℕ → ℕ → List ℕ
no_fields number layer place line =
    78 ∷ 79 ∷ (field number ++ (space ∷ layer ∷ (field place ++ (field line ++ ended))))

abbrev pub no_line : Told → ℕ → List ℕ
no_line why line = no_fields why.number (letter why.layer) why.place line

abbrev pub answer_line : Result ℕ Told → ℕ → List ℕ
answer_line (Ok answer) line = ok_line answer
answer_line (Err why) line = no_line why line

-- ST holder holding paid due ticks
abbrev pub st_line : ℕ → Row → List ℕ
st_line holder row =
    83 ∷ 84
    ∷ (field holder
    ++ (field row.holding ++ (field row.paid ++ (field row.due ++ (field row.ticks ++ ended)))))

abbrev pub st_lines : ℕ → List Row → List (List ℕ)
st_lines holder [] = []
st_lines holder (row ∷ rows) = st_line holder row ∷ st_lines (holder + 1) rows

-- FT number line column
abbrev pub ft_fields : ℕ → ℕ → ℕ → List ℕ
ft_fields number line column = 70 ∷ 84 ∷ (field number ++ (field line ++ (field column ++ ended)))

abbrev pub ft_line : Fault → List ℕ
ft_line fault = ft_fields (told fault.refusal).number fault.line fault.column
