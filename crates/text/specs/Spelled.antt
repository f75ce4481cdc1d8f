-- How lines are written by the format. Each line has one spelling.
-- Assumes nothing.
use Rattle.std.specs.Prelude.{ℕ, suc, ◌+◌, ◌/◌, ◌%◌, List, [], ◌∷◌, ◌++◌, ℤ, pos, negsuc, decimal}
use Rattle.calendar.specs.declared.rolling.Convention.{Convention}
use Rattle.calendar.specs.declared.rolling.Convention.TheVariants.{Following, ModifiedFollowing, Preceding, Unadjusted}
use Rattle.schedules.specs.declared.deal.Stub.{Stub}
use Rattle.schedules.specs.declared.deal.Stub.TheVariants.{ShortFirst, ShortLast}
use Rattle.writing.specs.Spelling.{spelled_date}
use Rattle.text.specs.declared.basis.Basis.{Basis}
use Rattle.text.specs.declared.basis.Basis.TheVariants.{Actual360, Actual365, BondBasis, European}
use Rattle.text.specs.declared.line.Line.{Line}
use Rattle.text.specs.declared.line.Line.TheVariants as line
use Rattle.text.specs.Cuts.{space, line_end}
use Rattle.text.specs.Fields.{Each}
use Rattle.text.specs.Kinds.{Kind, date, number, pattern, offset, stub, convention, basis, Value}
use Rattle.text.specs.Lines.{format, mark_from}
use Rattle.text.specs.Marks.{spelled_mark}

-- seven 0s and 1s, Monday first
abbrev pub bit : ℕ → ℕ → ℕ
bit mask weight = 48 + mask / weight % 2

abbrev pub spelled_pattern : ℕ → List ℕ
spelled_pattern mask =
    bit mask 64 ∷ bit mask 32 ∷ bit mask 16 ∷ bit mask 8 ∷ bit mask 4 ∷ bit mask 2 ∷ bit mask 1 ∷ []

-- a sign, which zero has as a plus, and the number
abbrev pub spelled_offset : ℤ → List ℕ
spelled_offset (pos n) = 43 ∷ decimal n
spelled_offset (negsuc n) = 45 ∷ decimal (suc n)

abbrev pub spelled_stub : Stub → List ℕ
spelled_stub ShortFirst = 83 ∷ 70 ∷ []
spelled_stub ShortLast = 83 ∷ 76 ∷ []

abbrev pub spelled_convention : Convention → List ℕ
spelled_convention Following = 70 ∷ []
spelled_convention ModifiedFollowing = 77 ∷ []
spelled_convention Preceding = 80 ∷ []
spelled_convention Unadjusted = 85 ∷ []

abbrev pub spelled_basis : Basis → List ℕ
spelled_basis Actual360 = 65 ∷ 51 ∷ 54 ∷ 48 ∷ []
spelled_basis Actual365 = 65 ∷ 51 ∷ 54 ∷ 53 ∷ []
spelled_basis BondBasis = 66 ∷ 51 ∷ 54 ∷ 48 ∷ []
spelled_basis European = 69 ∷ 51 ∷ 54 ∷ 48 ∷ []

abbrev pub spelled : (kind : Kind) → Value kind → List ℕ
spelled date day = spelled_date day
spelled number n = decimal n
spelled pattern mask = spelled_pattern mask
spelled offset z = spelled_offset z
spelled stub s = spelled_stub s
spelled convention c = spelled_convention c
spelled basis b = spelled_basis b

-- each field behind a space
abbrev pub spelled_each : (kinds : List Kind) → Each Value kinds → List ℕ
spelled_each [] each = []
spelled_each (kind ∷ kinds) each = space ∷ (spelled kind each.0.value ++ spelled_each kinds each.1)

-- the values of a line, in the order of its fields
abbrev pub values : (l : Line) → Each Value (format (mark_from l))
values line.Posting = tt
values (line.Pattern it) = (it, tt)
values (line.ClosedDay it) = (it, tt)
values (line.Offset it) = (it, tt)
values (line.Deal terms) = (
  terms.start,
  (
    terms.end,
    (terms.months, (terms.stub, (terms.convention, (terms.basis, (terms.rate, tt))))),
  ),
)
values (line.Holding it) = (it, tt)
values (line.Advance it) = (it, tt)
values (line.Transfer from to amount) = (from, (to, (amount, tt)))
values (line.Redemption holder amount) = (holder, (amount, tt))
values (line.Payment it) = (it, tt)

-- a line, with the byte 10 that ends it
abbrev pub spelled_line : Line → List ℕ
spelled_line l =
    spelled_mark (mark_from l) ++ (spelled_each (format (mark_from l)) (values l) ++ line_end ∷ [])

abbrev pub written : List Line → List ℕ
written [] = []
written (l ∷ ls) = spelled_line l ++ written ls
