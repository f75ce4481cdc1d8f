-- A mark and the word that it is lead to each other, and so do a line and its mark with its values.
-- Assumes nothing.
use Rattle.std.proofs.Common.{◌≡◌, ℕ, ◌<◌, Bool, true, false, cond, List, [], ◌∷◌, Some, Option, refl, arith}
use Rattle.std.proofs.lemmas.Bool.{eqb-true, and_parts}
use Rattle.text.specs.declared.line.Line.{Line}
use Rattle.text.specs.declared.line.Line.TheVariants as line
use Rattle.text.specs.declared.mark.Mark.{Mark}
use Rattle.text.specs.declared.mark.Mark.TheVariants.{Pattern, ClosedDay, Offset, Deal, Holding, Advance, Transfer, Redemption, Posting, Payment}
use Rattle.text.specs.Cuts.{Without}
use Rattle.text.specs.Fields.{Each}
use Rattle.text.specs.Kinds.{Value}
use Rattle.text.specs.Lines.{format, line_from, mark_from}
use Rattle.text.specs.Marks.{spelled_mark, are, mark_of, mark_of_two}
use Rattle.text.specs.Spelled.{values}

pub mark_of_spelled : (mark : Mark) → mark_of (spelled_mark mark) ≡ Some mark
mark_of_spelled Pattern = refl
mark_of_spelled ClosedDay = refl
mark_of_spelled Offset = refl
mark_of_spelled Deal = refl
mark_of_spelled Holding = refl
mark_of_spelled Advance = refl
mark_of_spelled Transfer = refl
mark_of_spelled Redemption = refl
mark_of_spelled Posting = refl
mark_of_spelled Payment = refl

-- marks are letters
pub mark_without : (b : ℕ) → b < 65 → (mark : Mark) → Without b (spelled_mark mark)
mark_without b low Pattern = omega arith
mark_without b low ClosedDay = omega arith
mark_without b low Offset = omega arith
mark_without b low Deal = omega arith
mark_without b low Holding = omega arith
mark_without b low Advance = omega arith
mark_without b low Transfer = omega arith
mark_without b low Redemption = omega arith
mark_without b low Posting = omega arith
mark_without b low Payment = omega arith

-- two bytes that a mark was found for spell it
abbrev Spells : ℕ → ℕ → Option Mark → Type 0
Spells a b found = (mark : Mark) → found ≡ Some mark → spelled_mark mark ≡ a ∷ b ∷ []

these_or_others :
    (a b x y : ℕ) (these : Mark) (others : Option Mark) → spelled_mark these ≡ x ∷ y ∷ [] → Spells a b others →
    (t : Bool) → are a b x y ≡ t → Spells a b (cond t (Some these) others)
these_or_others a b x y these others spell later true e mark found =
    let both = and_parts _ _ e in
    let a_is = eqb-true a x both.0 in
    let b_is = eqb-true b y both.1 in
    cc
these_or_others a b x y these others spell later false e mark found = later mark found

found_spells : (a b : ℕ) → Spells a b (mark_of_two a b)
found_spells a b =
    let or : (x y : ℕ) (these : Mark) (others : Option Mark) → spelled_mark these ≡ x ∷ y ∷ [] → Spells a b others →
    Spells a b (cond (are a b x y) (Some these) others) =
    λ x y these others spell later. these_or_others a b x y these others spell later (are a b x y) refl
    in
    or 67 87 Pattern _ refl
    (or 67 68 ClosedDay _ refl
    (or 67 69 Offset _ refl
    (or 68 76 Deal _ refl
    (or 72 79 Holding _ refl
    (or 65 68 Advance _ refl
    (or 84 82 Transfer _ refl
    (or 82 68 Redemption _ refl
    (or 80 79 Posting _ refl
    (or 80 89 Payment _ refl (λ mark found. cc))))))))))

pub spelled_from_mark_of : (word : List ℕ) (mark : Mark) → mark_of word ≡ Some mark → spelled_mark mark ≡ word
spelled_from_mark_of [] mark found = cc
spelled_from_mark_of (a ∷ []) mark found = cc
spelled_from_mark_of (a ∷ b ∷ []) mark found = found_spells a b mark found
spelled_from_mark_of (a ∷ b ∷ c ∷ rest) mark found = cc

-- a line is made from its mark and its values
pub line_from_values : (l : Line) → line_from (mark_from l) (values l) ≡ l
line_from_values line.Posting = refl
line_from_values (line.Pattern it) = refl
line_from_values (line.ClosedDay it) = refl
line_from_values (line.Offset it) = refl
line_from_values (line.Deal terms) = refl
line_from_values (line.Holding it) = refl
line_from_values (line.Advance it) = refl
line_from_values (line.Transfer from to amount) = refl
line_from_values (line.Redemption holder amount) = refl
line_from_values (line.Payment it) = refl

-- what holds of a mark and values holds of those of the line that they make
pub of_line_from :
    (P : (mark : Mark) → Each Value (format mark) → Type 0) (mark : Mark) (each : Each Value (format mark)) →
    P mark each → P (mark_from (line_from mark each)) (values (line_from mark each))
of_line_from P Pattern each holds = holds
of_line_from P ClosedDay each holds = holds
of_line_from P Offset each holds = holds
of_line_from P Deal each holds = holds
of_line_from P Holding each holds = holds
of_line_from P Advance each holds = holds
of_line_from P Transfer each holds = holds
of_line_from P Redemption each holds = holds
of_line_from P Posting each holds = holds
of_line_from P Payment each holds = holds
