-- What is found in the lines of a text is as much as it has lines of that sort.
-- Assumes nothing.
use Rattle.std.proofs.Common.{◌≡◌, ◌+◌, cond, List, [], ◌∷◌, length, is_some, Some, None, Option, refl, ap, ◌∙◌, arith}
use Rattle.text.specs.declared.line.Line.{Line}
use Rattle.text.specs.declared.line.Line.TheVariants as line
use Rattle.text.specs.Lines.{mark_from}
use Rattle.text.specs.Marks as mark
use Rattle.text.proofs.RoleCounts.{is_role, lines_of, lines_leading}
use Rattle.report.specs.Parts.{Part, closed_weekdays, closed_day, closed_by_easter, a_deal, a_holding, a_call, part, pattern_in, day_in, offset_in, holding_in, put_first, gathered, lead, leading}

abbrev role_in : Part → mark.Role
role_in (closed_weekdays mask) = mark.a_pattern
role_in (closed_day day) = mark.a_closed_day
role_in (closed_by_easter offset) = mark.an_offset
role_in (a_deal terms) = mark.a_deal
role_in (a_holding amount) = mark.a_holding
role_in (a_call call) = mark.a_call

same_role : (l : Line) → role_in (part l) ≡ mark.role (mark_from l)
same_role line.Posting = refl
same_role (line.Pattern mask) = refl
same_role (line.ClosedDay day) = refl
same_role (line.Offset offset) = refl
same_role (line.Deal terms) = refl
same_role (line.Holding amount) = refl
same_role (line.Advance day) = refl
same_role (line.Transfer from to amount) = refl
same_role (line.Redemption holder amount) = refl
same_role (line.Payment holder) = refl

-- something is found in the lines of this sort, and in no others
abbrev Finds : {X : Type 0} → (Part → Option X) → mark.Role → Part → Type 0
Finds find r it = is_some (find it) ≡ is_role r (role_in it)

record Found (it : Part) : Type 0 where
  pattern : Finds pattern_in mark.a_pattern it
  day : Finds day_in mark.a_closed_day it
  offset : Finds offset_in mark.an_offset it
  holding : Finds holding_in mark.a_holding it

found : (it : Part) → Found it
found (closed_weekdays mask) = record { pattern = refl; day = refl; offset = refl; holding = refl }
found (closed_day day) = record { pattern = refl; day = refl; offset = refl; holding = refl }
found (closed_by_easter offset) = record { pattern = refl; day = refl; offset = refl; holding = refl }
found (a_deal terms) = record { pattern = refl; day = refl; offset = refl; holding = refl }
found (a_holding amount) = record { pattern = refl; day = refl; offset = refl; holding = refl }
found (a_call call) = record { pattern = refl; day = refl; offset = refl; holding = refl }

module _ {X : Type 0} (find : Part → Option X) (r : mark.Role) (finds : (it : Part) → Finds find r it) where
  found_in : (l : Line) → is_some (find (part l)) ≡ is_role r (mark.role (mark_from l))
  found_in l = finds (part l) ∙ ap (is_role r) (same_role l)

  length_first : (o : Option X) (later : List X) → length (put_first o later) ≡ cond (is_some o) 1 0 + length later
  length_first None later = omega arith
  length_first (Some x) later = omega arith

  length_lead : (o : Option X) (later : List X) → length (lead o later) ≡ cond (is_some o) (1 + length later) 0
  length_lead None later = refl
  length_lead (Some x) later = omega arith

  length_gathered : (lines : List Line) → length (gathered find lines) ≡ lines_of r lines
  length_gathered [] = refl
  length_gathered (l ∷ ls) =
      length_first (find (part l)) (gathered find ls)
      ∙ ap (λ b. cond b 1 0 + length (gathered find ls)) (found_in l)
      ∙ ap (λ k. cond (is_role r (mark.role (mark_from l))) 1 0 + k) (length_gathered ls)

  length_leading : (lines : List Line) → length (leading find lines) ≡ lines_leading r lines
  length_leading [] = refl
  length_leading (l ∷ ls) =
      length_lead (find (part l)) (leading find ls)
      ∙ ap (λ b. cond b (1 + length (leading find ls)) 0) (found_in l)
      ∙ ap (λ k. cond (is_role r (mark.role (mark_from l))) (1 + k) 0) (length_leading ls)

pub patterns_found : (lines : List Line) → length (gathered pattern_in lines) ≡ lines_of mark.a_pattern lines
patterns_found lines = length_gathered pattern_in mark.a_pattern (λ it. (found it).pattern) lines

pub days_found : (lines : List Line) → length (gathered day_in lines) ≡ lines_of mark.a_closed_day lines
days_found lines = length_gathered day_in mark.a_closed_day (λ it. (found it).day) lines

pub offsets_found : (lines : List Line) → length (gathered offset_in lines) ≡ lines_of mark.an_offset lines
offsets_found lines = length_gathered offset_in mark.an_offset (λ it. (found it).offset) lines

pub holdings_led : (lines : List Line) → length (leading holding_in lines) ≡ lines_leading mark.a_holding lines
holdings_led lines = length_leading holding_in mark.a_holding (λ it. (found it).holding) lines
