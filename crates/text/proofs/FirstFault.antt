-- Lines that are refused are so at the first that no good line spells.
-- Assumes nothing: the laws of the kinds of fields are an argument.
use Rattle.std.proofs.Common.{◌≡◌, ℕ, ◌+◌, ◌<◌, List, [], ◌∷◌, ◌++◌, length, Ok, Err, Result, sym, refl, ap, ◌∙◌, subst, append_assoc, arith, length-append}
use Rattle.text.specs.declared.fault.Fault.{Fault}
use Rattle.text.specs.declared.line.Line.{Line}
use Rattle.text.specs.declared.standing.Standing.{Standing}
use Rattle.text.specs.Cuts.{line_end, Without}
use Rattle.text.specs.Fields.{and_then}
use Rattle.text.specs.KindLaws.{KindLaw}
use Rattle.text.specs.Kinds.{Kind}
use Rattle.text.specs.Laws.{WellFormed, MayStand, GoodLines, behind}
use Rattle.text.specs.Lines.{mark_from, line_of}
use Rattle.text.specs.Marks.{next}
use Rattle.text.specs.Meaning.{read_lines}
use Rattle.text.specs.Spelled.{spelled_line, written}
use Rattle.text.proofs.FaultPlaces.{line_fault_on}
use Rattle.text.proofs.FieldSteps.{err_same, never_both}
use Rattle.text.proofs.LineCuts.{cut_once, never_holds, joined_lines, AllWithout}
use Rattle.text.proofs.LineLaws.{ReadAs, line_bytes, spelled_then, line_read, line_stands, line_without_line_end}

-- no line that is good there begins what is left
abbrev NoneBegins : Standing → ℕ → List ℕ → Type 0
NoneBegins standing n rest =
    (l : Line) (later : List ℕ) → WellFormed n l → MayStand standing l → spelled_line l ++ later ≡ rest → ⊥

-- the lines before the faulty one, which has this number, and what begins with it
pub record FaultyFrom (standing : Standing) (n : ℕ) (text : List ℕ) (number : ℕ) : Type 0 where
  pub before : List Line
  pub rest : List ℕ
  pub good : GoodLines standing n before
  pub spells : written before ++ rest ≡ text
  pub number_is : length before + n ≡ number
  pub some_left : 0 < length rest
  pub faulty : NoneBegins (behind standing before) number rest

-- the first line is the faulty one
faulty_here :
    (standing : Standing) (n : ℕ) (text : List ℕ) (number : ℕ) → number ≡ n → 0 < length text →
    NoneBegins standing n text → FaultyFrom standing n text number
faulty_here standing n text number is some none =
    record {
      before = [];
      rest = text;
      good = tt;
      spells = refl;
      number_is = omega arith;
      some_left = some;
      faulty = λ l later well may e. none l later (subst (λ k. WellFormed k l) is well) may e;
    }

-- a good line stands before the faulty one
faulty_behind :
    (standing : Standing) (n : ℕ) (bytes text : List ℕ) (number : ℕ) (l : Line) → ReadAs standing n bytes l →
    FaultyFrom (next standing (mark_from l)) (n + 1) text number →
    FaultyFrom standing n (bytes ++ line_end ∷ text) number
faulty_behind standing n bytes text number l is from =
    record {
      before = l ∷ from.before;
      rest = from.rest;
      good = (is.well_formed, is.may_stand, from.good);
      spells =
          append_assoc (spelled_line l) (written from.before) from.rest ∙ ap (λ more. spelled_line l ++ more) from.spells
          ∙ spelled_then l text ∙ ap (λ line. line ++ line_end ∷ text) is.spells;
      number_is = omega (arith, from.number_is);
      some_left = from.some_left;
      faulty = from.faulty;
    }

module _ (laws : (kind : Kind) → KindLaw kind) where
  none_begins_unended : (standing : Standing) (n : ℕ) (left : List ℕ) → Without line_end left → NoneBegins standing n left
  none_begins_unended standing n left clean l later well may e =
      never_holds line_end left (line_bytes l) later clean (sym e ∙ spelled_then l later)

  none_begins_refused :
      (standing : Standing) (n : ℕ) (bytes text : List ℕ) (found : Fault) → Without line_end bytes →
      line_of standing n bytes ≡ Err found → NoneBegins standing n (bytes ++ line_end ∷ text)
  none_begins_refused standing n bytes text found clean refused l later well may e =
      let same =
      cut_once line_end (line_bytes l) later bytes text (line_without_line_end laws n l well) clean
      (sym (spelled_then l later) ∙ e)
      in
      never_both l found
      (sym (line_stands laws standing n l well may) ∙ ap (line_of standing n) same.0 ∙ refused)

  first_or_later :
      (standing : Standing) (n : ℕ) (bytes text : List ℕ) (found : Fault) (r : Result Line Fault)
      (others : Line → Result (List Line) Fault) → Without line_end bytes → line_of standing n bytes ≡ r →
      ((l : Line) → others l ≡ Err found → FaultyFrom (next standing (mark_from l)) (n + 1) text found.line) →
      and_then r (λ l. and_then (others l) (λ ls. Ok (l ∷ ls))) ≡ Err found →
      FaultyFrom standing n (bytes ++ line_end ∷ text) found.line
  first_or_later standing n bytes text found (Err other) others clean is later e =
      let refused : line_of standing n bytes ≡ Err found = is ∙ ap Err (err_same other found e) in
      faulty_here standing n (bytes ++ line_end ∷ text) found.line (line_fault_on standing n bytes found refused)
      (omega (arith, length-append bytes (line_end ∷ text)))
      (none_begins_refused standing n bytes text found clean refused)
  first_or_later standing n bytes text found (Ok l) others clean is later e =
      faulty_behind standing n bytes text found.line l (line_read laws standing n bytes l is)
      (later l (still_refused (others l) e))
    where
      still_refused :
          (r : Result (List Line) Fault) → and_then r (λ ls. Ok (l ∷ ls)) ≡ Err found → r ≡ Err found
      still_refused (Ok ls) e₂ = cc
      still_refused (Err other) e₂ = ap Err (err_same other found e₂)

  pub lines_fault :
      (lines : List (List ℕ)) (standing : Standing) (n : ℕ) (left : List ℕ) (found : Fault) → AllWithout lines →
      Without line_end left → read_lines standing n lines left ≡ Err found →
      FaultyFrom standing n (joined_lines lines left) found.line
  unfolding read_lines
  lines_fault [] standing n [] found clean left_clean e = cc
  lines_fault [] standing n (b ∷ bs) found clean left_clean e =
      faulty_here standing n (b ∷ bs) found.line (sym (ap (λ (x : Fault). x.line) (err_same _ found e))) (omega arith)
      (none_begins_unended standing n (b ∷ bs) left_clean)
  lines_fault (bytes ∷ later) standing n left found clean left_clean e =
      first_or_later standing n bytes (joined_lines later left) found (line_of standing n bytes)
      (λ l. read_lines (next standing (mark_from l)) (n + 1) later left) clean.0 refl
      (λ l refused. lines_fault later (next standing (mark_from l)) (n + 1) left found clean.1 left_clean refused) e
