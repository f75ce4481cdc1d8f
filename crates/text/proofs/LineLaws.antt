-- A line is read as what it spells, and a line that may stand there is read from its spelling.
-- Assumes nothing: the laws of the kinds of fields are an argument.
use Rattle.std.proofs.Common.{◌≡◌, ℕ, ◌+◌, Bool, true, false, cond, List, [], ◌∷◌, ◌++◌, length, Some, None, Ok, Err, Option, refl, ap, ◌∙◌, subst, ap₂, append_assoc, arith, lit<}
use Rattle.std.proofs.lemmas.Bool.{cond-true}
use Rattle.text.specs.declared.fault.Fault.{Fault}
use Rattle.text.specs.declared.line.Line.{Line}
use Rattle.text.specs.declared.mark.Mark.{Mark}
use Rattle.text.specs.declared.standing.Standing.{Standing}
use Rattle.text.specs.Cuts.{space, line_end, Word, words, Without}
use Rattle.text.specs.Fields.{Each, Ending, fields, settle_each}
use Rattle.text.specs.KindLaws.{KindLaw}
use Rattle.text.specs.Kinds.{Kind, Value}
use Rattle.text.specs.Laws.{InPlace, WellFormed, MayStand}
use Rattle.text.specs.Lines.{format, mark_from, line_from, unless_full, body_of, known, marked, line_of}
use Rattle.text.specs.Marks.{spelled_mark, mark_of, allowed, full}
use Rattle.text.specs.Spelled.{spelled_each, values, spelled_line}
use Rattle.text.proofs.Chosen.{same_from_ok}
use Rattle.text.proofs.FieldSteps.{then_ok}
use Rattle.text.proofs.FieldWords.{words_each, read_are_spelled, words_of_each, spelled_are_read, each_without_line_end}
use Rattle.text.proofs.LineCuts.{without_append}
use Rattle.text.proofs.MarkWords.{mark_of_spelled, mark_without, spelled_from_mark_of, line_from_values, of_line_from}
use Rattle.text.proofs.WordCuts.{Placed, WordsOf, words_of}

-- a line as it is spelled, without the byte 10 that ends it
abbrev pub line_bytes : Line → List ℕ
line_bytes l = spelled_mark (mark_from l) ++ spelled_each (format (mark_from l)) (values l)

regroup :
    (mark each rest : List ℕ) →
    (mark ++ (each ++ line_end ∷ [])) ++ rest ≡ (mark ++ each) ++ line_end ∷ rest
regroup mark each rest = simp append_assoc

pub spelled_then : (l : Line) (rest : List ℕ) → spelled_line l ++ rest ≡ line_bytes l ++ line_end ∷ rest
spelled_then l rest = regroup (spelled_mark (mark_from l)) (spelled_each (format (mark_from l)) (values l)) rest

-- the mark and the values spell the bytes, and may stand there
abbrev Fits : Standing → ℕ → List ℕ → (mark : Mark) → Each Value (format mark) → Type 0
Fits standing n bytes mark each =
    (spelled_mark mark ++ spelled_each (format mark) each ≡ bytes)
    × InPlace n (length (spelled_mark mark) + 2) (format mark) each × (allowed standing mark ≡ true)
    × (full standing mark ≡ false)

pub record ReadAs (standing : Standing) (n : ℕ) (bytes : List ℕ) (l : Line) : Type 0 where
  pub spells : line_bytes l ≡ bytes
  pub well_formed : WellFormed n l
  pub may_stand : MayStand standing l

read_as :
    (standing : Standing) (n : ℕ) (bytes : List ℕ) (l : Line) → Fits standing n bytes (mark_from l) (values l) →
    ReadAs standing n bytes l
read_as standing n bytes l fits =
    record {
      spells = fits.0;
      well_formed = fits.1;
      may_stand = record { is_allowed = fits.2; has_room = fits.3 };
    }

with_room :
    (t : Bool) (mark : Mark) (n : ℕ) (each : Each Value (format mark)) (l : Line) → unless_full t mark n each ≡ Ok l →
    (t ≡ false) × (line_from mark each ≡ l)
with_room true mark n each l e = cc
with_room false mark n each l e = (refl, same_from_ok e)

module _ (laws : (kind : Kind) → KindLaw kind) where
  body_read :
      (standing : Standing) (mark : Mark) (end : Ending) (word : Word) (later : List Word) (bytes : List ℕ) (l : Line) →
      WordsOf 1 bytes (word ∷ later) → mark_of word.bytes ≡ Some mark → allowed standing mark ≡ true →
      body_of standing mark end later ≡ Ok l → ReadAs standing end.line bytes l
  body_read standing mark end word later bytes l of found allow e =
      let r = then_ok (fields (format mark) end later) _ l e in
      let s = then_ok (settle_each (format mark) r.0) _ l r.2 in
      let room = with_room (full standing mark) mark end.line s.0 l s.2 in
      let mark_is = spelled_from_mark_of word.bytes mark found in
      let column_is : 1 + length word.bytes + 1 ≡ length (spelled_mark mark) + 2 = omega (arith, ap length mark_is) in
      let are =
      read_are_spelled laws (format mark) end later (length (spelled_mark mark) + 2) r.0 s.0 r.1 s.1
      (subst (λ k. Placed k later) column_is of.1.1)
      in
      let fits : Fits standing end.line bytes mark s.0 =
      (ap₂ ◌++◌ mark_is are.0 ∙ of.0, are.1, allow, room.0)
      in
      subst (ReadAs standing end.line bytes) room.1
      (read_as standing end.line bytes (line_from mark s.0)
      (of_line_from (Fits standing end.line bytes) mark s.0 fits))

  allowed_read :
      (standing : Standing) (mark : Mark) (end : Ending) (word : Word) (later : List Word) (bytes : List ℕ) (l : Line)
      (why : Fault) (t : Bool) → WordsOf 1 bytes (word ∷ later) → mark_of word.bytes ≡ Some mark →
      allowed standing mark ≡ t → cond t (body_of standing mark end later) (Err why) ≡ Ok l →
      ReadAs standing end.line bytes l
  allowed_read standing mark end word later bytes l why true of found allow e =
      body_read standing mark end word later bytes l of found allow e
  allowed_read standing mark end word later bytes l why false of found allow e = cc

  known_read :
      (standing : Standing) (end : Ending) (word : Word) (later : List Word) (bytes : List ℕ) (l : Line) (o : Option Mark) →
      WordsOf 1 bytes (word ∷ later) → mark_of word.bytes ≡ o → known standing end later o ≡ Ok l →
      ReadAs standing end.line bytes l
  known_read standing end word later bytes l None of found e = cc
  known_read standing end word later bytes l (Some mark) of found e =
      allowed_read standing mark end word later bytes l _ (allowed standing mark) of found refl e

  marked_read :
      (standing : Standing) (end : Ending) (all : List Word) (bytes : List ℕ) (l : Line) → WordsOf 1 bytes all →
      marked standing end all ≡ Ok l → ReadAs standing end.line bytes l
  marked_read standing end [] bytes l of e = absurd of
  marked_read standing end (word ∷ later) bytes l of e =
      known_read standing end word later bytes l (mark_of word.bytes) of refl e

  pub line_read :
      (standing : Standing) (n : ℕ) (bytes : List ℕ) (l : Line) → line_of standing n bytes ≡ Ok l →
      ReadAs standing n bytes l
  unfolding line_of
  line_read standing n bytes l e =
      marked_read standing (record { line = n; column = length bytes + 1 }) (words 1 bytes) bytes l (words_of 1 bytes) e

  body_stands :
      (standing : Standing) (mark : Mark) (end : Ending) (column : ℕ) (each : Each Value (format mark)) →
      InPlace end.line column (format mark) each → full standing mark ≡ false →
      body_of standing mark end (words_each column (format mark) each) ≡ Ok (line_from mark each)
  body_stands standing mark end column each at room =
      let r = spelled_are_read laws (format mark) each end column at in rw (r.read_is, r.each_is, room) refl

  pub line_stands :
      (standing : Standing) (n : ℕ) (l : Line) → WellFormed n l → MayStand standing l →
      line_of standing n (line_bytes l) ≡ Ok l
  unfolding line_of
  line_stands standing n l well may =
      let mark = mark_from l in
      let word = spelled_mark mark in
      let end : Ending = record { line = n; column = length (line_bytes l) + 1 } in
      let later = words_each (1 + length word + 1) (format mark) (values l) in
      let column_is : length word + 2 ≡ 1 + length word + 1 = omega arith in
      ap (marked standing end)
      (words_of_each laws (format mark) (values l) n (length word + 2) 1 word (mark_without space (lit< tt) mark) well)
      ∙ ap (known standing end later) (mark_of_spelled mark)
      ∙ cond-true (allowed standing mark) (body_of standing mark end later) _ may.is_allowed
      ∙ body_stands standing mark end (1 + length word + 1) (values l)
      (subst (λ k. InPlace n k (format mark) (values l)) column_is well) may.has_room
      ∙ ap Ok (line_from_values l)

  pub line_without_line_end : (n : ℕ) (l : Line) → WellFormed n l → Without line_end (line_bytes l)
  line_without_line_end n l well =
      let mark = mark_from l in
      without_append line_end (spelled_mark mark) (spelled_each (format mark) (values l)) (mark_without line_end (lit< tt) mark)
      (each_without_line_end laws (format mark) (values l) n (length (spelled_mark mark) + 2) well)
