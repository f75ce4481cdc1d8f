-- The words that are read as values are the spellings of these values, and these spellings are read as them.
-- Assumes nothing: the laws of the kinds of fields are an argument.
use Rattle.std.proofs.Common.{◌≡◌, ℕ, ◌+◌, List, [], ◌∷◌, ◌++◌, length, Ok, sym, refl, ap, ◌∙◌, subst, ap₂, append-nil, arith}
use Rattle.text.specs.Cuts.{space, line_end, Word, words, Without}
use Rattle.text.specs.Fields.{placed, Each, Ending, fields, settle_each}
use Rattle.text.specs.KindLaws.{Unbroken, KindLaw}
use Rattle.text.specs.Kinds.{Kind, Said, Value, settled}
use Rattle.text.specs.Laws.{InRange, InPlace}
use Rattle.text.specs.Left.{word_at}
use Rattle.text.specs.Spelled.{spelled, spelled_each}
use Rattle.text.proofs.FieldSteps.{first_read, first_settled}
use Rattle.text.proofs.LineCuts.{without_from, without_append}
use Rattle.text.proofs.WordCuts.{joined_words, Placed, words_last, words_first}

-- the words of the values from a column on
abbrev pub words_each : ℕ → (kinds : List Kind) → Each Value kinds → List Word
words_each column [] each = []
words_each column (kind ∷ kinds) each =
    word_at column (spelled kind each.0.value)
    ∷ words_each (column + length (spelled kind each.0.value) + 1) kinds each.1

without_space : (word : List ℕ) → Unbroken word → Without space word
without_space word whole = without_from space word (λ i less. (whole i less).0)

without_line_end : (word : List ℕ) → Unbroken word → Without line_end word
without_line_end word whole = without_from line_end word (λ i less. (whole i less).1)

module _ (laws : (kind : Kind) → KindLaw kind) where
  pub read_are_spelled :
      (kinds : List Kind) (end : Ending) (later : List Word) (column : ℕ) (read : Each Said kinds) (each : Each Value kinds) →
      fields kinds end later ≡ Ok read → settle_each kinds read ≡ Ok each → Placed column later →
      (spelled_each kinds each ≡ joined_words later) × InPlace end.line column kinds each
  read_are_spelled [] end [] column read each read_is each_is at = (refl, tt)
  read_are_spelled [] end (word ∷ later) column read each read_is each_is at = cc
  read_are_spelled (kind ∷ kinds) end [] column read each read_is each_is at = cc
  read_are_spelled (kind ∷ kinds) end (word ∷ later) column read each read_is each_is at =
      let r = first_read kind kinds end word later read read_is in
      let s = first_settled kind kinds read each each_is in
      let value_is : each.0.value ≡ s.value = ap (λ x. x.value) s.first_is in
      let is =
      (laws kind).read_as_spelled word.bytes r.says s.value r.said_is
      (subst (λ x. settled kind x.value ≡ Ok s.value) r.first_is s.settled_is)
      in
      let spelled_is : spelled kind each.0.value ≡ word.bytes = ap (spelled kind) value_is ∙ is.0 in
      let others =
      read_are_spelled kinds end later (column + length word.bytes + 1) read.1 each.1 r.others_are s.others_are
      at.1
      in (
        ap₂ (λ (first rest : List ℕ). space ∷ (first ++ rest)) spelled_is others.0,
        (
          subst (InRange kind) (sym value_is) is.1,
          ap (λ x. x.line) s.first_is ∙ ap (λ x. x.line) r.first_is,
          ap (λ x. x.column) s.first_is ∙ ap (λ x. x.column) r.first_is ∙ at.0,
          subst (λ bytes. InPlace end.line (column + length bytes + 1) kinds each.1) (sym spelled_is) others.1,
        ),
      )

  pub words_of_each :
      (kinds : List Kind) (each : Each Value kinds) (line from column : ℕ) (word : List ℕ) → Without space word →
      InPlace line from kinds each →
      words column (word ++ spelled_each kinds each)
      ≡ word_at column word ∷ words_each (column + length word + 1) kinds each
  words_of_each [] each line from column word clean at = rw (append-nil word) (words_last column word clean)
  words_of_each (kind ∷ kinds) each line from column word clean at =
      let bytes = spelled kind each.0.value in
      words_first column word (bytes ++ spelled_each kinds each.1) clean
      ∙ ap (λ later. word_at column word ∷ later)
      (words_of_each kinds each.1 line (from + length bytes + 1) (column + length word + 1) bytes
      (without_space bytes ((laws kind).unbroken each.0.value at.0)) at.3)

  pub record EachRead (kinds : List Kind) (end : Ending) (later : List Word) (each : Each Value kinds) : Type 0 where
    pub read : Each Said kinds
    pub read_is : fields kinds end later ≡ Ok read
    pub each_is : settle_each kinds read ≡ Ok each

  pub spelled_are_read :
      (kinds : List Kind) (each : Each Value kinds) (end : Ending) (column : ℕ) →
      InPlace end.line column kinds each → EachRead kinds end (words_each column kinds each) each
  spelled_are_read [] each end column at = record { read = tt; read_is = refl; each_is = refl }
  spelled_are_read (kind ∷ kinds) each end column at =
      let is = (laws kind).spelled_and_read each.0.value at.0 in
      let others =
      spelled_are_read kinds each.1 end (column + length (spelled kind each.0.value) + 1) at.3
      in
      record {
        read = (placed is.0 end.line column, others.read);
        read_is = rw (is.1, others.read_is) refl;
        each_is = rw (is.2, others.each_is)
            (ap₂ (λ (line from : ℕ). Ok (placed each.0.value line from, each.1)) (sym at.1) (sym at.2));
      }

  pub each_without_line_end :
      (kinds : List Kind) (each : Each Value kinds) (line column : ℕ) → InPlace line column kinds each →
      Without line_end (spelled_each kinds each)
  each_without_line_end [] each line column at = tt
  each_without_line_end (kind ∷ kinds) each line column at =
      let bytes = spelled kind each.0.value in (
        omega arith,
        without_append line_end bytes (spelled_each kinds each.1)
            (without_line_end bytes ((laws kind).unbroken each.0.value at.0))
            (each_without_line_end kinds each.1 line (column + length bytes + 1) at.3),
      )
