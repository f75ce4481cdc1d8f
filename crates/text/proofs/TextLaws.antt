-- The law of texts: a text is accepted exactly when good lines spell it, and else its first faulty line is named.
-- Assumes nothing: the laws of the kinds of fields are an argument.
use Rattle.std.proofs.Common.{◌≡◌, ℕ, ◌<◌, ◌≤◌, ◌⊎◌, List, [], length, Ok, Err, Result, sym, refl, ap, ◌∙◌, inl, inr}
use Rattle.std.proofs.lemmas.Bool.{lt-ltb, cases_lt, cond-true}
use Rattle.days.specs.declared.refusal.Refusal.TheVariants.{TextTooLong}
use Rattle.text.specs.declared.fault.Fault.{Fault}
use Rattle.text.specs.declared.line.Line.{Line}
use Rattle.text.specs.Cuts.{Cut, cut_lines}
use Rattle.text.specs.Fields.{fault}
use Rattle.text.specs.KindLaws.{KindLaw}
use Rattle.text.specs.Kinds.{Kind}
use Rattle.text.specs.Laws.{GoodLines, IsWritten, Refused, TextLaw}
use Rattle.text.specs.Marks.{start}
use Rattle.text.specs.Meaning.{longest_text, read_lines, meaning}
use Rattle.text.specs.Spelled.{written}
use Rattle.text.proofs.FieldSteps.{err_same, never_both}
use Rattle.text.proofs.FirstFault.{lines_fault}
use Rattle.text.proofs.LineCuts.{cut_of}
use Rattle.text.proofs.Progress.{short_meaning}
use Rattle.text.proofs.LinesRead.{bytes_each, lines_read, lines_stand, cut_written}

meaning_too_long : (text : List ℕ) → longest_text < length text → meaning text ≡ Err (fault TextTooLong 0 0)
unfolding meaning
meaning_too_long text long = cond-true _ _ _ (lt-ltb longest_text (length text) long)

module _ (laws : (kind : Kind) → KindLaw kind) where
  accepted_short :
      (text : List ℕ) (lines : List Line) → meaning text ≡ Ok lines → length text ≤ longest_text →
      GoodLines start 1 lines × (written lines ≡ text)
  accepted_short text lines e short =
      let cut = cut_lines text in
      let are = lines_read laws cut.whole start 1 cut.left lines (sym (short_meaning text short) ∙ e) in
      (are.0, are.1 ∙ (cut_of text).joins)

  accepted_is_written : (text : List ℕ) (lines : List Line) → meaning text ≡ Ok lines → IsWritten text
  accepted_is_written text lines e = by_length (cases_lt longest_text (length text))
    where
      by_length : (longest_text < length text) ⊎ (length text ≤ longest_text) → IsWritten text
      by_length (inl long) = absurd (never_both _ _ (sym e ∙ meaning_too_long text long))
      by_length (inr short) =
          let are = accepted_short text lines e short in
          record { lines = lines; good = are.0; spells = are.1; short = short }

  written_is_accepted : (text : List ℕ) (of : IsWritten text) → meaning text ≡ Ok of.lines
  written_is_accepted text of =
      let cut_is : cut_lines text ≡ record { whole = bytes_each of.lines; left = [] } =
      ap cut_lines (sym of.spells) ∙ cut_written laws of.lines start 1 of.good
      in
      short_meaning text of.short ∙ ap (λ (cut : Cut). read_lines start 1 cut.whole cut.left) cut_is
      ∙ lines_stand laws of.lines start 1 of.good

  refused_is : (text : List ℕ) (found : Fault) → meaning text ≡ Err found → Refused text found
  refused_is text found e = (
    λ short.
        let cut = cut_lines text in
        let of = cut_of text in
        let from =
        lines_fault laws cut.whole start 1 cut.left found of.lines_clean of.left_clean
        (sym (short_meaning text short) ∙ e)
        in
        record {
          before = from.before;
          rest = from.rest;
          good = from.good;
          spells = from.spells ∙ of.joins;
          number = from.number_is;
          some_left = from.some_left;
          faulty = from.faulty;
        },
    λ long. sym (ap (λ (x : Fault). x.line) (err_same _ found (sym (meaning_too_long text long) ∙ e))),
  )

  law_of_outcome : (text : List ℕ) (r : Result (List Line) Fault) → meaning text ≡ r → TextLaw text r
  law_of_outcome text (Ok lines) e =
      let of = accepted_is_written text lines e in
      record {
        accepted_exactly_when_good_lines_spell_it = (λ yes'. of, λ of'. refl);
        read_and_written_again = accepted_short text lines e of.short;
      }
  law_of_outcome text (Err found) e =
      record {
        accepted_exactly_when_good_lines_spell_it = (
          λ yes'. cc,
          λ of. absurd (never_both _ _ (sym (written_is_accepted text of) ∙ e)),
        );
        read_and_written_again = refused_is text found e;
      }

  pub text_law : (text : List ℕ) → TextLaw text (meaning text)
  text_law text = law_of_outcome text (meaning text) refl
