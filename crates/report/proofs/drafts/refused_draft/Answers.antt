use Rattle.std.proofs.Common.{ap, ◌∙◌, append_assoc, arith}
use Rattle.std.proofs.lemmas.List.{length-append}
use Rattle.days.specs.Refusals.{told}
use Rattle.days.specs.Texts.{letter}
use Rattle.report.specs.Printed.{no_fields}
use Rattle.report.proofs.Drafting.{begun, then, whole}
use Rattle.report.proofs.drafts.refused_draft.Goals as goal

pub returns : goal.returns
returns c =
    let why = told c.args.refusal in
    let n = c.args.number in
    let t0 = begun _ c.new-line.ensures c.word.ensures in
    let t1 = then _ t0 c.put_field.ensures.text in
    let t2 = then _ t1 c.push.ensures in
    let t3 = then _ t2 c.push-2.ensures in
    let t4 = then _ t3 c.put_field-2.ensures.text in
    let t5 = then _ t4 c.put_field-3.ensures.text in
    whole {line = no_fields c.number.result c.letter.result c.place.result n} (then _ t5 c.push-3.ensures) (simp append_assoc)
    (simp length-append (omega (arith, c.put_field.ensures.short, c.put_field-2.ensures.short, c.put_field-3.ensures.short)))
    ∙ (ap (λ k. no_fields k c.letter.result c.place.result n) c.number.ensures
    ∙ (ap (λ l. no_fields why.number l c.place.result n) (c.letter.ensures ∙ ap letter c.layer.ensures)
    ∙ ap (λ p. no_fields why.number (letter why.layer) p n) c.place.ensures))
