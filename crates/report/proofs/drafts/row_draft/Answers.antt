use Rattle.std.proofs.Common.{append_assoc, arith}
use Rattle.std.proofs.lemmas.List.{length-append}
use Rattle.report.proofs.Drafting.{begun, then, whole}
use Rattle.report.proofs.drafts.row_draft.Goals as goal

pub returns : goal.returns
returns c =
    let t0 = begun _ c.new-line.ensures c.word.ensures in
    let t1 = then _ t0 c.put_field.ensures.text in
    let t2 = then _ t1 c.put_field-2.ensures.text in
    let t3 = then _ t2 c.put_field-3.ensures.text in
    let t4 = then _ t3 c.put_field-4.ensures.text in
    let t5 = then _ t4 c.put_field-5.ensures.text in
    whole (then _ t5 c.push.ensures) (simp append_assoc)
    (simp length-append (omega (arith, c.put_field.ensures.short, c.put_field-2.ensures.short, c.put_field-3.ensures.short, c.put_field-4.ensures.short, c.put_field-5.ensures.short)))
