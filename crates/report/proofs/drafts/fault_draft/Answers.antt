use Rattle.std.proofs.Common.{ap, ◌∙◌, append_assoc, arith}
use Rattle.std.proofs.lemmas.List.{length-append}
use Rattle.report.specs.Printed.{ft_fields}
use Rattle.report.proofs.Drafting.{begun, then, whole}
use Rattle.report.proofs.drafts.fault_draft.Goals as goal

pub returns : goal.returns
returns c =
    let line = c.args.fault.now.line in
    let column = c.args.fault.now.column in
    let t0 = begun _ c.new-line.ensures c.word.ensures in
    let t1 = then _ t0 c.put_field.ensures.text in
    let t2 = then _ t1 c.put_field-2.ensures.text in
    let t3 = then _ t2 c.put_field-3.ensures.text in
    whole {line = ft_fields c.number.result line column} (then _ t3 c.push.ensures) (simp append_assoc)
    (simp length-append (omega (arith, c.put_field.ensures.short, c.put_field-2.ensures.short, c.put_field-3.ensures.short)))
    ∙ ap (λ n. ft_fields n line column) c.number.ensures
