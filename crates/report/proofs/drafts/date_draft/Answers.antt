use Rattle.std.proofs.Common.{append_assoc, arith}
use Rattle.std.proofs.lemmas.List.{length-append}
use Rattle.writing.proofs.Dated.{spelled_long}
use Rattle.report.proofs.Drafting.{begun, then, whole}
use Rattle.report.proofs.drafts.date_draft.Goals as goal

pub returns : goal.returns
returns c =
    let t0 = begun _ c.new-line.ensures c.word.ensures in
    let t1 = then _ t0 c.put_field.ensures.text in
    let t2 = then _ t1 c.push.ensures in
    let t3 = then _ t2 (c.date.ensures.inside c.requires) in
    whole (then _ t3 c.push-2.ensures) (simp append_assoc)
    (simp length-append (omega (arith, c.put_field.ensures.short, spelled_long c.args.day)))
