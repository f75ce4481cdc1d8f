use Rattle.std.proofs.Common.{sym, refl, ◌∙◌}
use Rattle.text.proofs.BodySteps.{handed_on}
use Rattle.text.proofs.LineSteps.{body_with_room}
use Rattle.text.proofs.one_line.read_marked.Goals as goal

pub returns-in_err-line : goal.returns-in_err-line
returns-in_err-line c =
    handed_on c.from_residual.result _ c.from_residual.ensures.1
    ∙ sym (body_with_room c.args.standing c.args.mark c.args.fields.now ∙ rw (← c.in_err-line.ensures) refl)

pub returns-then-is_full : goal.returns-then-is_full
returns-then-is_full c =
    sym (body_with_room c.args.standing c.args.mark c.args.fields.now
    ∙ rw (← c.in_ok-line.ensures, ← c.if-is_full.ensures, c.refuses.ensures, c.of_line-start.ensures) refl)

pub returns : goal.returns
returns c =
    sym (body_with_room c.args.standing c.args.mark c.args.fields.now
    ∙ rw (← c.in_ok-line.ensures, ← c.if-is_full.ensures) refl)
