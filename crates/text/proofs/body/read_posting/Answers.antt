use Rattle.std.proofs.Common.{sym, ◌∙◌}
use Rattle.text.proofs.BodySteps.{handed_on, ended, not_ended}
use Rattle.text.proofs.body.read_posting.Goals as goal

pub returns-in_err-end : goal.returns-in_err-end
returns-in_err-end c =
    handed_on c.from_residual.result _ c.from_residual.ensures.1
    ∙ sym
    (not_ended c.args.fields.now _ _ c.in_err-end.ensures)

pub returns : goal.returns
returns c =
    sym
    (ended c.args.fields.now _ c.in_ok-end.ensures)
