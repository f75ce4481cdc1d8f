use Rattle.std.proofs.Common.{sym, ◌∙◌}
use Rattle.text.specs.Kinds.{number}
use Rattle.text.proofs.BodySteps.{handed_on, taken, refused, ended, not_ended}
use Rattle.text.proofs.body.read_redemption.Goals as goal

pub returns-in_err-holder : goal.returns-in_err-holder
returns-in_err-holder c =
    handed_on c.from_residual.result _ c.from_residual.ensures.1
    ∙ sym
    (refused number _ c.args.fields.now _ _ c.in_err-holder.ensures.read)

pub returns-in_err-amount : goal.returns-in_err-amount
returns-in_err-amount c =
    handed_on c.from_residual-in_err-amount.result _ c.from_residual-in_err-amount.ensures.1
    ∙ sym
    (taken number _ c.args.fields.now c.next_field.new.self c.in_ok-holder.holder _ c.in_ok-holder.ensures.read c.in_ok-holder.ensures.same_line
    ∙ refused number _ c.next_field.new.self _ _ c.in_err-amount.ensures.read)

pub returns-in_err-end : goal.returns-in_err-end
returns-in_err-end c =
    handed_on c.from_residual-in_err-end.result _ c.from_residual-in_err-end.ensures.1
    ∙ sym
    (taken number _ c.args.fields.now c.next_field.new.self c.in_ok-holder.holder _ c.in_ok-holder.ensures.read c.in_ok-holder.ensures.same_line
    ∙ taken number _ c.next_field.new.self c.next_field-2.new.self c.in_ok-amount.amount _ c.in_ok-amount.ensures.read c.in_ok-amount.ensures.same_line
    ∙ not_ended c.next_field-2.new.self _ _ c.in_err-end.ensures)

pub returns : goal.returns
returns c =
    sym
    (taken number _ c.args.fields.now c.next_field.new.self c.in_ok-holder.holder _ c.in_ok-holder.ensures.read c.in_ok-holder.ensures.same_line
    ∙ taken number _ c.next_field.new.self c.next_field-2.new.self c.in_ok-amount.amount _ c.in_ok-amount.ensures.read c.in_ok-amount.ensures.same_line
    ∙ ended c.next_field-2.new.self _ c.in_ok-end.ensures)
