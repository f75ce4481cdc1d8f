use Rattle.std.proofs.Common.{sym, ◌∙◌}
use Rattle.text.specs.Kinds.{number}
use Rattle.text.proofs.BodySteps.{handed_on, taken, refused, ended, not_ended}
use Rattle.text.proofs.body.read_transfer.Goals as goal

pub returns-in_err-from : goal.returns-in_err-from
returns-in_err-from c =
    handed_on c.from_residual.result _ c.from_residual.ensures.1
    ∙ sym
    (refused number _ c.args.fields.now _ _ c.in_err-from.ensures.read)

pub returns-in_err-to : goal.returns-in_err-to
returns-in_err-to c =
    handed_on c.from_residual-in_err-to.result _ c.from_residual-in_err-to.ensures.1
    ∙ sym
    (taken number _ c.args.fields.now c.next_field.new.self c.in_ok-from.from _ c.in_ok-from.ensures.read c.in_ok-from.ensures.same_line
    ∙ refused number _ c.next_field.new.self _ _ c.in_err-to.ensures.read)

pub returns-in_err-amount : goal.returns-in_err-amount
returns-in_err-amount c =
    handed_on c.from_residual-in_err-amount.result _ c.from_residual-in_err-amount.ensures.1
    ∙ sym
    (taken number _ c.args.fields.now c.next_field.new.self c.in_ok-from.from _ c.in_ok-from.ensures.read c.in_ok-from.ensures.same_line
    ∙ taken number _ c.next_field.new.self c.next_field-2.new.self c.in_ok-to.to _ c.in_ok-to.ensures.read c.in_ok-to.ensures.same_line
    ∙ refused number _ c.next_field-2.new.self _ _ c.in_err-amount.ensures.read)

pub returns-in_err-end : goal.returns-in_err-end
returns-in_err-end c =
    handed_on c.from_residual-in_err-end.result _ c.from_residual-in_err-end.ensures.1
    ∙ sym
    (taken number _ c.args.fields.now c.next_field.new.self c.in_ok-from.from _ c.in_ok-from.ensures.read c.in_ok-from.ensures.same_line
    ∙ taken number _ c.next_field.new.self c.next_field-2.new.self c.in_ok-to.to _ c.in_ok-to.ensures.read c.in_ok-to.ensures.same_line
    ∙ taken number _ c.next_field-2.new.self c.next_field-3.new.self c.in_ok-amount.amount _ c.in_ok-amount.ensures.read c.in_ok-amount.ensures.same_line
    ∙ not_ended c.next_field-3.new.self _ _ c.in_err-end.ensures)

pub returns : goal.returns
returns c =
    sym
    (taken number _ c.args.fields.now c.next_field.new.self c.in_ok-from.from _ c.in_ok-from.ensures.read c.in_ok-from.ensures.same_line
    ∙ taken number _ c.next_field.new.self c.next_field-2.new.self c.in_ok-to.to _ c.in_ok-to.ensures.read c.in_ok-to.ensures.same_line
    ∙ taken number _ c.next_field-2.new.self c.next_field-3.new.self c.in_ok-amount.amount _ c.in_ok-amount.ensures.read c.in_ok-amount.ensures.same_line
    ∙ ended c.next_field-3.new.self _ c.in_ok-end.ensures)
