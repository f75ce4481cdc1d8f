use Rattle.std.proofs.Common.{sym, refl, ◌∙◌}
use Rattle.text.specs.Kinds.{basis, convention, date, number, stub}
use Rattle.text.proofs.BodySteps.{handed_on, taken, refused, ended, not_ended}
use Rattle.text.proofs.body.read_deal.Goals as goal

pub returns-in_err-start : goal.returns-in_err-start
returns-in_err-start c =
    handed_on c.from_residual.result _ c.from_residual.ensures.1
    ∙ sym
    (refused date _ c.args.fields.now _ _ c.in_err-start.ensures.read)

pub returns-in_err-end : goal.returns-in_err-end
returns-in_err-end c =
    handed_on c.from_residual-in_err-end.result _ c.from_residual-in_err-end.ensures.1
    ∙ sym
    (taken date _ c.args.fields.now c.next_field.new.self c.in_ok-start.start _ c.in_ok-start.ensures.read c.in_ok-start.ensures.same_line
    ∙ refused date _ c.next_field.new.self _ _ c.in_err-end.ensures.read)

pub returns-in_err-months : goal.returns-in_err-months
returns-in_err-months c =
    handed_on c.from_residual-in_err-months.result _ c.from_residual-in_err-months.ensures.1
    ∙ sym
    (taken date _ c.args.fields.now c.next_field.new.self c.in_ok-start.start _ c.in_ok-start.ensures.read c.in_ok-start.ensures.same_line
    ∙ taken date _ c.next_field.new.self c.next_field-2.new.self c.in_ok-end.end _ c.in_ok-end.ensures.read c.in_ok-end.ensures.same_line
    ∙ refused number _ c.next_field-2.new.self _ _ c.in_err-months.ensures.read)

pub returns-in_err-stub : goal.returns-in_err-stub
returns-in_err-stub c =
    handed_on c.from_residual-in_err-stub.result _ c.from_residual-in_err-stub.ensures.1
    ∙ sym
    (taken date _ c.args.fields.now c.next_field.new.self c.in_ok-start.start _ c.in_ok-start.ensures.read c.in_ok-start.ensures.same_line
    ∙ taken date _ c.next_field.new.self c.next_field-2.new.self c.in_ok-end.end _ c.in_ok-end.ensures.read c.in_ok-end.ensures.same_line
    ∙ taken number _ c.next_field-2.new.self c.next_field-3.new.self c.in_ok-months.months _ c.in_ok-months.ensures.read c.in_ok-months.ensures.same_line
    ∙ refused stub _ c.next_field-3.new.self _ _ c.in_err-stub.ensures.read)

pub returns-in_err-convention : goal.returns-in_err-convention
returns-in_err-convention c =
    handed_on c.from_residual-in_err-convention.result _ c.from_residual-in_err-convention.ensures.1
    ∙ sym
    (taken date _ c.args.fields.now c.next_field.new.self c.in_ok-start.start _ c.in_ok-start.ensures.read c.in_ok-start.ensures.same_line
    ∙ taken date _ c.next_field.new.self c.next_field-2.new.self c.in_ok-end.end _ c.in_ok-end.ensures.read c.in_ok-end.ensures.same_line
    ∙ taken number _ c.next_field-2.new.self c.next_field-3.new.self c.in_ok-months.months _ c.in_ok-months.ensures.read c.in_ok-months.ensures.same_line
    ∙ taken stub _ c.next_field-3.new.self c.next_field-4.new.self c.in_ok-stub.stub _ c.in_ok-stub.ensures.read c.in_ok-stub.ensures.same_line
    ∙ refused convention _ c.next_field-4.new.self _ _ c.in_err-convention.ensures.read)

pub returns-in_err-basis : goal.returns-in_err-basis
returns-in_err-basis c =
    handed_on c.from_residual-in_err-basis.result _ c.from_residual-in_err-basis.ensures.1
    ∙ sym
    (taken date _ c.args.fields.now c.next_field.new.self c.in_ok-start.start _ c.in_ok-start.ensures.read c.in_ok-start.ensures.same_line
    ∙ taken date _ c.next_field.new.self c.next_field-2.new.self c.in_ok-end.end _ c.in_ok-end.ensures.read c.in_ok-end.ensures.same_line
    ∙ taken number _ c.next_field-2.new.self c.next_field-3.new.self c.in_ok-months.months _ c.in_ok-months.ensures.read c.in_ok-months.ensures.same_line
    ∙ taken stub _ c.next_field-3.new.self c.next_field-4.new.self c.in_ok-stub.stub _ c.in_ok-stub.ensures.read c.in_ok-stub.ensures.same_line
    ∙ taken convention _ c.next_field-4.new.self c.next_field-5.new.self c.in_ok-convention.convention _ c.in_ok-convention.ensures.read c.in_ok-convention.ensures.same_line
    ∙ refused basis _ c.next_field-5.new.self _ _ c.in_err-basis.ensures.read)

pub returns-in_err-rate : goal.returns-in_err-rate
returns-in_err-rate c =
    handed_on c.from_residual-in_err-rate.result _ c.from_residual-in_err-rate.ensures.1
    ∙ sym
    (taken date _ c.args.fields.now c.next_field.new.self c.in_ok-start.start _ c.in_ok-start.ensures.read c.in_ok-start.ensures.same_line
    ∙ taken date _ c.next_field.new.self c.next_field-2.new.self c.in_ok-end.end _ c.in_ok-end.ensures.read c.in_ok-end.ensures.same_line
    ∙ taken number _ c.next_field-2.new.self c.next_field-3.new.self c.in_ok-months.months _ c.in_ok-months.ensures.read c.in_ok-months.ensures.same_line
    ∙ taken stub _ c.next_field-3.new.self c.next_field-4.new.self c.in_ok-stub.stub _ c.in_ok-stub.ensures.read c.in_ok-stub.ensures.same_line
    ∙ taken convention _ c.next_field-4.new.self c.next_field-5.new.self c.in_ok-convention.convention _ c.in_ok-convention.ensures.read c.in_ok-convention.ensures.same_line
    ∙ taken basis _ c.next_field-5.new.self c.next_field-6.new.self c.in_ok-basis.basis _ c.in_ok-basis.ensures.read c.in_ok-basis.ensures.same_line
    ∙ refused number _ c.next_field-6.new.self _ _ c.in_err-rate.ensures.read)

pub returns-in_err-end-2 : goal.returns-in_err-end-2
returns-in_err-end-2 c =
    handed_on c.from_residual-in_err-end-2.result _ c.from_residual-in_err-end-2.ensures.1
    ∙ sym
    (taken date _ c.args.fields.now c.next_field.new.self c.in_ok-start.start _ c.in_ok-start.ensures.read c.in_ok-start.ensures.same_line
    ∙ taken date _ c.next_field.new.self c.next_field-2.new.self c.in_ok-end.end _ c.in_ok-end.ensures.read c.in_ok-end.ensures.same_line
    ∙ taken number _ c.next_field-2.new.self c.next_field-3.new.self c.in_ok-months.months _ c.in_ok-months.ensures.read c.in_ok-months.ensures.same_line
    ∙ taken stub _ c.next_field-3.new.self c.next_field-4.new.self c.in_ok-stub.stub _ c.in_ok-stub.ensures.read c.in_ok-stub.ensures.same_line
    ∙ taken convention _ c.next_field-4.new.self c.next_field-5.new.self c.in_ok-convention.convention _ c.in_ok-convention.ensures.read c.in_ok-convention.ensures.same_line
    ∙ taken basis _ c.next_field-5.new.self c.next_field-6.new.self c.in_ok-basis.basis _ c.in_ok-basis.ensures.read c.in_ok-basis.ensures.same_line
    ∙ taken number _ c.next_field-6.new.self c.next_field-7.new.self c.in_ok-rate.rate _ c.in_ok-rate.ensures.read c.in_ok-rate.ensures.same_line
    ∙ not_ended c.next_field-7.new.self _ _ c.in_err-end-2.ensures)

pub returns-in_err-start-2 : goal.returns-in_err-start-2
returns-in_err-start-2 c =
    handed_on c.from_residual-in_err-start-2.result _ c.from_residual-in_err-start-2.ensures.1
    ∙ sym
    (taken date _ c.args.fields.now c.next_field.new.self c.in_ok-start.start _ c.in_ok-start.ensures.read c.in_ok-start.ensures.same_line
    ∙ taken date _ c.next_field.new.self c.next_field-2.new.self c.in_ok-end.end _ c.in_ok-end.ensures.read c.in_ok-end.ensures.same_line
    ∙ taken number _ c.next_field-2.new.self c.next_field-3.new.self c.in_ok-months.months _ c.in_ok-months.ensures.read c.in_ok-months.ensures.same_line
    ∙ taken stub _ c.next_field-3.new.self c.next_field-4.new.self c.in_ok-stub.stub _ c.in_ok-stub.ensures.read c.in_ok-stub.ensures.same_line
    ∙ taken convention _ c.next_field-4.new.self c.next_field-5.new.self c.in_ok-convention.convention _ c.in_ok-convention.ensures.read c.in_ok-convention.ensures.same_line
    ∙ taken basis _ c.next_field-5.new.self c.next_field-6.new.self c.in_ok-basis.basis _ c.in_ok-basis.ensures.read c.in_ok-basis.ensures.same_line
    ∙ taken number _ c.next_field-6.new.self c.next_field-7.new.self c.in_ok-rate.rate _ c.in_ok-rate.ensures.read c.in_ok-rate.ensures.same_line
    ∙ ended c.next_field-7.new.self _ c.in_ok-end-2.ensures
    ∙ rw (← c.in_err-start-2.ensures) refl)

pub returns-in_err-end-3 : goal.returns-in_err-end-3
returns-in_err-end-3 c =
    handed_on c.from_residual-in_err-end-3.result _ c.from_residual-in_err-end-3.ensures.1
    ∙ sym
    (taken date _ c.args.fields.now c.next_field.new.self c.in_ok-start.start _ c.in_ok-start.ensures.read c.in_ok-start.ensures.same_line
    ∙ taken date _ c.next_field.new.self c.next_field-2.new.self c.in_ok-end.end _ c.in_ok-end.ensures.read c.in_ok-end.ensures.same_line
    ∙ taken number _ c.next_field-2.new.self c.next_field-3.new.self c.in_ok-months.months _ c.in_ok-months.ensures.read c.in_ok-months.ensures.same_line
    ∙ taken stub _ c.next_field-3.new.self c.next_field-4.new.self c.in_ok-stub.stub _ c.in_ok-stub.ensures.read c.in_ok-stub.ensures.same_line
    ∙ taken convention _ c.next_field-4.new.self c.next_field-5.new.self c.in_ok-convention.convention _ c.in_ok-convention.ensures.read c.in_ok-convention.ensures.same_line
    ∙ taken basis _ c.next_field-5.new.self c.next_field-6.new.self c.in_ok-basis.basis _ c.in_ok-basis.ensures.read c.in_ok-basis.ensures.same_line
    ∙ taken number _ c.next_field-6.new.self c.next_field-7.new.self c.in_ok-rate.rate _ c.in_ok-rate.ensures.read c.in_ok-rate.ensures.same_line
    ∙ ended c.next_field-7.new.self _ c.in_ok-end-2.ensures
    ∙ rw (← c.in_ok-start-2.ensures, ← c.in_err-end-3.ensures) refl)

pub returns : goal.returns
returns c =
    sym
    (taken date _ c.args.fields.now c.next_field.new.self c.in_ok-start.start _ c.in_ok-start.ensures.read c.in_ok-start.ensures.same_line
    ∙ taken date _ c.next_field.new.self c.next_field-2.new.self c.in_ok-end.end _ c.in_ok-end.ensures.read c.in_ok-end.ensures.same_line
    ∙ taken number _ c.next_field-2.new.self c.next_field-3.new.self c.in_ok-months.months _ c.in_ok-months.ensures.read c.in_ok-months.ensures.same_line
    ∙ taken stub _ c.next_field-3.new.self c.next_field-4.new.self c.in_ok-stub.stub _ c.in_ok-stub.ensures.read c.in_ok-stub.ensures.same_line
    ∙ taken convention _ c.next_field-4.new.self c.next_field-5.new.self c.in_ok-convention.convention _ c.in_ok-convention.ensures.read c.in_ok-convention.ensures.same_line
    ∙ taken basis _ c.next_field-5.new.self c.next_field-6.new.self c.in_ok-basis.basis _ c.in_ok-basis.ensures.read c.in_ok-basis.ensures.same_line
    ∙ taken number _ c.next_field-6.new.self c.next_field-7.new.self c.in_ok-rate.rate _ c.in_ok-rate.ensures.read c.in_ok-rate.ensures.same_line
    ∙ ended c.next_field-7.new.self _ c.in_ok-end-2.ensures
    ∙ rw (← c.in_ok-start-2.ensures, ← c.in_ok-end-3.ensures) refl)
