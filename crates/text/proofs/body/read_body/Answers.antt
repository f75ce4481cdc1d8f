use Rattle.std.proofs.Common.{rules, ◌∙◌}
use Rattle.text.specs.Kinds.{date, number, pattern, offset}
use Rattle.text.specs.Lines.{line_from}
use Rattle.text.specs.declared.mark.Mark.TheVariants as mark
use Rattle.text.proofs.BodySteps.{one_value, as_read}
use Rattle.text.proofs.body.read_body.Goals as goal

pub returns-in-Pattern : goal.returns-in-Pattern
returns-in-Pattern c =
    rw c.in-Pattern.is
    (one_value pattern c.args.fields.now (line_from mark.Pattern) c.lone_value.result c.map.result c.lone_value.ensures (search rules))

pub returns-in-ClosedDay : goal.returns-in-ClosedDay
returns-in-ClosedDay c =
    rw c.in-ClosedDay.is
    (one_value date c.args.fields.now (line_from mark.ClosedDay) c.lone_value-in-ClosedDay.result c.map-in-ClosedDay.result c.lone_value-in-ClosedDay.ensures (search rules))

pub returns-in-Offset : goal.returns-in-Offset
returns-in-Offset c =
    rw c.in-Offset.is
    (one_value offset c.args.fields.now (line_from mark.Offset) c.lone_value-in-Offset.result c.map-in-Offset.result c.lone_value-in-Offset.ensures (search rules))

pub returns-in-Holding : goal.returns-in-Holding
returns-in-Holding c =
    rw c.in-Holding.is
    (one_value number c.args.fields.now (line_from mark.Holding) c.lone_field.result c.map-in-Holding.result (c.lone_field.ensures ∙ as_read _) (search rules))

pub returns-in-Advance : goal.returns-in-Advance
returns-in-Advance c =
    rw c.in-Advance.is
    (one_value date c.args.fields.now (line_from mark.Advance) c.lone_value-in-Advance.result c.map-in-Advance.result c.lone_value-in-Advance.ensures (search rules))

pub returns-in-Payment : goal.returns-in-Payment
returns-in-Payment c =
    rw c.in-Payment.is
    (one_value number c.args.fields.now (line_from mark.Payment) c.lone_field-in-Payment.result c.map-in-Payment.result (c.lone_field-in-Payment.ensures ∙ as_read _) (search rules))
