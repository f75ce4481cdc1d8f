use Rattle.text.proofs.LineSteps.{line_allowed, line_forbidden, line_unmarked}
use Rattle.text.proofs.one_line.read_line.Goals as goal

pub returns-in_default : goal.returns-in_default
returns-in_default c =
    let made = c.of_line-fields in
    rw (c.refuses-bad_mark.ensures, c.of_line.ensures)
    (line_unmarked c.args.standing c.args.number c.args.bytes.now made.result c.read_mark.new.fields
    made.ensures.words c.in_default.ensures.taken)

pub returns-then-not-allows : goal.returns-then-not-allows
returns-then-not-allows c =
    let made = c.of_line-fields in
    rw (c.refuses-bad_mark.ensures, c.of_line.ensures)
    (line_forbidden c.args.standing c.args.number c.args.bytes.now made.result c.read_mark.new.fields
    made.ensures.words c.in-Some.mark c.in-Some.ensures.taken c.if-not-allows.ensures)

pub returns : goal.returns
returns c =
    let made = c.of_line-fields in
    line_allowed c.args.standing c.args.number c.args.bytes.now made.result c.read_mark.new.fields
    made.ensures.words c.in-Some.mark c.read_marked.result c.in-Some.ensures.taken
    made.ensures.place c.read_mark.ensures.same_line c.if-not-allows.ensures c.read_marked.ensures
