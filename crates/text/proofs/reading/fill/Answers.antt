use Rattle.std.proofs.Common.{length, sym, ap, ◌∙◌}
use Rattle.std.proofs.lemmas.Result.{err_from_is_err_and}
use Rattle.std.proofs.lemmas.Bool.{eqb-true, eqb-false}
use Rattle.text.specs.Marks.{next}
use Rattle.text.proofs.Progress.{unended, finished, faulted, place_left, stepped}
use Rattle.text.proofs.reading.fill.Goals as goal

pub returns-in_err-line : goal.returns-in_err-line
returns-in_err-line c =
    let l = c.loop-bytes in
    let p = err_from_is_err_and c.from_residual.result c.from_residual.ensures.1 in
    rw (p.1, p.2)
    (faulted c.args.text.now c.args.lines.now l.standing l.count l.rest.now l.lines l.invariant
    c.in-Some.bytes.now c.in-Some.later.now c.in-Some.ensures _ c.requires.short c.in_err-line.ensures)

pub bounds-lines-count : goal.bounds-lines-count
bounds-lines-count c =
    let l = c.loop-bytes in
    place_left c.args.text.now c.args.lines.now l.standing l.count l.rest.now l.lines l.invariant
    c.in-Some.bytes.now c.in-Some.later.now c.in-Some.ensures

pub loop-bytes-preserved : goal.loop-bytes-preserved
loop-bytes-preserved c =
    let l = c.loop-bytes in
    stepped c.args.text.now c.args.lines.now l.standing l.count l.rest.now l.lines l.invariant
    c.in-Some.bytes.now c.in-Some.later.now c.in-Some.ensures c.in_ok-line.line
    c.next-standing.result c.in_ok-line.ensures (c.next-standing.ensures ∙ ap (next l.standing) c.mark.ensures)

pub returns-then-not-is_empty : goal.returns-then-not-is_empty
returns-then-not-is_empty c =
    let l = c.loop-bytes in
    rw (c.refuses.ensures, c.of_line.ensures)
    (unended c.args.text.now c.args.lines.now l.standing l.count l.rest.now l.lines l.invariant
    c.requires.short c.in_default.ensures (eqb-false (length l.rest.now) 0 (sym c.if-not-is_empty.ensures)))

pub returns : goal.returns
returns c =
    let l = c.loop-bytes in
    finished c.args.text.now c.args.lines.now l.standing l.count l.rest.now l.lines l.invariant
    c.requires.short (eqb-true (length l.rest.now) 0 (sym c.if-not-is_empty.ensures))
