use Rattle.std.proofs.Common.{◌+◌, get_or, drop, Some, None, sym, ◌∙◌, subst, arith}
use Rattle.std.proofs.lemmas.Result.{err_from_is_err_and}
use Rattle.counts.specs.Counting.{asked}
use Rattle.register.specs.Views.{view_of}
use Rattle.text.specs.declared.line.Line.TheVariants.{Posting}
use Rattle.report.specs.Deals.{numbered}
use Rattle.report.specs.Parts.{part, call_in, leading}
use Rattle.report.specs.Printed.{answer_line}
use Rattle.report.specs.Reports.{call_lines, Called, seen}
use Rattle.report.proofs.Calling.{call_step, call_ends, call_none}
use Rattle.report.proofs.Onward.{onward_more, onward_stops, onward_done}
use Rattle.report.proofs.calls.lay_calls.Goals as goal

pub returns-in_default : goal.returns-in_default
returns-in_default g c =
    let lines = c.args.lines.now in
    let i = c.loop-i.i in
    let count = asked (g.D.DayCount.counted c.args.register.now.basis) in
    let v = view_of c.loop-i.register in
    let v' = view_of c.call_on.new.register in
    let called =
    subst (λ b. Called (asked (g.D.DayCount.counted b)) g.D.DayCount.per v (call_in (part (get_or lines i Posting))) v' None)
    c.loop-i.invariant.0 c.in_default.ensures.called
    in
    let ends = call_ends count g.D.DayCount.per v v' lines c.args.number i (omega arith) called in
    record {
      laid =
          onward_done _ c.loop-i.page
          (call_lines count g.D.DayCount.per (view_of c.args.register.now) (numbered c.args.number (leading call_in lines)))
          c.args.page.now ends.0.lines c.loop-i.invariant.1;
      left = ends.1 ∙ (sym ends.0.end ∙ c.loop-i.invariant.2);
    }

pub returns-in_err-lay-clause-laid : goal.returns-in_err-lay-clause-laid
returns-in_err-lay-clause-laid g c =
    let lines = c.args.lines.now in
    let i = c.loop-i.i in
    let count = asked (g.D.DayCount.counted c.args.register.now.basis) in
    let v = view_of c.loop-i.register in
    let v' = view_of c.call_on.new.register in
    let answer = c.in-Some.answer in
    let called =
    subst (λ b. Called (asked (g.D.DayCount.counted b)) g.D.DayCount.per v (call_in (part (get_or lines i Posting))) v' (Some answer))
    c.loop-i.invariant.0 c.in-Some.ensures.called
    in
    let step = call_step count g.D.DayCount.per v v' lines c.args.number i answer (omega arith) called in
    let p = err_from_is_err_and c.from_residual.result c.from_residual.ensures.1 in
    rw (p.1, p.2)
    (onward_stops _ (answer_line (seen answer) (c.args.number + i))
    (call_lines count g.D.DayCount.per v' (numbered (c.args.number + (i + 1)) (leading call_in (drop (i + 1) lines))))
    c.loop-i.page
    (call_lines count g.D.DayCount.per (view_of c.args.register.now) (numbered c.args.number (leading call_in lines)))
    c.args.page.now _ _ _ step.0 c.answer_draft.ensures c.loop-i.invariant.1 c.in_err-lay.ensures)

pub loop-i-preserved : goal.loop-i-preserved
loop-i-preserved g c =
    let lines = c.args.lines.now in
    let i = c.loop-i.i in
    let count = asked (g.D.DayCount.counted c.args.register.now.basis) in
    let v = view_of c.loop-i.register in
    let v' = view_of c.call_on.new.register in
    let answer = c.in-Some.answer in
    let called =
    subst (λ b. Called (asked (g.D.DayCount.counted b)) g.D.DayCount.per v (call_in (part (get_or lines i Posting))) v' (Some answer))
    c.loop-i.invariant.0 c.in-Some.ensures.called
    in
    let step = call_step count g.D.DayCount.per v v' lines c.args.number i answer (omega arith) called in (
      c.call_on.ensures.basis ∙ c.loop-i.invariant.0,
      onward_more _ (answer_line (seen answer) (c.args.number + i))
          (call_lines count g.D.DayCount.per v' (numbered (c.args.number + (i + 1)) (leading call_in (drop (i + 1) lines))))
          c.loop-i.page
          (call_lines count g.D.DayCount.per (view_of c.args.register.now) (numbered c.args.number (leading call_in lines)))
          c.args.page.now _ _ step.0 c.answer_draft.ensures c.loop-i.invariant.1 c.in_ok-lay.ensures,
      sym step.1 ∙ c.loop-i.invariant.2,
    )

pub returns : goal.returns
returns g c =
    let lines = c.args.lines.now in
    let i = c.loop-i.i in
    let count = asked (g.D.DayCount.counted c.args.register.now.basis) in
    let v = view_of c.loop-i.register in
    let over = call_none count g.D.DayCount.per v lines c.args.number i (omega arith) in
    record {
      laid =
          onward_done _ c.loop-i.page
          (call_lines count g.D.DayCount.per (view_of c.args.register.now) (numbered c.args.number (leading call_in lines)))
          c.args.page.now over.lines c.loop-i.invariant.1;
      left = sym over.end ∙ c.loop-i.invariant.2;
    }
