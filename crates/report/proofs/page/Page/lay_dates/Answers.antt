use Rattle.std.proofs.Common.{refl, arith}
use Rattle.std.proofs.lemmas.Result.{err_from_is_err_and}
use Rattle.report.specs.Printed.{sc_line, sc_lines}
use Rattle.report.proofs.Onward.{each_more, each_stops, each_done}
use Rattle.report.proofs.page.Page.lay_dates.Goals as goal

pub returns-in_err-lay : goal.returns-in_err-lay
returns-in_err-lay c =
    let p = err_from_is_err_and c.from_residual.result c.from_residual.ensures.1 in
    rw (p.1, p.2)
    (each_stops sc_lines sc_line 0 (λ i. refl) (λ i x xs. refl) c.args.days.now c.loop-index.index
    c.args.self.now c.loop-index.self _ _ _ (omega arith) c.date_draft.ensures c.loop-index.invariant c.in_err-lay.ensures)

pub loop-index-preserved : goal.loop-index-preserved
loop-index-preserved c =
    each_more sc_lines sc_line 0 (λ i. refl) (λ i x xs. refl) c.args.days.now c.loop-index.index
    c.args.self.now c.loop-index.self _ _ (omega arith) c.date_draft.ensures c.loop-index.invariant c.in_ok-lay.ensures

pub returns : goal.returns
returns c =
    each_done sc_lines sc_line 0 (λ i. refl) (λ i x xs. refl) c.args.days.now c.loop-index.index
    c.args.self.now c.loop-index.self (omega arith) c.loop-index.invariant
