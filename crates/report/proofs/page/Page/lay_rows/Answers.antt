use Rattle.std.proofs.Common.{refl, arith}
use Rattle.std.proofs.lemmas.Result.{err_from_is_err_and}
use Rattle.register.specs.Rows.{zero_row}
use Rattle.report.specs.Printed.{st_line, st_lines}
use Rattle.report.proofs.Onward.{each_more, each_stops, each_done}
use Rattle.report.proofs.page.Page.lay_rows.Goals as goal

pub returns-in_err-lay : goal.returns-in_err-lay
returns-in_err-lay c =
    let p = err_from_is_err_and c.from_residual.result c.from_residual.ensures.1 in
    rw (p.1, p.2)
    (each_stops st_lines st_line zero_row (λ i. refl) (λ i x xs. refl) c.args.rows.now c.loop-holder.holder
    c.args.self.now c.loop-holder.self _ _ _ (omega arith) c.row_draft.ensures c.loop-holder.invariant c.in_err-lay.ensures)

pub loop-holder-preserved : goal.loop-holder-preserved
loop-holder-preserved c =
    each_more st_lines st_line zero_row (λ i. refl) (λ i x xs. refl) c.args.rows.now c.loop-holder.holder
    c.args.self.now c.loop-holder.self _ _ (omega arith) c.row_draft.ensures c.loop-holder.invariant c.in_ok-lay.ensures

pub returns : goal.returns
returns c =
    each_done st_lines st_line zero_row (λ i. refl) (λ i x xs. refl) c.args.rows.now c.loop-holder.holder
    c.args.self.now c.loop-holder.self (omega arith) c.loop-holder.invariant
