use Rattle.std.proofs.Common.{map, refl}
use Rattle.std.proofs.lemmas.Result.{err_from_is_err_and}
use Rattle.counts.specs.Counting.{asked}
use Rattle.register.specs.Rules.{rows_in_use}
use Rattle.register.specs.Runs.{run}
use Rattle.register.specs.Views.{view_of}
use Rattle.report.specs.Deals.{numbered}
use Rattle.report.specs.Parts.{call_in, leading}
use Rattle.report.specs.Printed.{st_lines}
use Rattle.report.specs.Reports.{call_lines}
use Rattle.report.proofs.Whole.{rows_are, first_stops, both_laid}
use Rattle.report.proofs.calls.lay_played.Goals as goal

pub returns-in_err-lay_calls : goal.returns-in_err-lay_calls
returns-in_err-lay_calls g c =
    let count = asked (g.D.DayCount.counted c.args.register.now.basis) in
    let per = g.D.DayCount.per in
    let v = view_of c.args.register.now in
    let calls = numbered c.args.number (leading call_in c.args.lines.now) in
    let p = err_from_is_err_and c.from_residual.result c.from_residual.ensures.1 in
    rw (p.1, p.2)
    (first_stops (call_lines count per v calls) (st_lines 0 (rows_in_use (run count per v (map (λ c. c.call) calls))))
    (call_lines count per v calls) c.args.page.now c.lay_calls.new.page c.in_err-lay_calls.field-0.0 refl
    c.in_err-lay_calls.ensures.laid)

pub returns : goal.returns
returns g c =
    let count = asked (g.D.DayCount.counted c.args.register.now.basis) in
    let per = g.D.DayCount.per in
    let v = view_of c.args.register.now in
    let lines = leading call_in c.args.lines.now in
    let calls = numbered c.args.number lines in
    both_laid (call_lines count per v calls) (st_lines 0 (rows_in_use (run count per v (map (λ c. c.call) calls))))
    (call_lines count per v calls) (st_lines 0 c.rows.result.now) c.args.page.now c.lay_calls.new.page
    c.lay_rows.new.self c.lay_rows.result refl
    (rows_are count per v (view_of c.lay_calls.new.register) c.args.number lines c.rows.result.now
    c.in_ok-lay_calls.ensures.left c.rows.ensures)
    c.in_ok-lay_calls.ensures.laid c.lay_rows.ensures
