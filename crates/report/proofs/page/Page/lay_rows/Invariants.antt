use Rattle.std.proofs.Common.{drop}
use Rattle.report.specs.Printed.{st_lines}
use Rattle.report.proofs.Onward.{Onward}
use Rattle.report.proofs.page.Page.lay_rows.Given as goal

abbrev pub invariant-loop-holder : goal.invariant-loop-holder
invariant-loop-holder l =
    Onward (st_lines l.holder (drop l.holder l.rows)) l.self (st_lines 0 l.rows) l.initial.self
