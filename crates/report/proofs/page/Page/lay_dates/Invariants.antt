use Rattle.std.proofs.Common.{drop}
use Rattle.report.specs.Printed.{sc_lines}
use Rattle.report.proofs.Onward.{Onward}
use Rattle.report.proofs.page.Page.lay_dates.Given as goal

abbrev pub invariant-loop-index : goal.invariant-loop-index
invariant-loop-index l =
    Onward (sc_lines l.index (drop l.index l.days)) l.self (sc_lines 0 l.days) l.initial.self
