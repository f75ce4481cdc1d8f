use Rattle.report.proofs.DealTable.{Filled}
use Rattle.report.proofs.api.index_deals.Given as goal

abbrev pub invariant-loop-i : goal.invariant-loop-i
invariant-loop-i l = Filled l.lines l.table l.count l.i
