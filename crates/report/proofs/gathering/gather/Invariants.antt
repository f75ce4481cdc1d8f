use Rattle.report.proofs.Finds.{Copied}
use Rattle.report.proofs.gathering.gather.Given as goal

abbrev pub invariant-loop-line : goal.invariant-loop-line
invariant-loop-line g l = Copied g.found l.lines l.table l.count l.line-index
