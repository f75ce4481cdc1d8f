use Rattle.std.proofs.Common.{length}
use Rattle.text.proofs.Progress.{Progress}
use Rattle.text.proofs.reading.fill.Given as goal

abbrev pub invariant-loop-bytes : goal.invariant-loop-bytes
invariant-loop-bytes l = Progress l.text l.initial.lines l.standing l.count l.rest l.lines

abbrev pub decreases-loop-bytes : goal.decreases-loop-bytes
decreases-loop-bytes l = length l.rest
