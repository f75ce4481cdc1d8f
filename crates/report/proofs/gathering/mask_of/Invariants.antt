use Rattle.std.proofs.Common.{◌≡◌, drop}
use Rattle.report.specs.Parts.{pattern_in, gathered}
use Rattle.report.proofs.gathering.mask_of.Given as goal

abbrev pub invariant-loop-line : goal.invariant-loop-line
invariant-loop-line l = gathered pattern_in (drop l.line-index l.lines) ≡ gathered pattern_in l.lines
