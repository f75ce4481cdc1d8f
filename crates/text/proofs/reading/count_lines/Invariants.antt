use Rattle.std.proofs.Common.{◌≡◌, count_by, eqb, take}
use Rattle.text.specs.Cuts.{line_end}
use Rattle.text.proofs.reading.count_lines.Given as goal

abbrev pub invariant-loop-byte : goal.invariant-loop-byte
invariant-loop-byte l = l.count ≡ count_by (λ b. eqb b line_end) (take l.byte-index l.text)
