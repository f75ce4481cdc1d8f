use Rattle.std.proofs.Common.{arith}
use Rattle.counts.specs.Places.{european_order}
use Rattle.counts.proofs.thirty.european_within.Goals as goal

pub overflow_sub-result : goal.overflow_sub-result
overflow_sub-result c = let order = european_order c.args.a c.args.b c.requires.0 c.requires.1 in omega arith
