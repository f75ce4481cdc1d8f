use Rattle.report.specs.Parts.{day_in}
use Rattle.report.proofs.closings.Closings.of.Given as goal

abbrev pub ghost-gather : goal.ghost-gather
ghost-gather a = day_in
