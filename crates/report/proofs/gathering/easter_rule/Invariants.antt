use Rattle.report.specs.Parts.{offset_in}
use Rattle.report.proofs.gathering.easter_rule.Given as goal

abbrev pub ghost-gather : goal.ghost-gather
ghost-gather a = offset_in
