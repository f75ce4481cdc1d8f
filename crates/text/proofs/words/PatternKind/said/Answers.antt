use Rattle.std.proofs.Common.{◌∙◌}
use Rattle.text.proofs.Digits.{pattern_by_bits}
use Rattle.text.proofs.words.PatternKind.said.Goals as goal

pub returns-in_err-mask : goal.returns-in_err-mask
returns-in_err-mask c =
    c.from_residual.ensures ∙ c.in_err-mask.ensures.value ∙ pattern_by_bits c.args.word.now c.if-word-ne7.false

pub returns : goal.returns
returns c = c.in_ok-mask.ensures.value ∙ pattern_by_bits c.args.word.now c.if-word-ne7.false
