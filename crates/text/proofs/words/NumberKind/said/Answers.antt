use Rattle.std.proofs.Common.{length}
use Rattle.text.proofs.Digits.{of_eleven}
use Rattle.text.proofs.words.NumberKind.said.Goals as goal

pub returns-in_default-2-clause-small : goal.returns-in_default-2-clause-small
returns-in_default-2-clause-small c =
    of_eleven c.digits_value.result (length c.args.word.now) c.if-word-gt-MOST_DIGITS.false c.digits_value.ensures.small
