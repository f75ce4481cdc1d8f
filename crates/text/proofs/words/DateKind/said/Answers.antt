use Rattle.std.proofs.Common.{Some, ap, ◌∙◌}
use Rattle.text.specs.Words.{digits_from}
use Rattle.text.proofs.Dated.{day_found, date_by_parts, last_part}
use Rattle.text.proofs.words.DateKind.said.Goals as goal

pub returns : goal.returns
returns c =
    let word = c.args.word.now in
    ap Some (day_found _ _ _ c.number.result c.number.ensures.value)
    ∙ date_by_parts word _ _ _ c.if-word-ne10.false c.if-word-ne45.false c.if-word-ne45-2.false
    c.in_ok-year.ensures.value c.in_ok-month.ensures.value
    (c.in_ok-day.ensures.value ∙ ap (digits_from 10 0) (last_part word c.if-word-ne10.false))
