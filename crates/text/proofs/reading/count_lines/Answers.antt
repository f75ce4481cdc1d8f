use Rattle.std.proofs.Common.{◌≡◌, count_by, eqb, sym, ◌∙◌, arith}
use Rattle.std.proofs.lemmas.Grind.{common_steps}
use Rattle.std.proofs.lemmas.List.Sums.{length-filter}
use Rattle.text.specs.Cuts.{line_end}
use Rattle.text.proofs.LineCuts.{lines_counted}
use Rattle.text.proofs.reading.count_lines.Goals as goal

pub returns : goal.returns
returns c =
    let text = c.args.text.now in
    let counted : c.loop-byte.count ≡ count_by (λ b. eqb b line_end) text = grind (arith, common_steps) in
    counted ∙ sym (length-filter (λ b. eqb b line_end) text) ∙ lines_counted text
