use Rattle.std.proofs.Common.{[], ◌∷◌, ◌∙◌, arith}
use Rattle.report.specs.Printed.{space}
use Rattle.writing.proofs.Numerals.{decimal_short}
use Rattle.writing.proofs.Cuts.{cut_more}
use Rattle.report.proofs.drafts.put_field.Goals as goal

pub returns : goal.returns
returns c =
    record {
      text = c.number.ensures ∙ cut_more 128 _ (space ∷ []) _ _ c.push.ensures;
      short = omega (arith, decimal_short c.args.n c.ranges.n.fits);
    }
