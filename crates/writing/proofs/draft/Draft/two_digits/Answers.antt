use Rattle.writing.proofs.Cuts.{then}
use Rattle.writing.proofs.draft.Draft.two_digits.Goals as goal

pub returns : goal.returns
returns c = then c.args.self.now _ _ c.push.ensures c.push-2.ensures
