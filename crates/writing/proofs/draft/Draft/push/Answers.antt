use Rattle.writing.proofs.Filled.{pushed}
use Rattle.writing.proofs.draft.Draft.push.Goals as goal

pub returns : goal.returns
returns c =
    rw (← c.self.view_is)
    (pushed c.self.inside.bytes c.args.byte c.push.result _ c.self.invariant c.push.ensures.room c.push.ensures.full)
