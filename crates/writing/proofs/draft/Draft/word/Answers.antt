use Rattle.writing.proofs.Cuts.{word_more}
use Rattle.writing.proofs.Filled.{draft_short}
use Rattle.writing.proofs.draft.Draft.word.Goals as goal

pub loop-byte-init : goal.loop-byte-init
loop-byte-init c = rw (← c.self.view_is) (draft_short c.self.inside.bytes c.self.invariant)

pub loop-byte-preserved : goal.loop-byte-preserved
loop-byte-preserved c =
    word_more c.loop-byte.self c.args.self.now _ c.args.bytes.now c.loop-byte.byte-index
    c.loop-byte-test.true c.loop-byte.invariant c.push.ensures
