use Rattle.std.proofs.Common.{arith}
use Rattle.register.proofs.Bounds.{posted_ticks}
use Rattle.register.proofs.state.Register.make_posting.Goals as goal

pub begin-requires-clause-carried : goal.begin-requires-clause-carried
begin-requires-clause-carried g c =
    let s = c.args.self.now in
    posted_ticks s.book.rows c.post-units.new.self.rows _ s.book.room (omega arith) (omega arith) c.post-units.ensures.after.rows
