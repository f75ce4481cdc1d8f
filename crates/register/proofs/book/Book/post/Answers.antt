use Rattle.register.proofs.Bounds.{post_bounded}
use Rattle.register.proofs.Books.{bounded}
use Rattle.register.proofs.book.Book.post.Goals as goal

pub invariant_of-self : goal.invariant_of-self
invariant_of-self c =
    let s = c.args.self.now in
    let b =
    post_bounded s.rows c.post_rows.new.rows s.tally s.period c.args.v (bounded s) c.requires.low
    c.requires.high c.post_rows.ensures.after
    in
    record { room = b.room; counted = b.counted; periods = b.periods; nominal = b.nominal; carried = b.carried; money = b.money }
