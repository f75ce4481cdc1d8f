use Rattle.register.proofs.Bounds.{accrue_bounded}
use Rattle.register.proofs.Books.{bounded}
use Rattle.register.proofs.book.Book.accrue.Goals as goal

pub invariant_of-self : goal.invariant_of-self
invariant_of-self c =
    let s = c.args.self.now in
    let b =
    accrue_bounded s.rows c.accrue_rows.new.rows s.tally s.period c.args.rate c.args.n (bounded s)
    c.requires.rate c.requires.within c.accrue_rows.ensures
    in
    record { room = b.room; counted = b.counted; periods = b.periods; nominal = b.nominal; carried = b.carried; money = b.money }
