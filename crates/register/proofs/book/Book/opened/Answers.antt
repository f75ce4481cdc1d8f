use Rattle.register.proofs.Bounds.{opened_bounded}
use Rattle.register.proofs.book.Book.opened.Goals as goal

pub invariant_of-result : goal.invariant_of-result
invariant_of-result c =
    let b = opened_bounded c.args.holdings.now c.rows_of.result c.requires.few c.requires.nominal c.rows_of.ensures in
    record { room = b.room; counted = b.counted; periods = b.periods; nominal = b.nominal; carried = b.carried; money = b.money }
