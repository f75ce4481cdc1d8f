-- A book keeps its bounds: its own facts, as one record.
-- Assumes nothing.
use Rattle.register.specs.declared.book.Book.{Book}
use Rattle.register.proofs.Bounds.{Bounded}

pub bounded : (b : Book) → Bounded b.rows b.tally b.period
bounded b =
    record { room = b.room; counted = b.counted; periods = b.periods; nominal = b.nominal; carried = b.carried; money = b.money }
