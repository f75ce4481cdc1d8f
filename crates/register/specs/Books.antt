-- A change of a book's rows alone.
-- Assumes nothing.
use Rattle.std.specs.Prelude.{◌≡◌, List}
use Rattle.register.specs.declared.book.Book.{Book}
use Rattle.register.specs.declared.row.Row.{Row}

-- the book has these rows now, and the tally and the period that it had
pub record TurnsRows (old : Book) (after : List Row) (new : Book) : Type 0 where
  pub rows : new.rows ≡ after
  pub tally : new.tally ≡ old.tally
  pub period : new.period ≡ old.period
