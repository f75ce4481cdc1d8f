-- Lines laid on a page, one behind another.
-- Assumes nothing.
use Rattle.std.proofs.Common.{◌≡◌, ℕ, List, [], ◌++◌, Ok, Err, Result, refl, ◌∙◌, subst}
use Rattle.writing.specs.declared.laying.Full.{Full}
use Rattle.writing.proofs.Lays.{laid_none, laid_more, laid_stops}
use Rattle.report.specs.Pages.{ending, LaidOn}
use Rattle.report.specs.declared.page.Page.{Page}

pub on_none : (page : Page) → LaidOn [] page (Ok tt) page
on_none page = record { same_buffer = refl; laid = laid_none page.out.now page.written }

-- lines behind lines that were accepted
pub on_more :
    (xs ys : List (List ℕ)) (a b c : Page) (r : Result (Unit {0}) Full) → LaidOn xs a (Ok tt) b → LaidOn ys b r c →
    LaidOn (xs ++ ys) a r c
on_more xs ys a b c r first second =
    record {
      same_buffer = second.same_buffer ∙ first.same_buffer;
      laid =
          laid_more xs ys a.out.now a.written b.written b.out.now (ending r c.written) c.out.now first.laid second.laid;
    }

-- lines behind lines of which one was refused
pub on_stops :
    (xs ys : List (List ℕ)) (a b : Page) (full : Full) → LaidOn xs a (Err full) b → LaidOn (xs ++ ys) a (Err full) b
on_stops xs ys a b full on =
    record { same_buffer = on.same_buffer; laid = laid_stops xs ys a.out.now a.written full b.out.now on.laid }

-- lines under another name
pub on_same :
    (xs ys : List (List ℕ)) (a b : Page) (r : Result (Unit {0}) Full) → xs ≡ ys → LaidOn xs a r b → LaidOn ys a r b
on_same xs ys a b r same on = subst (λ l. LaidOn l a r b) same on
