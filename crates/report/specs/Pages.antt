-- Lines laid on a page, behind those that stand there.
-- Assumes nothing.
use Rattle.std.specs.Prelude.{◌≡◌, ℕ, List, Ok, Err, Result}
use Rattle.writing.specs.Laying.{Laid}
use Rattle.writing.specs.declared.laying.Full.{Full}
use Rattle.report.specs.declared.page.Page.{Page}

-- where the lines end, or why one was refused
abbrev pub ending : Result (Unit {0}) Full → ℕ → Result ℕ Full
ending (Ok done) end = Ok end
ending (Err full) end = Err full

-- the same buffer has the lines behind the others, as far as they fit
pub record LaidOn (lines : List (List ℕ)) (before : Page) (r : Result (Unit {0}) Full) (after : Page) : Type 0 where
  pub same_buffer : after.out.ghost_name ≡ before.out.ghost_name
  pub laid : Laid lines before.out.now before.written (ending r after.written) after.out.now
