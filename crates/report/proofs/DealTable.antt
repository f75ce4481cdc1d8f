-- A table of the places of the deals, filled from the first line to the last: what it holds, and the deals that are
-- still to come, are all of them.
-- Assumes nothing.
use Rattle.std.proofs.Common.{◌≡◌, ℕ, ◌≤◌, List, ◌++◌, take, drop}
use Rattle.text.specs.declared.line.Line.{Line}
use Rattle.report.specs.Deals.{starts_from, starts_of}

-- n places are in the table, and the lines from i on are still to be read
pub record Filled (lines : List Line) (table : List ℕ) (n i : ℕ) : Type 0 where
  pub behind : n ≤ i
  pub places : take n table ++ starts_from i (drop i lines) ≡ starts_of lines
