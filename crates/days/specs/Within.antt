-- A day within a span.
-- Assumes nothing.
use Rattle.std.specs.Prelude.{ℕ, suc, ◌<◌, ◌≤◌}
use Rattle.days.specs.Spans.{start_of}

-- the day n, counted from the first day of the first span, lies in span k
pub record Within (len : ℕ → ℕ) (n k : ℕ) : Type 0 where
  pub from : start_of len k ≤ n
  pub to : n < start_of len (suc k)
