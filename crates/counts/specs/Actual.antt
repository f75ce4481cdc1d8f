-- The days that pass keep the laws of a day count over 360 and over 365.
-- Assumes nothing.
use Rattle.std.specs.Prelude.{ℕ, ◌≤◌}
use Rattle.std.proofs.Common.{arith}
use Rattle.counts.specs.Bases.{actual}
use Rattle.counts.specs.Counting.{Lawful}

pub actual_lawful : (per : ℕ) → 267 ≤ per → per ≤ 366 → Lawful actual per
actual_lawful per long few =
    record {
      some = omega arith;
      few = few;
      none = λ a inside. omega arith;
      rises = λ a b c low high inside. omega arith;
      short = λ a b low inside near. omega arith;
    }

pub actual_360_lawful : Lawful actual 360
actual_360_lawful = actual_lawful 360 (omega arith) (omega arith)

pub actual_365_lawful : Lawful actual 365
actual_365_lawful = actual_lawful 365 (omega arith) (omega arith)
