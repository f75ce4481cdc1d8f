-- The worked figures of the whole ledger in one table: dates, Easters, rolled days, day counts and schedules that are known
-- from elsewhere, and that the rules of the other crates must yield.
-- Assumes nothing.
use Rattle.std.specs.Prelude.{Bool, true, ◌&&◌, List, [], ◌∷◌, ◌++◌, map, ℕ, eqb}
use Rattle.days.specs.Calendar.{number_of}
use Rattle.calendar.specs.Figures as calendar
use Rattle.counts.specs.Bases.{bond, european}
use Rattle.counts.specs.Counting.{asked}
use Rattle.schedules.specs.Figures as schedules

pub data Figure : Type 0 where
  calendar_figure : calendar.Figure → Figure
  schedule_figure : schedules.Figure → Figure
  -- two days of January 2023, and the days counted from one to the other
  bond_counts : ℕ → ℕ → ℕ → Figure
  european_counts : ℕ → ℕ → ℕ → Figure

abbrev pub right : Figure → Bool
right (calendar_figure figure) = calendar.right figure
right (schedule_figure figure) = schedules.right figure
right (bond_counts d d' n) = eqb (asked bond (number_of 2023 1 d) (number_of 2023 1 d')) n
right (european_counts d d' n) = eqb (asked european (number_of 2023 1 d) (number_of 2023 1 d')) n

abbrev pub all_right : List Figure → Bool
all_right [] = true
all_right (figure ∷ figures) = right figure && all_right figures

abbrev pub table : List Figure
table =
    map calendar_figure calendar.figures
    ++ (bond_counts 29 30 1 ∷ bond_counts 30 31 0 ∷ bond_counts 29 31 2 ∷ european_counts 29 31 1 ∷ [])
    ++ map schedule_figure schedules.figures
