-- The letters of the conventions.
-- Assumes nothing.
use Rattle.std.specs.Prelude.{ℕ, cond, Some, None, Option, ◌==◌}
use Rattle.calendar.specs.declared.rolling.Convention.{Convention}
use Rattle.calendar.specs.declared.rolling.Convention.TheVariants.{Following, ModifiedFollowing, Preceding, Unadjusted}

-- F, M, P and U by their codes
abbrev pub convention_of : ℕ → Option Convention
convention_of letter =
    cond (letter == 70) (Some Following)
    (cond (letter == 77) (Some ModifiedFollowing)
    (cond (letter == 80) (Some Preceding) (cond (letter == 85) (Some Unadjusted) None)))
