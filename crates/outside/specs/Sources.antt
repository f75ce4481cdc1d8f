-- When a line of a file is right.
-- Assumes nothing.
use Rattle.std.specs.Prelude.{ℕ, List}
use Rattle.days.specs.declared.dates.Date.{Date}
use Rattle.outside.specs.declared.figures.DatedDay.{DatedDay}
use Rattle.outside.specs.declared.source.Source.{Source}
use Rattle.outside.specs.declared.source.Source.TheVariants.{Easter, Dates, NoDates}
use Rattle.outside.specs.Lines.{DateLine, DatedDayLine}
use Rattle.outside.specs.Figures.{Dated, IsEaster, IsDatedDay}

-- the line has a figure in the form of its file, and the figure is right
abbrev pub Right : Source → List ℕ → Type 0
Right Easter line = (date : Date) × DateLine line date × IsEaster date
Right Dates line = (figure : DatedDay) × DatedDayLine line figure × IsDatedDay figure
Right NoDates line = (date : Date) × DateLine line date × (Dated date → ⊥)
