use Rattle.outside.specs.Figures.{Dated, day_number}
use Rattle.outside.proofs.Dates.{number_exactly}
use Rattle.outside.proofs.library.number_of.Goals as goal

pub returns : goal.returns
returns c = number_exactly (Dated c.args.date) (day_number c.args.date) c.number.result c.number.ensures.value
