use Rattle.outside.proofs.Dates.{date_exactly}
use Rattle.outside.proofs.library.date_of.Goals as goal

pub returns : goal.returns
returns c = date_exactly c.args.day c.of.result c.of.ensures.value
