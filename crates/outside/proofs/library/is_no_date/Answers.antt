use Rattle.outside.specs.Figures.{day_number}
use Rattle.outside.proofs.Judged.{none_decides}
use Rattle.outside.proofs.library.is_no_date.Goals as goal

pub returns : goal.returns
returns c =
    none_decides (day_number c.args.figure) c.number_of.result c.is_none.result c.is_none.ensures c.number_of.ensures
