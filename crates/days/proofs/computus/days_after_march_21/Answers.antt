use Rattle.days.proofs.EasterTable.{table_right, table_leads}
use Rattle.days.proofs.computus.days_after_march_21.Goals as goal

pub returns : goal.returns
returns c =
    record { few = (table_right c.args.index c.requires).before; value = table_leads c.args.index c.requires }
