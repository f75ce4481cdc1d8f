use Rattle.text.proofs.FieldLaws.{kind_law}
use Rattle.text.proofs.TextLaws.{text_law}
use Rattle.text.proofs.reading.read.Goals as goal

pub returns : goal.returns
returns c = record { value = c.read_within.ensures; law = text_law kind_law c.args.text.now }
