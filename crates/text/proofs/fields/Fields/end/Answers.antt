use Rattle.std.proofs.Common.{sym}
use Rattle.text.specs.Left.{ending}
use Rattle.text.proofs.WordSplits.{one_left}
use Rattle.text.proofs.fields.Fields.end.Goals as goal

pub returns-in-Some : goal.returns-in-Some
returns-in-Some c =
    let fields = c.args.self.now in
    rw (c.refuses.ensures, c.in-Some.is) (sym (one_left fields.place.column c.in-Some.field-0.now (ending fields)))
