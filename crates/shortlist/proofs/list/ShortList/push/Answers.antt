use Rattle.std.proofs.Common.{arith}
use Rattle.shortlist.proofs.Changes.{one_more}
use Rattle.shortlist.proofs.list.ShortList.push.Goals as goal

pub invariant_of-self : goal.invariant_of-self
invariant_of-self g c =
    let h = c.self.invariant in
    one_more g.row.N g.T.Blank.blank c.self.inside.places c.self.inside.len c.args.item h
    (omega (arith, h.few))
