use Rattle.std.proofs.Common.{arith}
use Rattle.shortlist.proofs.Changes.{laid_over}
use Rattle.shortlist.proofs.list.ShortList.from_slice.Goals as goal

pub invariant_of-result : goal.invariant_of-result
invariant_of-result g c =
    laid_over g.row.N g.T.Blank.blank c.blank-places.result c.args.items.now c.copy_from_slice.new.self
    c.blank-places.ensures c.copy_from_slice.ensures.after (omega arith)
