use Rattle.std.proofs.Common.{refl, sym, pos, arith}
use Rattle.std.proofs.Math.Seq.{take-append_seam}
use Rattle.shortlist.proofs.Changes.{laid_over}
use Rattle.calendar.proofs.Around.{around}
use Rattle.calendar.proofs.movable.EasterRule.new.Goals as goal

pub invariant_of-result : goal.invariant_of-result
invariant_of-result c =
    record {
      filled = laid_over 8 (pos 0) (pos 0) c.args.offsets.now c.copy_from_slice.new.self refl c.copy_from_slice.ensures.after (omega arith);
    }

pub returns : goal.returns
returns c =
    let offsets = c.args.offsets.now in
    let few = sym c.if-not-all_within_sixty.ensures in
    (rw c.copy_from_slice.ensures.after (take-append_seam offsets _), around offsets few, few, omega arith)
