use Rattle.std.proofs.Common.{take, arith}
use Rattle.std.proofs.lemmas.List.{length-take-le}
use Rattle.text.specs.Laws.{GoodLines}
use Rattle.text.specs.Marks.{start}
use Rattle.report.proofs.GoodCalendar.{good_calendar}
use Rattle.report.proofs.OpenText.{few_holders}
use Rattle.report.proofs.ledger.Ledger.read.Goals as goal

pub of-requires : goal.of-requires
of-requires c =
    let n = c.unwrap_or.result in
    let good : GoodLines start 1 (take n c.read_lines-read.new.lines) =
    rw c.unwrap_or.ensures c.read_lines-read.ensures.good
    in
    let calendar = good_calendar (take n c.read_lines-read.new.lines) good in
    record {
      small = calendar.mask_small;
      opens = calendar.mask_opens;
      days = calendar.days_few;
      few = calendar.offsets_few;
      near = calendar.offsets_near;
    }

pub invariant_of-result : goal.invariant_of-result
invariant_of-result c =
    let n = c.unwrap_or.result in
    let table = c.read_lines-read.new.lines in
    record {
      places = c.index_deals.ensures;
      pattern = c.of.ensures.mask;
      days = c.of.ensures.days;
      offsets = c.of.ensures.offsets;
      few_lines = omega (arith, length-take-le n table (omega arith));
      few_holders = few_holders (take n table) (rw c.unwrap_or.ensures c.read_lines-read.ensures.good);
    }
