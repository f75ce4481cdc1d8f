use Rattle.std.proofs.Common.{◌<◌, length, get_or, sym, refl, ap, ◌∙◌, arith, length-set}
use Rattle.text.specs.declared.line.Line.TheVariants.{Posting}
use Rattle.report.proofs.Finds.{copied_room, copied_more, copied_past, copied_all}
use Rattle.report.proofs.gathering.gather.Goals as goal
use Rattle.report.proofs.gathering.gather.Goals.{in-Some, in_default}

pub bounds-table-count : goal.bounds-table-count
bounds-table-count g c =
    let lines = c.args.lines.now in
    let i = c.loop-line.line-index in
    let l = get_or lines i Posting in
    let is = c.requires.1.1.1.0 l c.find.result (record { shown = _; shows = refl; says = record { met = c.find.ensures } }) in
    copied_room g.found lines c.loop-line.table c.loop-line.count i c.in-Some.item c.loop-line.invariant
    (omega arith) (omega arith) (sym is ∙ c.in-Some.is)

pub loop-line-preserved : goal.loop-line-preserved
loop-line-preserved g c =
    let lines = c.args.lines.now in
    let i = c.loop-line.line-index in
    let l = get_or lines i Posting in
    let table = c.loop-line.table in
    let n = c.loop-line.count in
    let is = c.requires.1.1.1.0 l c.find.result (record { shown = _; shows = refl; says = record { met = c.find.ensures } }) in
    elim c.match-find.branch [
      | in-Some w ↦
          let found = sym is ∙ w.in-Some.is in
          let room : n < length table = copied_room g.found lines table n i w.in-Some.item c.loop-line.invariant (omega arith) (omega arith) found in
          rw w.count-is
          (copied_more g.found lines table n i w.in-Some.item c.match-find.table c.loop-line.invariant (omega arith) room found
          w.table-is (omega (arith, ap length w.table-is, length-set table n w.in-Some.item)))
      | in_default w ↦ rw (w.count-is, w.table-is)
          (copied_past g.found lines table n i c.loop-line.invariant (omega arith) (sym is ∙ w.in_default.is))
    ]

pub returns : goal.returns
returns g c =
    record {
      within = c.loop-line.invariant.within;
      found = copied_all g.found c.args.lines.now c.loop-line.table c.loop-line.count c.loop-line.line-index c.loop-line.invariant (omega arith);
    }
