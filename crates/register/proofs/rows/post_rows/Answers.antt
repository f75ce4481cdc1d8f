use Rattle.std.proofs.Common.{◌≡◌, ◌+◌, ◌/◌, ◌^◌, ◌<◌, take, ap, ◌∙◌, arith}
use Rattle.register.specs.Rows.{posted, total_units}
use Rattle.register.proofs.Sweeps.{read_unswept, sweep_more, post_fits, units_fit}
use Rattle.register.proofs.rows.post_rows.Goals as goal

pub post-units-requires : goal.post-units-requires
post-units-requires c =
    let rows = c.args.rows.now in
    let i = c.loop-row.row-index in
    let same = read_unswept (posted c.args.v) rows c.loop-row.rows i c.loop-row-test.true c.loop-row.invariant.0 in
    rw same (post_fits rows i c.args.v c.loop-row-test.true c.requires.unit c.requires.money)

abbrev Summed : (c : goal.After-post-units) → Type 0
Summed c =
    (c.loop-row.units + c.post-units.result ≡ total_units c.args.v (take (c.loop-row.row-index + 1) c.args.rows.now))
    × (c.loop-row.units + c.post-units.result < 2 ^ 64)

summed : (c : goal.After-post-units) → Summed c
summed c =
    let rows = c.args.rows.now in
    let i = c.loop-row.row-index in
    let same = read_unswept (posted c.args.v) rows c.loop-row.rows i c.loop-row-test.true c.loop-row.invariant.0 in
    units_fit rows i c.args.v c.loop-row.units c.post-units.result c.loop-row-test.true c.requires.unit
    c.requires.ticks c.loop-row.invariant.1 (c.post-units.ensures.value ∙ ap (λ r. r.ticks / c.args.v) same)

pub overflow_add-units : goal.overflow_add-units
overflow_add-units c = omega (arith, (summed c).1)

pub loop-row-preserved : goal.loop-row-preserved
loop-row-preserved c = (
  sweep_more (posted c.args.v) c.args.rows.now c.loop-row.rows c.loop-row.row-index _
      c.loop-row-test.true c.loop-row.invariant.0 c.post-units.ensures.after,
  (summed c).0,
)
