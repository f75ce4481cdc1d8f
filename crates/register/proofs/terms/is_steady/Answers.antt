use Rattle.register.proofs.Dates.{steady_where_rising, unsteady}
use Rattle.register.proofs.terms.is_steady.Goals as goal

pub returns-then-are_days : goal.returns-then-are_days
returns-then-are_days c =
    steady_where_rising c.args.dates.now c.rise_closely.result (c.are_days.ensures.0 c.if-are_days.true) c.rise_closely.ensures

pub returns-else-are_days : goal.returns-else-are_days
returns-else-are_days c = unsteady c.args.dates.now c.are_days.result c.are_days.ensures c.if-are_days.false
