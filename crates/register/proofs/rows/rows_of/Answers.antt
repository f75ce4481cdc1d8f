use Rattle.std.proofs.Common.{rules}
use Rattle.register.proofs.Opening.{opened_by_place}
use Rattle.register.proofs.rows.rows_of.Goals as goal

pub returns : goal.returns
returns c =
    opened_by_place _ _ c.from_fn.result c.args.holdings.now c.requires c.from_fn.ensures.items (λ i r q k. search rules)
