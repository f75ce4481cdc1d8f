use Rattle.std.proofs.Common.{◌≡◌, rules}
use Rattle.std.proofs.lemmas.Fn.{always_returns_same}
use Rattle.register.proofs.Dates.{follows_closely, rises_where_answered}
use Rattle.register.proofs.terms.rise_closely.Goals as goal

pub returns : goal.returns
returns c =
    rises_where_answered c.args.dates.now c.is_sorted_by.result
    (c.is_sorted_by.ensures.cases follows_closely
    (always_returns_same _ (λ a r. r ≡ follows_closely a.0.now a.1.0.now) _ (λ a r f' k. search rules)))
