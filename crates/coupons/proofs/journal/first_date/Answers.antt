use Rattle.std.proofs.Common.{leb, sym, ap, ◌∙◌, rules, tests}
use Rattle.std.specs.Option.{unwrap_or}
use Rattle.std.proofs.lemmas.Iterator.{YieldsList-from_slice}
use Rattle.std.proofs.lemmas.Iterator.Search.{YieldsList-from_take_while}
use Rattle.coupons.proofs.FirstDate.{first_is_last, last_from_yields_List}
use Rattle.coupons.proofs.journal.first_date.Goals as goal

pub returns : goal.returns
returns c =
    let dates = c.args.dates.now in
    let day = c.args.day in
    c.unwrap_or.ensures ∙ ap (λ o. unwrap_or o 0) c.copied.ensures
    ∙ last_from_yields_List (λ x. x.now) c.take_while.result 0 c.last.result c.last.ensures.ran
    (YieldsList-from_take_while _ (λ d. leb d day) (YieldsList-from_slice dates (cc)) c.take_while.ensures.closure
    c.take_while.ensures.done (λ x b q k. search (rules, tests)))
    ∙ sym (first_is_last dates 0 day)
