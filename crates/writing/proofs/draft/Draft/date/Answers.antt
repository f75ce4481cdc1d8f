use Rattle.std.proofs.Common.{◌++◌, take, ap, ◌∙◌, arith}
use Rattle.days.proofs.Parts.{found_date}
use Rattle.writing.proofs.Cuts.{then}
use Rattle.writing.proofs.Dated.{date_found}
use Rattle.writing.proofs.draft.Draft.date.Goals as goal

pub two_digits-requires-in-Some-3 : goal.two_digits-requires-in-Some-3
two_digits-requires-in-Some-3 c = let is = found_date c.args.day _ _ _ c.in-Some.ensures.value in omega arith

pub returns-in-Some-clause-inside : goal.returns-in-Some-clause-inside
returns-in-Some-clause-inside c within =
    let text = c.args.self.now in
    let t2 = then text _ _ c.two_digits.ensures c.two_digits-in-Some.ensures in
    let t4 = then text _ _ (then text _ _ t2 c.push.ensures) c.two_digits-in-Some-2.ensures in
    let t6 = then text _ _ (then text _ _ t4 c.push-in-Some.ensures) c.two_digits-in-Some-3.ensures in
    t6 ∙ ap (λ t. take 128 (text ++ t)) (date_found c.args.day _ c.in-Some.ensures.value).1
