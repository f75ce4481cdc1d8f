use Rattle.std.proofs.Common.{map, ◌∙◌, append-nil, rules}
use Rattle.std.proofs.lemmas.List.{take_all, drop_all}
use Rattle.std.proofs.lemmas.List.Edits.{map_over_more}
use Rattle.coupons.specs.Evenings.{after_evening}
use Rattle.coupons.proofs.journal.pass_evenings.Goals as goal

pub loop-account-preserved : goal.loop-account-preserved
loop-account-preserved c = search (rules, map_over_more (after_evening c.args.rate c.args.step))

pub returns : goal.returns
returns c =
    let accounts = c.args.accounts.now in
    let i = c.loop-account.account-index in
    let whole = take_all i accounts c.loop-account-test.false in
    let none = drop_all i accounts c.loop-account-test.false in
    c.loop-account.invariant ∙ rw (whole, none) (append-nil (map (after_evening c.args.rate c.args.step) accounts))
