use Rattle.std.proofs.Common.{◌≡◌, ◌++◌, map, take, drop}
use Rattle.coupons.specs.Evenings.{after_evening}
use Rattle.coupons.proofs.journal.pass_evenings.Given as goal

abbrev pub invariant-loop-account : goal.invariant-loop-account
invariant-loop-account l =
    l.accounts
    ≡ map (after_evening l.rate l.step) (take l.account-index l.initial.accounts) ++ drop l.account-index l.initial.accounts
