use Rattle.std.proofs.Common.{◌≡◌, ap, ◌∙◌, arith}
use Rattle.std.proofs.lemmas.Bool.{leb-false}
use Rattle.counts.specs.Counting.{asked}
use Rattle.register.specs.Rules.{seen_state, first}
use Rattle.register.specs.Views.{view_of}
use Rattle.register.proofs.Accepted.{advance_within}
use Rattle.register.proofs.Counts.{asked_short}
use Rattle.register.proofs.Dates.{next_date}
use Rattle.register.proofs.state.Register.make_advance.Goals as goal

pub accrue-requires-clause-within : goal.accrue-requires-clause-within
accrue-requires-clause-within g c =
    let s = c.args.self.now in
    let v = view_of s in
    let within = advance_within (seen_state v) c.args.day c.in_ok-judge_advance.ensures in
    let dates = s.terms.dates.items in
    let inside = leb-false _ _ within.0 in
    let next = next_date dates s.terms.rising s.book.period (omega arith) in
    let few =
    asked_short (g.D.DayCount.counted s.basis) g.D.DayCount.per (g.met.D.DayCount.lawful s.basis) (first v)
    c.args.day (omega arith)
    in
    let counted : c.count-counted.result ≡ asked (g.D.DayCount.counted s.basis) (first v) c.args.day =
    c.count-counted.ensures ∙ ap (λ a. asked (g.D.DayCount.counted s.basis) a c.args.day) c.first_date.ensures
    in
    omega arith
