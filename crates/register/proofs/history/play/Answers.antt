use Rattle.std.proofs.Common.{◌≡◌, ◌<◌, ◌++◌, min, map, length, get_or, drop, ap, ◌∙◌, arith}
use Rattle.std.proofs.lemmas.List.{length-take, get_or-take}
use Rattle.counts.specs.Counting.{asked}
use Rattle.register.specs.declared.call.Call.TheVariants.{Post}
use Rattle.register.specs.Plain.{plain, played}
use Rattle.register.specs.Runs.{fresh_view, run, outcomes, seen_answer}
use Rattle.register.specs.Views.{view_of}
use Rattle.register.proofs.Playing.{played_more, played_all, played_long, beyond, call_at}
use Rattle.register.proofs.Runs.{law_of_interest}
use Rattle.register.proofs.history.play.Goals as goal

pub loop-i-preserved : goal.loop-i-preserved
loop-i-preserved g c =
    let calls = c.args.calls.now in
    let before = c.args.answers.now in
    let i = c.loop-i.i in
    let cs = played calls before in
    let basis = c.loop-i.invariant.0 in
    let v = view_of c.loop-i.register in
    let call = plain (get_or calls i Post) in
    let inside : i < min (length calls) (length before) = omega (arith, length-take c.min-count.result calls) in
    let few : i < length cs = omega (arith, played_long calls before) in
    let more =
    played_more (asked (g.D.DayCount.counted c.new-register.result.basis)) g.D.DayCount.per cs fresh_view
    v (view_of c.apply.new.self) i call before
    c.loop-i.answers c.apply.result few (omega arith) (call_at calls before i (omega arith) (omega arith))
    (rw (basis, get_or-take c.min-count.result calls i Post (omega arith)) at c.apply.ensures.rule) c.loop-i.invariant.1 c.loop-i.invariant.2 c.loop-i.invariant.3
    in
    (c.apply.ensures.basis ∙ basis, more.0, more.1, more.2)

pub returns : goal.returns
returns g c =
    let calls = c.args.calls.now in
    let before = c.args.answers.now in
    let i = c.loop-i.i in
    let cs = played calls before in
    let past : i ≡ min (length calls) (length before) = omega (arith, length-take c.min-count.result calls) in
    let basis = c.new-register.ensures.basis in
    let all =
    played_all (asked (g.D.DayCount.counted c.new-register.result.basis)) g.D.DayCount.per cs fresh_view
    (view_of c.loop-i.register) i before c.loop-i.answers (length calls) (omega (arith, played_long calls before))
    c.loop-i.invariant.1 c.loop-i.invariant.2 c.loop-i.invariant.3 (beyond (length calls) before i (omega arith))
    in
    record {
      basis = c.loop-i.invariant.0 ∙ basis;
      view = all.0 ∙ ap (λ b. run (asked (g.D.DayCount.counted b)) g.D.DayCount.per fresh_view cs) basis;
      answers =
          all.1
          ∙ ap (λ b. outcomes (asked (g.D.DayCount.counted b)) g.D.DayCount.per fresh_view cs ++ drop (length calls) (map seen_answer before)) basis;
      law =
          law_of_interest (g.D.DayCount.counted c.args.basis) g.D.DayCount.per (g.met.D.DayCount.lawful c.args.basis) cs;
    }
