use Rattle.std.proofs.Common.{◌≡◌, ◌++◌, map, take, drop}
use Rattle.counts.specs.Counting.{asked}
use Rattle.register.specs.Plain.{played}
use Rattle.register.specs.Runs.{fresh_view, run, outcomes, seen_answer}
use Rattle.register.specs.Views.{view_of}
use Rattle.register.proofs.history.play.Given as goal

abbrev pub invariant-loop-i : goal.invariant-loop-i
invariant-loop-i g l =
    (l.register.basis ≡ l.initial.register.basis)
    × (run (asked (g.D.DayCount.counted l.initial.register.basis)) g.D.DayCount.per (view_of l.register) (drop l.i (played l.calls l.initial.answers))
    ≡ run (asked (g.D.DayCount.counted l.initial.register.basis)) g.D.DayCount.per fresh_view (played l.calls l.initial.answers))
    × (map seen_answer (take l.i l.answers) ++ outcomes (asked (g.D.DayCount.counted l.initial.register.basis)) g.D.DayCount.per (view_of l.register) (drop l.i (played l.calls l.initial.answers))
    ≡ outcomes (asked (g.D.DayCount.counted l.initial.register.basis)) g.D.DayCount.per fresh_view (played l.calls l.initial.answers))
    × (drop l.i l.answers ≡ drop l.i l.initial.answers)
