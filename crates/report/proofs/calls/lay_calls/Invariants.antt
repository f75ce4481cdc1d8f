use Rattle.std.proofs.Common.{◌≡◌, ◌+◌, drop}
use Rattle.counts.specs.Counting.{asked}
use Rattle.register.specs.Runs.{run}
use Rattle.register.specs.Views.{view_of}
use Rattle.report.specs.Deals.{numbered}
use Rattle.report.specs.Parts.{call_in, leading}
use Rattle.report.specs.Reports.{call_lines}
use Rattle.report.proofs.Onward.{Onward}
use Rattle.report.proofs.calls.lay_calls.Given as goal

abbrev pub invariant-loop-i : goal.invariant-loop-i
invariant-loop-i g l =
    (l.register.basis ≡ l.initial.register.basis)
    × Onward (call_lines (asked (g.D.DayCount.counted l.initial.register.basis)) g.D.DayCount.per (view_of l.register) (numbered (l.number + l.i) (leading call_in (drop l.i l.lines)))) l.page
    (call_lines (asked (g.D.DayCount.counted l.initial.register.basis)) g.D.DayCount.per (view_of l.initial.register) (numbered l.number (leading call_in l.lines))) l.initial.page
    × (run (asked (g.D.DayCount.counted l.initial.register.basis)) g.D.DayCount.per (view_of l.register) (leading call_in (drop l.i l.lines))
    ≡ run (asked (g.D.DayCount.counted l.initial.register.basis)) g.D.DayCount.per (view_of l.initial.register) (leading call_in l.lines))
