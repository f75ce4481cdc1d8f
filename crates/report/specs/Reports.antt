-- The report of a deal: its schedule, the answer to each call on it, and what each holder has in the end.
-- Assumes nothing.
use Rattle.std.specs.Prelude.{◌≡◌, ℕ, Bool, List, [], ◌∷◌, ◌++◌, map, Some, None, Ok, Err, Option, Result, MatchOption}
use Rattle.days.specs.Refusals.{Told, told}
use Rattle.days.specs.declared.refusal.Refusal.{Refusal}
use Rattle.counts.specs.Bases.{actual, bond, european}
use Rattle.counts.specs.Counting.{asked}
use Rattle.schedules.specs.Schedule.{scheduled}
use Rattle.register.specs.Calls.{Call, opening}
use Rattle.register.specs.Mirrors.{Follows}
use Rattle.register.specs.Rules.{View, rows_in_use}
use Rattle.register.specs.Runs.{fresh_view, stepped, outcome, run}
use Rattle.text.specs.declared.basis.Basis.{Basis}
use Rattle.text.specs.declared.basis.Basis.TheVariants.{Actual360, Actual365, BondBasis, European}
use Rattle.report.specs.Deals.{CallLine, DealLines, scheduled_deal}
use Rattle.report.specs.Printed.{sc_lines, no_line, answer_line, st_lines}

-- what a basis answers, and its denominator
abbrev pub count_by : Basis → ℕ → ℕ → ℕ
count_by Actual360 = asked actual
count_by Actual365 = asked actual
count_by BondBasis = asked bond
count_by European = asked european

abbrev pub per_by : Basis → ℕ
per_by Actual360 = 360
per_by Actual365 = 365
per_by BondBasis = 360
per_by European = 360

-- as many dates as a schedule has at the most
abbrev pub table_size : ℕ
table_size = 481

-- the answers to calls on a register, one line each
abbrev pub call_lines : (ℕ → ℕ → ℕ) → ℕ → View → List CallLine → List (List ℕ)
call_lines count per v [] = []
call_lines count per v (c ∷ cs) =
    answer_line (outcome count per v c.call) c.line ∷ call_lines count per (stepped count per v c.call) cs

-- the calls on a register, and what its rows then hold
abbrev pub played_lines : (ℕ → ℕ → ℕ) → ℕ → View → List CallLine → List (List ℕ)
played_lines count per v calls =
    call_lines count per v calls ++ st_lines 0 (rows_in_use (run count per v (map (λ c. c.call) calls)))

-- a refused opening is one line
abbrev pub opening_lines : Result ℕ Told → ℕ → List (List ℕ)
opening_lines (Ok nominal) line = []
opening_lines (Err why) line = no_line why line ∷ []

-- a schedule and the opening that follows it; a refused schedule is one line, and nothing is opened
abbrev pub front_lines : (ℕ → ℕ → ℕ) → ℕ → View → ℕ → List ℕ → ℕ → Result (List ℕ) Told → List (List ℕ)
front_lines count per v rate holdings line (Ok days) =
    sc_lines 0 days ++ opening_lines (outcome count per v (opening days rate holdings)) line
front_lines count per v rate holdings line (Err why) = no_line why line ∷ []

-- the register that the calls are then made on
abbrev pub front_view : (ℕ → ℕ → ℕ) → ℕ → View → ℕ → List ℕ → Result (List ℕ) Told → View
front_view count per v rate holdings (Ok days) = stepped count per v (opening days rate holdings)
front_view count per v rate holdings (Err why) = v

abbrev pub lines_by : (ℕ → ℕ → ℕ) → ℕ → DealLines → Result (List ℕ) Told → List (List ℕ)
lines_by count per deal scheduled =
    let rate = deal.terms.rate.value in
    front_lines count per fresh_view rate deal.holdings deal.line scheduled
    ++ played_lines count per (front_view count per fresh_view rate deal.holdings scheduled) deal.calls

-- the lines of a report, over the closed days of the text
abbrev pub report_lines : (ℕ → Bool) → DealLines → List (List ℕ)
report_lines closed deal =
    lines_by (count_by deal.terms.basis.value) (per_by deal.terms.basis.value) deal
    (scheduled closed (scheduled_deal deal.terms) table_size)

-- a call on a register, where the line is one: it follows the rules; any other line calls nothing
abbrev pub Called : (ℕ → ℕ → ℕ) → ℕ → View → Option Call → View → Option (Result ℕ Refusal) → Type 0
Called count per v None v' r = (r ≡ None) × (v' ≡ v)
Called count per v (Some call) v' r = MatchOption r ⊥ (λ answer. Follows count per v call v' answer)

-- an answer as it is seen from outside
abbrev pub seen : Result ℕ Refusal → Result ℕ Told
seen (Ok n) = Ok n
seen (Err refusal) = Err (told refusal)
