-- The law of interest, on the lines that are printed.
-- Assumes nothing.
use Rattle.std.specs.Prelude.{◌≡◌, ℕ, ◌<◌, Bool, List, ◌∷◌, ◌++◌, map, length, Ok, Result, slice_index}
use Rattle.days.specs.Refusals.{Told}
use Rattle.schedules.specs.Schedule.{scheduled}
use Rattle.register.specs.Calls.{Call, opening}
use Rattle.register.specs.Interest.{holder_interest, nominal_interest}
use Rattle.register.specs.Journal.{journal}
use Rattle.register.specs.Rows.{at, worth, total_worth}
use Rattle.register.specs.Rules.{unit}
use Rattle.register.specs.Runs.{fresh_view, outcome}
use Rattle.register.specs.declared.row.Row.{Row}
use Rattle.report.specs.Deals.{DealLines, scheduled_deal}
use Rattle.report.specs.Printed.{st_lines}
use Rattle.report.specs.Reports.{count_by, per_by, table_size, lines_by}

abbrev pub opening_of : DealLines → List ℕ → Call
opening_of deal days = opening days deal.terms.rate.value deal.holdings

-- the opening of a deal, and the calls of its lines
abbrev pub calls_on : DealLines → List ℕ → List Call
calls_on deal days = opening_of deal days ∷ map (λ c. c.call) deal.calls

-- the lines end with one for each holder; the journal of the calls has the same holding for each, and what was paid, is
-- due and is carried is what the evenings that it noted are worth, for each holder and for all together
pub record InterestShown (count : ℕ → ℕ → ℕ) (per : ℕ) (deal : DealLines) (days : List ℕ) (lines : List (List ℕ)) : Type 0 where
  pub before : List (List ℕ)
  pub rows : List Row
  pub ends_with_the_rows : lines ≡ before ++ st_lines 0 rows
  pub a_row_for_each_holder : length rows ≡ length deal.holdings
  pub holding :
      (i : ℕ) → i < length rows → (at rows i).holding ≡ slice_index (journal (calls_on deal days)).holdings i
  pub each_holder :
      (i : ℕ) → i < length rows → worth (unit per) (at rows i) ≡ holder_interest count (journal (calls_on deal days)) i
  pub all_holders : total_worth (unit per) rows ≡ nominal_interest count (journal (calls_on deal days))

-- a deal is opened on days where its schedule is accepted with them, and then its opening
abbrev pub InterestLaw : (ℕ → ℕ → ℕ) → ℕ → DealLines → Result (List ℕ) Told → Type 0
InterestLaw count per deal s =
    (days : List ℕ) (nominal : ℕ) → s ≡ Ok days → outcome count per fresh_view (opening_of deal days) ≡ Ok nominal →
    InterestShown count per deal days (lines_by count per deal s)

-- in every report of an opened deal
abbrev pub ReportLaw : (ℕ → Bool) → DealLines → Type 0
ReportLaw closed deal =
    InterestLaw (count_by deal.terms.basis.value) (per_by deal.terms.basis.value) deal
    (scheduled closed (scheduled_deal deal.terms) table_size)
