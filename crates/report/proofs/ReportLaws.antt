-- The law of interest on every report, whatever basis the deal names.
-- Assumes nothing.
use Rattle.std.proofs.Common.{ℕ, Bool, List, Result}
use Rattle.days.specs.Refusals.{Told}
use Rattle.counts.specs.Bases.{actual, bond, european}
use Rattle.counts.specs.Actual.{actual_360_lawful, actual_365_lawful}
use Rattle.counts.specs.Places.{bond_lawful, european_lawful}
use Rattle.schedules.specs.Schedule.{scheduled}
use Rattle.text.specs.declared.basis.Basis.{Basis}
use Rattle.text.specs.declared.basis.Basis.TheVariants.{Actual360, Actual365, BondBasis, European}
use Rattle.report.specs.Deals.{DealLines, scheduled_deal}
use Rattle.report.specs.Laws.{InterestLaw, ReportLaw}
use Rattle.report.specs.Reports.{count_by, per_by}
use Rattle.report.proofs.Interest.{interest_shown}

by_basis : (basis : Basis) (deal : DealLines) (s : Result (List ℕ) Told) → InterestLaw (count_by basis) (per_by basis) deal s
by_basis Actual360 deal s = interest_shown actual 360 actual_360_lawful deal s
by_basis Actual365 deal s = interest_shown actual 365 actual_365_lawful deal s
by_basis BondBasis deal s = interest_shown bond 360 bond_lawful deal s
by_basis European deal s = interest_shown european 360 european_lawful deal s

pub report_law : (closed : ℕ → Bool) (deal : DealLines) → ReportLaw closed deal
report_law closed deal = by_basis deal.terms.basis.value deal (scheduled closed (scheduled_deal deal.terms) 481)
