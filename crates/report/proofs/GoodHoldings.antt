-- A deal of good lines has no more holdings than a register has rows.
-- Assumes nothing.
use Rattle.std.proofs.Common.{◌≡◌, ℕ, suc, ◌+◌, ◌<◌, ◌≤◌, List, length, get_or, drop, Some, ap, add-one, arith}
use Rattle.text.specs.declared.line.Line.{Line}
use Rattle.text.specs.declared.line.Line.TheVariants as line
use Rattle.text.specs.declared.line.Terms.{Terms}
use Rattle.text.specs.Laws.{GoodLines}
use Rattle.text.specs.Lines.{mark_from}
use Rattle.text.specs.Marks.{start, role}
use Rattle.text.proofs.HoldingRoom.{few_holdings}
use Rattle.report.specs.Parts.{part, terms_in, holding_in, leading}
use Rattle.report.proofs.DealPlaces.{deal_from_terms}
use Rattle.report.proofs.GoodParts.{holdings_led}

pub good_holdings :
    (lines : List Line) → GoodLines start 1 lines → (s : ℕ) (terms : Terms) → s < length lines →
    terms_in (part (get_or lines s line.Posting)) ≡ Some terms → length (leading holding_in (drop (s + 1) lines)) ≤ 16
good_holdings lines good s terms less is =
    let deal = ap (λ l. role (mark_from l)) (deal_from_terms (get_or lines s line.Posting) terms is) in
    let few = few_holdings lines good s less deal in
    rw (add-one s) (omega (arith, few, holdings_led (drop (suc s) lines)))
