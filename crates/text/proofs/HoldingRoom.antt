-- Behind a deal good lines have few holdings.
-- Assumes nothing.
use Rattle.std.proofs.Common.{◌≡◌, ℕ, zero, suc, ◌+◌, ◌<◌, ◌≤◌, false, cond, List, [], ◌∷◌, length, get_or, drop, refl, ap, subst, arith}
use Rattle.std.proofs.lemmas.Bool.{leb-false}
use Rattle.text.specs.declared.line.Line.{Line}
use Rattle.text.specs.declared.line.Line.TheVariants as line
use Rattle.text.specs.declared.mark.Mark.{Mark}
use Rattle.text.specs.declared.standing.Standing.{Standing}
use Rattle.text.specs.declared.standing.Standing.TheVariants.{InCalendar, InHoldings, InCalls}
use Rattle.text.specs.Laws.{GoodLines}
use Rattle.text.specs.Lines.{mark_from}
use Rattle.text.specs.Marks.{Role, a_pattern, a_closed_day, an_offset, a_deal, a_holding, a_call, role, start, next, full_of, after_calendar, after_deal, most_holdings}
use Rattle.text.proofs.RoleCounts.{is_role, lines_leading}

-- a line that is no holding ends them, and a holding has room for itself
holdings_more :
    (count : ℕ) (r : Role) (led : ℕ) → full_of 0 0 count r ≡ false → count ≤ most_holdings →
    (r ≡ a_holding → count + 1 ≤ most_holdings → count + 1 + led ≤ most_holdings) →
    count + cond (is_role a_holding r) (1 + led) 0 ≤ most_holdings
holdings_more count a_pattern led room few later = omega arith
holdings_more count a_closed_day led room few later = omega arith
holdings_more count an_offset led room few later = omega arith
holdings_more count a_deal led room few later = omega arith
holdings_more count a_holding led room few later =
    let more : count + 1 ≤ most_holdings = omega (arith, leb-false most_holdings count room) in omega (arith, later refl more)
holdings_more count a_call led room few later = omega arith

holdings_few :
    (lines : List Line) (count n : ℕ) → GoodLines (InHoldings count) n lines → count ≤ most_holdings →
    count + lines_leading a_holding lines ≤ most_holdings
holdings_few [] count n good few = omega arith
holdings_few (l ∷ ls) count n (formed, stands, later) few =
    holdings_more count (role (mark_from l)) (lines_leading a_holding ls) stands.has_room few (λ is more.
    holdings_few ls (count + 1) (n + 1)
    (subst (λ r. GoodLines (after_deal (InHoldings (count + 1)) r) (n + 1) ls) is later) more)

after_a_deal : (standing : Standing) (mark : Mark) → role mark ≡ a_deal → next standing mark ≡ InHoldings 0
after_a_deal (InCalendar seen) mark is = ap (after_calendar seen) is
after_a_deal (InHoldings count) mark is = ap (after_deal (InHoldings (count + 1))) is
after_a_deal InCalls mark is = ap (after_deal InCalls) is

holdings_behind :
    (lines : List Line) (standing : Standing) (n s : ℕ) → GoodLines standing n lines → s < length lines →
    role (mark_from (get_or lines s line.Posting)) ≡ a_deal → lines_leading a_holding (drop (suc s) lines) ≤ most_holdings
holdings_behind [] standing n s good less is = absurd (omega arith)
holdings_behind (l ∷ ls) standing n zero (formed, stands, later) less is =
    let behind = subst (λ s. GoodLines s (n + 1) ls) (after_a_deal standing (mark_from l) is) later in
    omega (arith, holdings_few ls 0 (n + 1) behind (omega arith))
holdings_behind (l ∷ ls) standing n (suc s) (formed, stands, later) less is =
    holdings_behind ls (next standing (mark_from l)) (n + 1) s later (omega arith) is

pub few_holdings :
    (lines : List Line) → GoodLines start 1 lines → (s : ℕ) → s < length lines →
    role (mark_from (get_or lines s line.Posting)) ≡ a_deal → lines_leading a_holding (drop (suc s) lines) ≤ most_holdings
few_holdings lines good s less is = holdings_behind lines start 1 s good less is
