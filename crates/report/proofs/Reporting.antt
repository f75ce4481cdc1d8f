-- The report of the deal at a place among the lines.
-- Assumes nothing.
use Rattle.std.proofs.Common.{◌≡◌, ℕ, ◌+◌, ◌<◌, ◌≤◌, List, length, get_or, drop, ℤ, Some, None, Ok, Err, Option, Result, sym, ap, ◌∙◌, subst, arith, MatchResult}
use Rattle.std.specs.List.{slice_get}
use Rattle.std.proofs.lemmas.Option.{slice_get-get_or, slice_get_past}
use Rattle.days.specs.declared.refusal.Refusal.TheVariants.{NoSuchDeal}
use Rattle.text.specs.declared.line.Line.{Line}
use Rattle.text.specs.declared.line.Line.TheVariants as line
use Rattle.text.specs.declared.line.Terms.{Terms}
use Rattle.text.specs.declared.unread.Unread.{Unread}
use Rattle.writing.specs.Laying.{Laid}
use Rattle.writing.specs.declared.laying.Full.{Full}
use Rattle.writing.proofs.Lays.{laid_end, laid_full, laid_length}
use Rattle.report.specs.Deals.{DealLines, starts_of, deals_of, deal_at}
use Rattle.report.specs.Ledgers.{stopped_by, DealReported, ReportOf, Reported}
use Rattle.report.specs.Opened.{unless_refused}
use Rattle.report.specs.Parts.{mask_of, days_of, offsets_of, closes, closed_by}
use Rattle.report.specs.Reports.{report_lines}
use Rattle.report.specs.declared.stopped.Stopped.{Stopped}
use Rattle.report.proofs.DealPlaces.{nth_deal, as_many_deals}

-- the deal is the one that its place names
pub deal_there :
    (lines : List Line) (k s : ℕ) (terms : Terms) → k < length (starts_of lines) → s ≡ get_or (starts_of lines) k 0 →
    get_or lines s line.Posting ≡ line.Deal terms →
    slice_get (deals_of lines) k ≡ Some (deal_at (s + 1) terms (drop (s + 1) lines))
deal_there lines k s terms less is found =
    let there = nth_deal lines k less in
    let at_s = ap (λ i. get_or lines i line.Posting) is ∙ there.is_deal in
    let same : terms ≡ there.terms = cc in
    let d = deal_at (s + 1) terms (drop (s + 1) lines) in
    let inside : k < length (deals_of lines) = omega (arith, as_many_deals 1 0 lines) in
    slice_get-get_or (deals_of lines) k d inside
    ∙ ap Some
    (there.deal d
    ∙ (ap (λ i. deal_at (i + 1) there.terms (drop (i + 1) lines)) (sym is)
    ∙ ap (λ t. deal_at (s + 1) t (drop (s + 1) lines)) (sym same)))

-- no line but a deal stands there
pub deal_stands :
    (lines : List Line) (k s : ℕ) → k < length (starts_of lines) → s ≡ get_or (starts_of lines) k 0 →
    ((terms : Terms) → get_or lines s line.Posting ≡ line.Deal terms → ⊥) → ⊥
deal_stands lines k s less is other =
    let there = nth_deal lines k less in other there.terms (ap (λ i. get_or lines i line.Posting) is ∙ there.is_deal)

-- the closed days are those of the lines, and so is what stands behind the deal
pub deal_reported :
    (lines : List Line) (k s : ℕ) (terms : Terms) (offsets : List ℤ) (days : List ℕ) (mask : ℕ) (behind : List Line) (buffer : List ℕ)
    (r : Result ℕ Full) (after : List ℕ) → offsets ≡ offsets_of lines → days ≡ days_of lines → mask ≡ mask_of lines →
    behind ≡ drop (s + 1) lines → slice_get (deals_of lines) k ≡ Some (deal_at (s + 1) terms (drop (s + 1) lines)) →
    Laid (report_lines (closes offsets days mask) (deal_at (s + 1) terms behind)) buffer 0 r after →
    DealReported lines (slice_get (deals_of lines) k) buffer r after
deal_reported lines k s terms offsets days mask behind buffer r after o d m b is laid =
    let closed = ap (λ x. closes x days mask) o ∙ (ap (λ x. closes (offsets_of lines) x mask) d ∙ ap (closes (offsets_of lines) (days_of lines)) m) in
    let same =
    ap (λ c. report_lines c (deal_at (s + 1) terms behind)) closed
    ∙ ap (λ x. report_lines (closed_by lines) (deal_at (s + 1) terms x)) b
    in
    subst (λ (x : Option DealLines). DealReported lines x buffer r after) (sym is)
    (subst (λ (ls : List (List ℕ)). Laid ls buffer 0 r after) same laid)

-- past the last deal there is none
pub no_such_deal :
    (lines : List Line) (k : ℕ) (buffer : List ℕ) (r : Result ℕ Stopped) (after : List ℕ) → length (starts_of lines) ≤ k →
    r ≡ Err (stopped_by NoSuchDeal 0) → after ≡ buffer → ReportOf lines (slice_get (deals_of lines) k) buffer r after
no_such_deal lines k buffer r after past is same =
    let none : length (deals_of lines) ≤ k = omega (arith, as_many_deals 1 0 lines) in
    subst (λ (x : Option DealLines). ReportOf lines x buffer r after) (sym (slice_get_past (deals_of lines) k none)) (is, same)

-- a text that was not refused is its lines
pub of_the_lines :
    (refused : Option Unread) (lines : List Line) (k : ℕ) (buffer : List ℕ) (r : Result ℕ Stopped) (after : List ℕ) → refused ≡ None →
    ReportOf lines (slice_get (deals_of lines) k) buffer r after → Reported (unless_refused refused lines) k buffer r after
of_the_lines refused lines k buffer r after is report =
    subst (λ (o : Option Unread). Reported (unless_refused o lines) k buffer r after) (sym is) report

-- what is written lies within the buffer
pub laid_within :
    (lines : List (List ℕ)) (buffer : List ℕ) (r : Result ℕ Full) (after : List ℕ) → Laid lines buffer 0 r after →
    MatchResult r (λ end. end ≤ length after) (λ full. full.written ≤ length after)
laid_within lines buffer (Ok end) after laid =
    omega (arith, (laid_end lines buffer 0 end after (omega arith) laid).1, laid_length lines buffer 0 (Ok end) after laid)
laid_within lines buffer (Err full) after laid =
    omega (arith, (laid_full lines buffer 0 full after (omega arith) laid).1, laid_length lines buffer 0 (Err full) after laid)
