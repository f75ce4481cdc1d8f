-- A text that was read, as a ledger is opened with it.
-- Assumes nothing.
use Rattle.std.proofs.Common.{◌≡◌, ℕ, ◌+◌, ◌<◌, ◌≤◌, List, length, get_or, take, drop, Ok, Err, Result, subst, ⊎_elim, arith, MatchResult}
use Rattle.std.proofs.lemmas.List.{length-take-le}
use Rattle.std.proofs.lemmas.Bool.{cases_lt}
use Rattle.text.specs.Laws.{TextLaw, GoodLines, Refused}
use Rattle.text.specs.Marks.{start}
use Rattle.text.specs.Meaning.{longest_text, meaning}
use Rattle.text.specs.Reading.{line_count, AllRead, Reads}
use Rattle.text.specs.Spelled.{written}
use Rattle.text.specs.declared.fault.Fault.{Fault}
use Rattle.text.specs.declared.line.Line.{Line}
use Rattle.text.specs.declared.unread.Unread.{Unread}
use Rattle.report.specs.Deals.{starts_of}
use Rattle.report.specs.Parts.{holding_in, leading}
use Rattle.report.proofs.DealPlaces.{nth_deal, terms_from_deal}
use Rattle.report.proofs.GoodCount.{good_count}
use Rattle.report.proofs.GoodHoldings.{good_holdings}

pub record ReadWell (text : List ℕ) (table : List Line) (n : ℕ) (after : List Line) : Type 0 where
  pub short : length text ≤ longest_text
  pub room : line_count text ≤ length table
  pub all : AllRead text table n after

never : (n : ℕ) (e : Unread) → ◌≡◌ {A = Result ℕ Unread} (Ok n) (Err e) → ⊥
never n e bad = let z : ◌≡◌ {A = ℕ} 0 1 = cc in omega arith

pub read_well : (text : List ℕ) (table : List Line) (n : ℕ) (after : List Line) → Reads text table (Ok n) after → ReadWell text table n after
read_well text table n after reads =
    ⊎_elim (λ long. absurd (never n _ (reads.too_long long).0))
    (λ short.
    ⊎_elim (λ less. absurd (never n _ (reads.no_room short less).0))
    (λ room. record { short = short; room = room; all = reads.fits short room })
    (cases_lt (length table) (line_count text)))
    (cases_lt longest_text (length text))

-- its lines are good, and at most as many as a text has bytes
good_of :
    (text : List ℕ) (r : Result (List Line) Fault) (lines : List Line) → r ≡ Ok lines → TextLaw text r →
    GoodLines start 1 lines × (written lines ≡ text)
good_of text r lines is law =
    subst (λ (s : Result (List Line) Fault). MatchResult s (λ ls. GoodLines start 1 ls × (written ls ≡ text)) (λ fault. Refused text fault)) is
    law.read_and_written_again

pub lines_good :
    (text : List ℕ) (table : List Line) (n : ℕ) (after : List Line) → ReadWell text table n after → TextLaw text (meaning text) →
    GoodLines start 1 (take n after) × (n ≤ 65536)
lines_good text table n after well law =
    let good = good_of text (meaning text) (take n after) well.all.lines law in
    let count = good_count (take n after) text good.1 in
    (good.0, omega (arith, count, length-take-le n after well.all.within, well.short))

-- no holder too many, at each deal
pub few_holders :
    (lines : List Line) → GoodLines start 1 lines → (k : ℕ) → k < length (starts_of lines) →
    length (leading holding_in (drop (get_or (starts_of lines) k 0 + 1) lines)) ≤ 16
few_holders lines good k less =
    let there = nth_deal lines k less in
    good_holdings lines good (get_or (starts_of lines) k 0) there.terms there.inside
    (terms_from_deal _ _ there.is_deal)
