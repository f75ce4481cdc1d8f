-- The deals of a text, each with its holdings and the calls on it.
-- Assumes nothing.
use Rattle.std.specs.Prelude.{ℕ, ◌+◌, List, [], ◌∷◌, length, drop, Some, None, Option}
use Rattle.schedules.specs.declared.deal.Deal.{Deal}
use Rattle.register.specs.Calls.{Call}
use Rattle.text.specs.declared.line.Line.{Line}
use Rattle.text.specs.declared.line.Terms.{Terms}
use Rattle.report.specs.Parts.{part, terms_in, holding_in, call_in, leading}

-- a call, and the number of its line
pub record CallLine : Type 0 where
  pub line : ℕ
  pub call : Call

-- calls on lines from a number on
abbrev pub numbered : ℕ → List Call → List CallLine
numbered n [] = []
numbered n (call ∷ calls) = record { line = n; call = call } ∷ numbered (n + 1) calls

pub record DealLines : Type 0 where
  pub line : ℕ
  pub terms : Terms
  pub holdings : List ℕ
  pub calls : List CallLine

-- a deal at line n, with the lines behind it: its holdings, and then the calls
abbrev pub deal_at : ℕ → Terms → List Line → DealLines
deal_at n terms behind =
    let holdings = leading holding_in behind in
    record {
      line = n;
      terms = terms;
      holdings = holdings;
      calls = numbered (n + 1 + length holdings) (leading call_in (drop (length holdings) behind));
    }

abbrev pub deal_first : Option Terms → ℕ → List Line → List DealLines → List DealLines
deal_first None n behind later = later
deal_first (Some terms) n behind later = deal_at n terms behind ∷ later

-- the deals of lines that are numbered from n on
abbrev pub deals_from : ℕ → List Line → List DealLines
deals_from n [] = []
deals_from n (l ∷ ls) = deal_first (terms_in (part l)) n ls (deals_from (n + 1) ls)

abbrev pub deals_of : List Line → List DealLines
deals_of lines = deals_from 1 lines

-- the places of the deals among the lines, counted from i
abbrev pub start_first : Option Terms → ℕ → List ℕ → List ℕ
start_first None i later = later
start_first (Some terms) i later = i ∷ later

abbrev pub starts_from : ℕ → List Line → List ℕ
starts_from i [] = []
starts_from i (l ∷ ls) = start_first (terms_in (part l)) i (starts_from (i + 1) ls)

abbrev pub starts_of : List Line → List ℕ
starts_of lines = starts_from 0 lines

-- the deal that is scheduled
abbrev pub scheduled_deal : Terms → Deal
scheduled_deal terms =
    record {
      start = terms.start.value;
      end = terms.end.value;
      months = terms.months.value;
      stub = terms.stub.value;
      convention = terms.convention.value;
    }
