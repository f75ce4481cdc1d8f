-- Where the deals of a text stand among its lines.
-- Assumes nothing.
use Rattle.std.proofs.Common.{◌≡◌, ℕ, zero, suc, ◌+◌, ◌<◌, ◌≤◌, List, [], ◌∷◌, length, get_or, drop, Some, None, Option, sym, refl, ap, ◌∙◌, subst, add-one, arith}
use Rattle.text.specs.declared.line.Line.{Line}
use Rattle.text.specs.declared.line.Line.TheVariants as line
use Rattle.text.specs.declared.line.Terms.{Terms}
use Rattle.report.specs.Deals.{DealLines, deal_at, deal_first, deals_from, deals_of, start_first, starts_from, starts_of}
use Rattle.report.specs.Parts.{part, terms_in}

absent : {X : Type 0} {P : Type 0} (x : X) → None ≡ Some x → P
absent x e = let z : ◌≡◌ {A = ℕ} 0 1 = cc in absurd (omega arith)

-- only a deal's line has terms, and it has its own
pub deal_from_terms : (l : Line) (terms : Terms) → terms_in (part l) ≡ Some terms → l ≡ line.Deal terms
deal_from_terms line.Posting terms e = absent terms e
deal_from_terms (line.Pattern it) terms e = absent terms e
deal_from_terms (line.ClosedDay it) terms e = absent terms e
deal_from_terms (line.Offset it) terms e = absent terms e
deal_from_terms (line.Deal it) terms e = cc
deal_from_terms (line.Holding it) terms e = absent terms e
deal_from_terms (line.Advance it) terms e = absent terms e
deal_from_terms (line.Transfer from to amount) terms e = absent terms e
deal_from_terms (line.Redemption holder amount) terms e = absent terms e
deal_from_terms (line.Payment it) terms e = absent terms e

pub terms_from_deal : (l : Line) (terms : Terms) → l ≡ line.Deal terms → terms_in (part l) ≡ Some terms
terms_from_deal l terms e = ap (λ x. terms_in (part x)) e

-- one place for each deal
as_many_here :
    (o : Option Terms) (n i : ℕ) (ls : List Line) → length (starts_from (i + 1) ls) ≡ length (deals_from (n + 1) ls) →
    length (start_first o i (starts_from (i + 1) ls)) ≡ length (deal_first o n ls (deals_from (n + 1) ls))
as_many_here None n i ls e = e
as_many_here (Some terms) n i ls e = ap suc e

pub as_many_deals : (n i : ℕ) (lines : List Line) → length (starts_from i lines) ≡ length (deals_from n lines)
as_many_deals n i [] = refl
as_many_deals n i (l ∷ ls) = as_many_here (terms_in (part l)) n i ls (as_many_deals (n + 1) (i + 1) ls)

-- no more deals than lines
fewer_here :
    (o : Option Terms) (i : ℕ) (ls : List Line) → length (starts_from (i + 1) ls) ≤ length ls →
    length (start_first o i (starts_from (i + 1) ls)) ≤ suc (length ls)
fewer_here None i ls h = omega arith
fewer_here (Some terms) i ls h = omega arith

fewer_deals : (i : ℕ) (lines : List Line) → length (starts_from i lines) ≤ length lines
fewer_deals i [] = omega arith
fewer_deals i (l ∷ ls) = fewer_here (terms_in (part l)) i ls (fewer_deals (i + 1) ls)

-- the k-th deal of lines that are numbered from n on stands at this place among them
record DealHere (n : ℕ) (lines : List Line) (k place : ℕ) : Type 0 where
  inside : place < length lines
  terms : Terms
  is_deal : get_or lines place line.Posting ≡ line.Deal terms
  deal : (d : DealLines) → get_or (deals_from n lines) k d ≡ deal_at (n + place) terms (drop (suc place) lines)

-- and this place is the k-th, counted from i
abbrev Found : ℕ → ℕ → List Line → ℕ → Type 0
Found n i lines k = (place : ℕ) × (get_or (starts_from i lines) k 0 ≡ i + place) × DealHere n lines k place

numbered_on : (n place : ℕ) (terms : Terms) (ls : List Line) → deal_at (n + 1 + place) terms ls ≡ deal_at (n + suc place) terms ls
numbered_on n place terms ls = let e : n + 1 + place ≡ n + suc place = omega arith in ap (λ m. deal_at m terms ls) e

-- the k-th of all is the j-th of those behind the first line
found_on :
    (n i : ℕ) (l : Line) (ls : List Line) (k j : ℕ) →
    get_or (starts_from i (l ∷ ls)) k 0 ≡ get_or (starts_from (i + 1) ls) j 0 →
    ((d : DealLines) → get_or (deals_from n (l ∷ ls)) k d ≡ get_or (deals_from (n + 1) ls) j d) →
    Found (n + 1) (i + 1) ls j → Found n i (l ∷ ls) k
found_on n i l ls k j start deal (place, at, here) = (
  suc place,
  omega arith,
  record {
    inside = omega (arith, here.inside);
    terms = here.terms;
    is_deal = here.is_deal;
    deal = λ d. deal d ∙ here.deal d ∙ numbered_on n place here.terms (drop (suc place) ls);
  },
)

found_first :
    (n i : ℕ) (l : Line) (ls : List Line) (terms : Terms) → terms_in (part l) ≡ Some terms → Found n i (l ∷ ls) 0
found_first n i l ls terms some = (
  0,
  rw some (omega arith),
  record {
    inside = omega arith;
    terms = terms;
    is_deal = deal_from_terms l terms some;
    deal = λ d. rw some (let e : n ≡ n + 0 = omega arith in ap (λ m. deal_at m terms ls) e);
  },
)

found_by :
    (o : Option Terms) (n i : ℕ) (l : Line) (ls : List Line) (k : ℕ) → terms_in (part l) ≡ o →
    ((j : ℕ) → j < length (starts_from (i + 1) ls) → Found (n + 1) (i + 1) ls j) →
    k < length (start_first o i (starts_from (i + 1) ls)) → Found n i (l ∷ ls) k
found_by None n i l ls k e behind less = found_on n i l ls k k (rw e refl) (λ d. rw e refl) (behind k less)
found_by (Some terms) n i l ls zero e behind less = found_first n i l ls terms e
found_by (Some terms) n i l ls (suc k) e behind less =
    found_on n i l ls (suc k) k (rw e refl) (λ d. rw e refl) (behind k (omega arith))

found : (n i : ℕ) (lines : List Line) (k : ℕ) → k < length (starts_from i lines) → Found n i lines k
found n i [] k less = absurd (omega arith)
found n i (l ∷ ls) k less = found_by (terms_in (part l)) n i l ls k refl (found (n + 1) (i + 1) ls) less

-- the k-th deal is that of the line at s, with the lines behind it
pub record NthDeal (lines : List Line) (k s : ℕ) : Type 0 where
  pub inside : s < length lines
  pub terms : Terms
  pub is_deal : get_or lines s line.Posting ≡ line.Deal terms
  pub deal : (d : DealLines) → get_or (deals_of lines) k d ≡ deal_at (s + 1) terms (drop (s + 1) lines)

deal_there :
    (n s : ℕ) (terms : Terms) (lines : List Line) → s + 1 ≡ n →
    deal_at n terms (drop (suc s) lines) ≡ deal_at (s + 1) terms (drop (s + 1) lines)
deal_there n s terms lines e =
    ap (λ m. deal_at m terms (drop (suc s) lines)) (sym e) ∙ ap (λ m. deal_at (s + 1) terms (drop m lines)) (sym (add-one s))

nth_here : (lines : List Line) (k s : ℕ) → DealHere 1 lines k s → NthDeal lines k s
nth_here lines k s here =
    record {
      inside = here.inside;
      terms = here.terms;
      is_deal = here.is_deal;
      deal = λ d. here.deal d ∙ deal_there (1 + s) s here.terms lines (omega arith);
    }

-- the k-th start and the k-th deal belong together
pub nth_deal : (lines : List Line) (k : ℕ) → k < length (starts_of lines) → NthDeal lines k (get_or (starts_of lines) k 0)
nth_deal lines k less =
    let f = found 1 0 lines k less in
    let same : f.0 ≡ get_or (starts_of lines) k 0 = omega (arith, f.1) in
    subst (λ s. NthDeal lines k s) same (nth_here lines k f.0 f.2)
