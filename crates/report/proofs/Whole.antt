-- The three parts of a report, one behind another.
-- Assumes nothing.
use Rattle.std.proofs.Common.{◌≡◌, ℕ, ◌+◌, List, [], ◌∷◌, ◌++◌, map, Ok, Err, Result, sym, refl, ap, ◌∙◌}
use Rattle.days.specs.Refusals.{Told}
use Rattle.register.specs.Calls.{Call}
use Rattle.register.specs.Rules.{View, rows_in_use}
use Rattle.register.specs.declared.row.Row.{Row}
use Rattle.register.specs.Runs.{fresh_view, run}
use Rattle.writing.specs.declared.laying.Full.{Full}
use Rattle.report.specs.Deals.{numbered}
use Rattle.report.specs.Pages.{LaidOn}
use Rattle.report.specs.Printed.{st_lines}
use Rattle.report.specs.declared.page.Page.{Page}
use Rattle.report.specs.Reports.{played_lines, front_lines, front_view}
use Rattle.report.proofs.Pages.{on_more, on_stops, on_same}

pub numbered_calls : (n : ℕ) (calls : List Call) → map (λ c. c.call) (numbered n calls) ≡ calls
numbered_calls n [] = refl
numbered_calls n (call ∷ calls) = ap (λ cs. call ∷ cs) (numbered_calls (n + 1) calls)

-- the register and the holdings that the front is made with
pub front_is :
    (count count₁ : ℕ → ℕ → ℕ) (per : ℕ) (v₁ : View) (rate : ℕ) (holdings holdings₁ : List ℕ) (line : ℕ)
    (s : Result (List ℕ) Told) → count₁ ≡ count → v₁ ≡ fresh_view → holdings₁ ≡ holdings →
    (front_lines count₁ per v₁ rate holdings₁ line s ≡ front_lines count per fresh_view rate holdings line s)
    × (front_view count₁ per v₁ rate holdings₁ s ≡ front_view count per fresh_view rate holdings s)
front_is count count₁ per v₁ rate holdings holdings₁ line s same fresh copied = (
  ap (λ c. front_lines c per v₁ rate holdings₁ line s) same
      ∙ (ap (λ v. front_lines count per v rate holdings₁ line s) fresh
      ∙ ap (λ h. front_lines count per fresh_view rate h line s) copied),
  ap (λ c. front_view c per v₁ rate holdings₁ s) same
      ∙ (ap (λ v. front_view count per v rate holdings₁ s) fresh ∙ ap (λ h. front_view count per fresh_view rate h s) copied),
)

-- the calls are those of the deal
pub played_is :
    (count count₂ : ℕ → ℕ → ℕ) (per : ℕ) (v v₂ : View) (n n₂ : ℕ) (calls calls₂ : List Call) → count₂ ≡ count → v₂ ≡ v →
    n₂ ≡ n → calls₂ ≡ calls →
    played_lines count₂ per v₂ (numbered n₂ calls₂) ≡ played_lines count per v (numbered n calls)
played_is count count₂ per v v₂ n n₂ calls calls₂ same left place are =
    ap (λ c. played_lines c per v₂ (numbered n₂ calls₂)) same
    ∙ (ap (λ w. played_lines count per w (numbered n₂ calls₂)) left
    ∙ (ap (λ k. played_lines count per v (numbered k calls₂)) place ∙ ap (λ cs. played_lines count per v (numbered n cs)) are))

-- the rows of a register after calls
pub rows_are :
    (count : ℕ → ℕ → ℕ) (per : ℕ) (v v' : View) (n : ℕ) (calls : List Call) (rows : List Row) → v' ≡ run count per v calls →
    rows ≡ rows_in_use v' →
    st_lines 0 rows ≡ st_lines 0 (rows_in_use (run count per v (map (λ c. c.call) (numbered n calls))))
rows_are count per v v' n calls rows left are =
    ap (st_lines 0) are
    ∙ ap (λ w. st_lines 0 (rows_in_use w)) (left ∙ ap (λ cs. run count per v cs) (sym (numbered_calls n calls)))

-- a first part that did not fit, under another name
pub first_stops :
    (xs ys xs₁ : List (List ℕ)) (a b : Page) (full : Full) → xs₁ ≡ xs → LaidOn xs₁ a (Err full) b →
    LaidOn (xs ++ ys) a (Err full) b
first_stops xs ys xs₁ a b full is laid = on_stops xs ys a b full (on_same xs₁ xs a b (Err full) is laid)

-- two parts, under other names
pub both_laid :
    (xs ys xs₁ ys₁ : List (List ℕ)) (a b c : Page) (r : Result (Unit {0}) Full) → xs₁ ≡ xs → ys₁ ≡ ys →
    LaidOn xs₁ a (Ok tt) b → LaidOn ys₁ b r c → LaidOn (xs ++ ys) a r c
both_laid xs ys xs₁ ys₁ a b c r is are first second =
    on_more xs ys a b c r (on_same xs₁ xs a b (Ok tt) is first) (on_same ys₁ ys b c r are second)
