-- The schedule that a table begins with, or its refusal.
-- Assumes nothing.
use Rattle.std.proofs.Common.{◌≡◌, ℕ, Bool, List, [], ◌∷◌, length, take, drop, IfOk, Ok, Err, Result, sym, ap, ◌∙◌, subst}
use Rattle.std.proofs.lemmas.List.{take_at}
use Rattle.days.specs.Refusals.{Told, told}
use Rattle.days.specs.declared.refusal.Refusal.{Refusal}
use Rattle.schedules.specs.Schedule.{Answers, ByRule, scheduled}
use Rattle.schedules.specs.declared.deal.Deal.{Deal}
use Rattle.register.specs.Calls.{opening}
use Rattle.register.specs.Rules.{View}
use Rattle.register.specs.Runs.{outcome}
use Rattle.writing.specs.declared.laying.Full.{Full}
use Rattle.report.specs.Pages.{LaidOn}
use Rattle.report.specs.Printed.{sc_lines, no_line}
use Rattle.report.specs.Reports.{opening_lines, front_lines}
use Rattle.report.specs.declared.page.Page.{Page}
use Rattle.report.proofs.Pages.{on_more, on_stops}

pub scheduled_ok :
    (s : Result (List ℕ) Told) (table after : List ℕ) (count : ℕ) → Answers s table (Ok count) after → s ≡ Ok (take count after)
scheduled_ok (Ok days) table after count (is, holds) =
    ap Ok (sym (ap (take count) holds ∙ take_at days (drop (length days) table) count (sym is)))
scheduled_ok (Err why) table after count bad = absurd bad

pub scheduled_err :
    (s : Result (List ℕ) Told) (table after : List ℕ) (e : Refusal) → Answers s table (Err e) after → s ≡ Err (told e)
scheduled_err (Ok days) table after e bad = absurd bad
scheduled_err (Err why) table after e (is, same) = ap Err (sym is)

-- the deal and the room by their own names
pub schedule_here :
    (closed : ℕ → Bool) (deal deal' : Deal) (table after : List ℕ) (count : ℕ) → deal ≡ deal' → length table ≡ 481 →
    ByRule closed deal table (Ok count) after → scheduled closed deal' 481 ≡ Ok (take count after)
schedule_here closed deal deal' table after count same room rule =
    sym (ap (λ d. scheduled closed d 481) same) ∙ (sym (ap (λ n. scheduled closed deal n) room)
    ∙ scheduled_ok (scheduled closed deal (length table)) table after count rule)

pub refused_here :
    (closed : ℕ → Bool) (deal deal' : Deal) (table after : List ℕ) (e : Refusal) → deal ≡ deal' → length table ≡ 481 →
    ByRule closed deal table (Err e) after → scheduled closed deal' 481 ≡ Err (told e)
refused_here closed deal deal' table after e same room rule =
    sym (ap (λ d. scheduled closed d 481) same) ∙ (sym (ap (λ n. scheduled closed deal n) room)
    ∙ scheduled_err (scheduled closed deal (length table)) table after e rule)

module _
    (count : ℕ → ℕ → ℕ) (per : ℕ) (v : View) (rate : ℕ) (holdings : List ℕ) (line : ℕ) (s : Result (List ℕ) Told)
    (before after : Page) where
  pub front_stops :
      (days : List ℕ) (full : Full) → s ≡ Ok days → LaidOn (sc_lines 0 days) before (Err full) after →
      LaidOn (front_lines count per v rate holdings line s) before (Err full) after
  front_stops days full is laid =
      subst (λ (t : Result (List ℕ) Told). LaidOn (front_lines count per v rate holdings line t) before (Err full) after) (sym is)
      (on_stops (sc_lines 0 days) (opening_lines (outcome count per v (opening days rate holdings)) line) before after full laid)

  pub front_opens :
      (days : List ℕ) (mid : Page) (r : Result (Unit {0}) Full) → s ≡ Ok days → LaidOn (sc_lines 0 days) before (Ok tt) mid →
      LaidOn (opening_lines (outcome count per v (opening days rate holdings)) line) mid r after →
      LaidOn (front_lines count per v rate holdings line s) before r after
  front_opens days mid r is dates opened =
      subst (λ (t : Result (List ℕ) Told). LaidOn (front_lines count per v rate holdings line t) before r after) (sym is)
      (on_more (sc_lines 0 days) (opening_lines (outcome count per v (opening days rate holdings)) line) before mid after r dates opened)

  pub front_refused :
      (why : Told) (text : List ℕ) (r : Result (Unit {0}) Full) → s ≡ Err why → text ≡ no_line why line →
      LaidOn (text ∷ []) before r after → LaidOn (front_lines count per v rate holdings line s) before r after
  front_refused why text r is same laid =
      subst (λ (t : Result (List ℕ) Told). LaidOn (front_lines count per v rate holdings line t) before r after) (sym is)
      (subst (λ (t : List ℕ). LaidOn (t ∷ []) before r after) same laid)

-- what holds at any answer holds at an accepted one
pub whatever : {P : Type 0} (r : Result (Unit {0}) Full) → P → IfOk r (λ _. P)
whatever (Ok done) p = p
whatever (Err full) p = tt
