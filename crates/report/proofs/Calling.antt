-- A call on a line, and what it leaves to the calls behind it.
-- Assumes nothing.
use Rattle.std.proofs.Common.{◌≡◌, ℕ, ◌+◌, ◌<◌, ◌≤◌, List, [], ◌∷◌, length, get_or, drop, Some, None, Ok, Err, Option, Result, sym, refl, ap, ◌∙◌, subst, arith}
use Rattle.std.proofs.lemmas.List.{at_drop_more, at_drop_all}
use Rattle.days.specs.Refusals.{Told}
use Rattle.days.specs.declared.refusal.Refusal.{Refusal}
use Rattle.register.specs.Calls.{Call}
use Rattle.register.specs.Mirrors.{Follows}
use Rattle.register.specs.Rules.{View}
use Rattle.register.specs.Runs.{stepped, outcome, run, left_by, said_by}
use Rattle.text.specs.declared.line.Line.{Line}
use Rattle.text.specs.declared.line.Line.TheVariants.{Posting}
use Rattle.report.specs.Deals.{numbered}
use Rattle.report.specs.Parts.{part, call_in, lead, leading}
use Rattle.report.specs.Printed.{answer_line}
use Rattle.report.specs.Reports.{call_lines, opening_lines, Called, seen}
use Rattle.report.specs.Pages.{LaidOn}
use Rattle.report.specs.declared.page.Page.{Page}
use Rattle.report.proofs.Pages.{on_none}

-- a call that follows the rules leaves and answers what they say
pub left_by_rule :
    (count : ℕ → ℕ → ℕ) (per : ℕ) (v v' : View) (call : Call) (r : Result ℕ Refusal) → Follows count per v call v' r →
    (v' ≡ stepped count per v call) × (seen r ≡ outcome count per v call)
left_by_rule count per v v' call (Ok n) (judged, left, said) = (
  left ∙ sym (ap (left_by count per v call) judged),
  ap Ok said ∙ sym (ap (said_by count per v call) judged),
)
left_by_rule count per v v' call (Err e) (judged, same) = (
  same ∙ sym (ap (left_by count per v call) judged),
  sym (ap (said_by count per v call) judged),
)

pub record Step
    (count : ℕ → ℕ → ℕ) (per : ℕ) (v v' : View) (n : ℕ) (calls later : List Call) (answer : Result ℕ Refusal) : Type 0 where
  pub lines :
      call_lines count per v (numbered n calls)
      ≡ answer_line (seen answer) n ∷ call_lines count per v' (numbered (n + 1) later)
  pub end : run count per v calls ≡ run count per v' later

made_step :
    (count : ℕ → ℕ → ℕ) (per : ℕ) (v v' : View) (n : ℕ) (later : List Call) (answer : Result ℕ Refusal) (o : Option Call) →
    Called count per v o v' (Some answer) → Step count per v v' n (lead o later) later answer
unfolding run
made_step count per v v' n later answer None (bad, same) = let z : ◌≡◌ {A = ℕ} 0 1 = cc in absurd (omega arith)
made_step count per v v' n later answer (Some call) follows =
    let by = left_by_rule count per v v' call answer follows in
    record {
      lines =
          ap (λ a. answer_line a n ∷ call_lines count per (stepped count per v call) (numbered (n + 1) later)) (sym by.1)
          ∙ ap (λ w. answer_line (seen answer) n ∷ call_lines count per w (numbered (n + 1) later)) (sym by.0);
      end = ap (λ w. run count per w later) (sym by.0);
    }

-- the line at index i, where it is a call
pub call_step :
    (count : ℕ → ℕ → ℕ) (per : ℕ) (v v' : View) (lines : List Line) (number i : ℕ) (answer : Result ℕ Refusal) →
    i < length lines → Called count per v (call_in (part (get_or lines i Posting))) v' (Some answer) →
    (call_lines count per v (numbered (number + i) (leading call_in (drop i lines)))
    ≡ answer_line (seen answer) (number + i) ∷ call_lines count per v' (numbered (number + (i + 1)) (leading call_in (drop (i + 1) lines))))
    × (run count per v (leading call_in (drop i lines)) ≡ run count per v' (leading call_in (drop (i + 1) lines)))
call_step count per v v' lines number i answer inside called =
    let is = at_drop_more (leading call_in) lines i Posting inside in
    let later = leading call_in (drop (i + 1) lines) in
    let step = made_step count per v v' (number + i) later answer (call_in (part (get_or lines i Posting))) called in
    let next : number + i + 1 ≡ number + (i + 1) = omega arith in (
      ap (λ cs. call_lines count per v (numbered (number + i) cs)) is
          ∙ (step.lines ∙ ap (λ k. answer_line (seen answer) (number + i) ∷ call_lines count per v' (numbered k later)) next),
      ap (λ cs. run count per v cs) is ∙ step.end,
    )

-- no call is left
pub record Over (count : ℕ → ℕ → ℕ) (per : ℕ) (v : View) (n : ℕ) (calls : List Call) : Type 0 where
  pub lines : call_lines count per v (numbered n calls) ≡ []
  pub end : run count per v calls ≡ v

over : (count : ℕ → ℕ → ℕ) (per : ℕ) (v : View) (n : ℕ) (calls : List Call) → calls ≡ [] → Over count per v n calls
unfolding run
over count per v n calls none =
    subst (λ (cs : List Call). Over count per v n cs) (sym none) (record { lines = refl; end = refl })

none_called :
    (count : ℕ → ℕ → ℕ) (per : ℕ) (v v' : View) (o : Option Call) (later : List Call) → Called count per v o v' None →
    (lead o later ≡ []) × (v' ≡ v)
none_called count per v v' None later (is, same) = (refl, same)
none_called count per v v' (Some call) later bad = absurd bad

-- the line at index i, where it is no call
pub call_ends :
    (count : ℕ → ℕ → ℕ) (per : ℕ) (v v' : View) (lines : List Line) (number i : ℕ) → i < length lines →
    Called count per v (call_in (part (get_or lines i Posting))) v' None →
    Over count per v (number + i) (leading call_in (drop i lines)) × (v' ≡ v)
call_ends count per v v' lines number i inside called =
    let none = none_called count per v v' (call_in (part (get_or lines i Posting))) (leading call_in (drop (i + 1) lines)) called in
    (over count per v (number + i) _ (at_drop_more (leading call_in) lines i Posting inside ∙ none.0), none.1)

-- or the lines are at their end
pub call_none :
    (count : ℕ → ℕ → ℕ) (per : ℕ) (v : View) (lines : List Line) (number i : ℕ) → length lines ≤ i →
    Over count per v (number + i) (leading call_in (drop i lines))
call_none count per v lines number i past =
    over count per v (number + i) _ (at_drop_all (leading call_in) lines i past)

-- an opening that is accepted prints nothing
pub nothing_printed :
    (r : Result ℕ Told) (n line : ℕ) (page : Page) → Ok n ≡ r → LaidOn (opening_lines r line) page (Ok tt) page
nothing_printed r n line page is =
    subst (λ (s : Result ℕ Told). LaidOn (opening_lines s line) page (Ok tt) page) is (on_none page)
