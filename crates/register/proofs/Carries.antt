-- Each call carries the law on, and a run of calls keeps it.
-- Assumes nothing.
use Rattle.std.proofs.Common.{◌≡◌, ℕ, Some, None, Ok, Err, Result, sym, ap, ◌∙◌}
use Rattle.days.specs.Refusals.{told}
use Rattle.days.specs.declared.refusal.Refusal.{Refusal}
use Rattle.counts.specs.Counting.{asked, Lawful}
use Rattle.register.specs.Calls.{Call, judge}
use Rattle.register.specs.Journal.{journal, state_of}
use Rattle.register.specs.Mirrors.{Follows, CarriesOn}
use Rattle.register.specs.Rules.{View}
use Rattle.register.specs.Registers.{GoesByRule, GoesByLaw}
use Rattle.register.specs.Views.{view_of}
use Rattle.register.specs.declared.state.Register.{Register}
use Rattle.register.proofs.Law.{call_law}
use Rattle.register.proofs.Sound.{journal_sound, journal_accepts, journal_refuses}

module _ (c0 : ℕ → ℕ → ℕ) (per : ℕ) (lawful : Lawful c0 per) where
  pub carries_on :
      (v : View) (call : Call) (v' : View) (r : Result ℕ Refusal) → Follows (asked c0) per v call v' r →
      CarriesOn (asked c0) per v call v' r
  carries_on v call v' (Ok n) follows calls m =
      let judged : judge (state_of (journal calls)) call ≡ None = sym (ap (λ s. judge s call) m.state) ∙ follows.0 in
      let after = call_law c0 per lawful (journal calls) (journal_sound calls) v m call judged in
      (rw (journal_accepts calls call judged, follows.1) after, judged)
  carries_on v call v' (Err e) follows calls m =
      let judged : judge (state_of (journal calls)) call ≡ Some (told e) = sym (ap (λ s. judge s call) m.state) ∙ follows.0 in
      (rw (journal_refuses calls call (told e) judged, follows.1) m, judged)

-- a call that goes by its rule goes by the law
module _ {D : Type 0} (counted : D → ℕ → ℕ → ℕ) (per : ℕ) (lawful : (basis : D) → Lawful (counted basis) per) where
  pub by_law :
      (old : Register D) (call : Call) (new : Register D) (r : Result ℕ Refusal) →
      GoesByRule counted per old call new r → GoesByLaw counted per old call new r
  by_law old call new r by =
      record {
        basis = by.basis;
        rule = by.rule;
        law = carries_on (counted old.basis) per (lawful old.basis) (view_of old) call (view_of new) r by.rule;
      }
