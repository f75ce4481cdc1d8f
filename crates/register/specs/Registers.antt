-- What a call does to a register, whose day count counts by `counted` over the denominator `per`.
-- Assumes nothing.
use Rattle.std.specs.Prelude.{◌≡◌, ℕ, Result}
use Rattle.counts.specs.Counting.{asked}
use Rattle.days.specs.declared.refusal.Refusal.{Refusal}
use Rattle.register.specs.declared.state.Register.{Register}
use Rattle.register.specs.Calls.{Call}
use Rattle.register.specs.Mirrors.{Follows, CarriesOn}
use Rattle.register.specs.Views.{view_of}

module _ {D : Type 0} (counted : D → ℕ → ℕ → ℕ) (per : ℕ) where
  -- it keeps the day count, and goes by the call's rule
  pub record GoesByRule (old : Register D) (call : Call) (new : Register D) (r : Result ℕ Refusal) : Type 0 where
    pub basis : new.basis ≡ old.basis
    pub rule : Follows (asked (counted old.basis)) per (view_of old) call (view_of new) r

  -- and carries the law of interest on
  pub record GoesByLaw (old : Register D) (call : Call) (new : Register D) (r : Result ℕ Refusal) : Type 0 where
    pub basis : new.basis ≡ old.basis
    pub rule : Follows (asked (counted old.basis)) per (view_of old) call (view_of new) r
    pub law : CarriesOn (asked (counted old.basis)) per (view_of old) call (view_of new) r
