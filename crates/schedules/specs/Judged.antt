-- A deal that its term and its months let pass, and why another is refused.
-- Assumes nothing.
use Rattle.std.specs.Prelude.{◌≡◌, true, false, ◌⊎◌}
use Rattle.days.specs.Refusals.{told, answer}
use Rattle.days.specs.declared.refusal.Layer.TheVariants.{Deal as DealLayer}
use Rattle.days.specs.declared.refusal.Refusal.{Refusal}
use Rattle.schedules.specs.declared.deal.Deal.{Deal}
use Rattle.schedules.specs.Dates.{good_term, good_months}

pub record IsGood (deal : Deal) : Type 0 where
  pub term : good_term deal ≡ true
  pub months : good_months deal.months ≡ true

-- the term is judged first
abbrev pub RefusedDeal : Deal → Refusal → Type 0
RefusedDeal deal why =
    ((good_term deal ≡ false) × (told why ≡ answer 9 DealLayer 0))
    ⊎ ((good_term deal ≡ true) × (good_months deal.months ≡ false) × (told why ≡ answer 10 DealLayer 0))
