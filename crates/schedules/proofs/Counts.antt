-- The counted dates of a deal: they go on in one direction, and all but the last counted within the term lie inside.
-- Assumes nothing.
use Rattle.std.proofs.Common.{ℕ, ◌+◌, ◌-◌, ◌*◌, ◌<◌, ◌≤◌, mul-le-mul_right, mod-lt, add-mul, div-add-mod', arith}
use Rattle.days.specs.Within.{Within}
use Rattle.days.specs.Calendar.{day_of, last_day}
use Rattle.schedules.specs.declared.deal.Deal.{Deal}
use Rattle.schedules.specs.declared.deal.Stub.{Stub}
use Rattle.schedules.specs.declared.deal.Stub.TheVariants.{ShortFirst, ShortLast}
use Rattle.schedules.specs.Dates.{Sound, month_number, month_days, counted_by, steps}
use Rattle.schedules.proofs.MonthStarts.{on_day_within, day_from, month_within, earlier_month, month_mono}

-- the months of the term, and of k steps
abbrev pub term : Deal → ℕ
term deal = month_number deal.end - month_number deal.start

-- whether k steps stay within the calendar: there is no month before the first
abbrev pub Reaches : Stub → Deal → ℕ → Type 0
Reaches ShortFirst deal k = k * deal.months ≤ month_number deal.end
Reaches ShortLast deal k = Unit {0}

pub product_more : (j k m : ℕ) → j < k → j * m + m ≤ k * m
product_more j k m h =
    let e : (j + 1) * m ≤ k * m = mul-le-mul_right m (omega arith) in omega (arith, add-mul j 1 m)

module _ (deal : Deal) (sound : Sound deal) where
  pub months_rise : month_number deal.start ≤ month_number deal.end
  months_rise = month_mono deal.start deal.end (omega (arith, sound.rises)) sound.in_range

  pub steps_within : steps deal * deal.months ≤ term deal
  unfolding steps
  steps_within = omega (arith, div-add-mod' (term deal) deal.months)

  pub steps_most : term deal < steps deal * deal.months + deal.months
  unfolding steps
  steps_most = omega (arith, div-add-mod' (term deal) deal.months, mod-lt (term deal) sound.some_months)

  pub step_within : (k : ℕ) → k ≤ steps deal → k * deal.months ≤ term deal
  step_within k h = omega (arith, steps_within, mul-le-mul_right deal.months h)

  in_range : deal.start ≤ last_day
  in_range = omega (arith, sound.rises, sound.in_range)

  pub at_start : Within month_days deal.start (month_number deal.start)
  at_start = month_within deal.start in_range

  at_end : Within month_days deal.end (month_number deal.end)
  at_end = month_within deal.end sound.in_range

  -- the month of a counted date holds it
  pub forward_within :
      (k : ℕ) → Within month_days (counted_by ShortLast deal k) (month_number deal.start + k * deal.months)
  forward_within k = on_day_within _ (day_of deal.start) (day_from deal.start in_range)

  pub back_within :
      (k : ℕ) → Within month_days (counted_by ShortFirst deal k) (month_number deal.end - k * deal.months)
  back_within k = on_day_within _ (day_of deal.end) (day_from deal.end sound.in_range)

  -- a step at least is a month at least
  some_product : (k : ℕ) → 1 ≤ k → 1 ≤ k * deal.months
  some_product k h = omega (arith, product_more 0 k deal.months h, sound.some_months)

  pub forward_after_start : (k : ℕ) → 1 ≤ k → deal.start < counted_by ShortLast deal k
  forward_after_start k h = earlier_month _ _ _ _ at_start (forward_within k) (omega (arith, some_product k h))

  pub forward_before_end : (k : ℕ) → k < steps deal → counted_by ShortLast deal k < deal.end
  forward_before_end k h =
      earlier_month _ _ _ _ (forward_within k) at_end
      (omega (arith, product_more k (steps deal) deal.months h, steps_within, months_rise, sound.some_months))

  pub forward_past_end : (k : ℕ) → steps deal < k → deal.end < counted_by ShortLast deal k
  forward_past_end k h =
      earlier_month _ _ _ _ at_end (forward_within k)
      (omega (arith, product_more (steps deal) k deal.months h, steps_most, months_rise))

  pub back_before_end :
      (k : ℕ) → 1 ≤ k → k * deal.months ≤ month_number deal.end → counted_by ShortFirst deal k < deal.end
  back_before_end k h reaches = earlier_month _ _ _ _ (back_within k) at_end (omega (arith, some_product k h))

  pub back_after_start : (k : ℕ) → k < steps deal → deal.start < counted_by ShortFirst deal k
  back_after_start k h =
      earlier_month _ _ _ _ at_start (back_within k)
      (omega (arith, product_more k (steps deal) deal.months h, steps_within, months_rise, sound.some_months))

  pub back_past_start :
      (k : ℕ) → steps deal < k → k * deal.months ≤ month_number deal.end → counted_by ShortFirst deal k < deal.start
  back_past_start k h reaches =
      earlier_month _ _ _ _ (back_within k) at_start
      (omega (arith, product_more (steps deal) k deal.months h, steps_most, months_rise))

  -- k steps with k up to `steps` reach no month before that of the start
  pub reaches : (s : Stub) (k : ℕ) → k ≤ steps deal → Reaches s deal k
  reaches ShortFirst k h = omega (arith, step_within k h)
  reaches ShortLast k h = tt

  pub inside_by :
      (s : Stub) (k : ℕ) → 1 ≤ k → k < steps deal →
      (deal.start < counted_by s deal k) × (counted_by s deal k < deal.end)
  inside_by ShortFirst k some few = (back_after_start k few, back_before_end k some (reaches ShortFirst k (omega arith)))
  inside_by ShortLast k some few = (forward_after_start k some, forward_before_end k few)

  pub outside_by :
      (s : Stub) (k : ℕ) → steps deal < k → Reaches s deal k → deal.start < counted_by s deal k →
      counted_by s deal k < deal.end → ⊥
  outside_by ShortFirst k many reach low high = omega (arith, back_past_start k many reach)
  outside_by ShortLast k many reach low high = omega (arith, forward_past_end k many)
