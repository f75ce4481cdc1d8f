-- The dates of a deal rise, stand near one another, and are few.
-- Assumes nothing.
use Rattle.std.proofs.Common.{◌≡◌, ℕ, zero, suc, ◌+◌, ◌-◌, ◌*◌, ◌<◌, ◌≤◌, false, ◌⊎◌, length, get_or, sym, refl, ap, ◌∙◌, inl, inr, ⊎_elim, add-mul, arith}
use Rattle.std.proofs.lemmas.Bool.{cases_lt, ltb-false, and_cases}
use Rattle.days.specs.Within.{Within}
use Rattle.days.specs.Calendar.{day_of, last_day}
use Rattle.days.proofs.Spans.{start_mono}
use Rattle.schedules.specs.declared.deal.Deal.{Deal}
use Rattle.schedules.specs.declared.deal.Stub.{Stub}
use Rattle.schedules.specs.declared.deal.Stub.TheVariants.{ShortFirst, ShortLast}
use Rattle.schedules.specs.Dates.{Sound, month_number, month_days, on_day, counted, counted_by, steps, is_inside, dates}
use Rattle.schedules.proofs.MonthStarts.{on_day_back, day_from, month_below, on_day_rises, start_near}
use Rattle.schedules.proofs.Counts.{forward_within, back_within, at_start, step_within, steps_most, months_rise, product_more, forward_after_start, forward_past_end, back_before_end}
use Rattle.schedules.proofs.Inners.{place, inside, kept_ends, inside_few, inside_passes, dates_length, date_first, date_inner, date_last}
use Rattle.schedules.proofs.FortyYears.{forty_years}

-- days of months that are n apart
months_apart : (i j n x y : ℕ) → Within month_days x i → Within month_days y j → j ≤ i + n → y < x + 31 * (n + 1)
months_apart i j n x y p q h =
    let reach = start_near (n + 1) i in
    let mono = start_mono month_days (suc j) (i + (n + 1)) (omega arith) in
    omega (arith, p.from, q.to)

on_day_keeps : (i j d : ℕ) → 1 ≤ d → i ≤ j → on_day i d ≤ on_day j d
on_day_keeps i j d some h =
    ⊎_elim (λ (l : i < j). omega (arith, on_day_rises i j d some l))
    (λ (g : j ≤ i). let e : i ≡ j = omega arith in rw e (omega arith)) (cases_lt i j)

module _ (deal : Deal) (sound : Sound deal) where
  start_range : deal.start ≤ last_day
  start_range = omega (arith, sound.rises, sound.in_range)

  next_product : (k : ℕ) → (k + 1) * deal.months ≡ k * deal.months + deal.months
  next_product k = omega (arith, add-mul k 1 deal.months)

  forward_rises : (j k : ℕ) → j < k → counted_by ShortLast deal j < counted_by ShortLast deal k
  forward_rises j k h =
      on_day_rises _ _ (day_of deal.start) (day_from deal.start start_range)
      (omega (arith, product_more j k deal.months h, sound.some_months))

  back_falls :
      (j k : ℕ) → j < k → k * deal.months ≤ month_number deal.end →
      counted_by ShortFirst deal k < counted_by ShortFirst deal j
  back_falls j k h reach =
      on_day_rises _ _ (day_of deal.end) (day_from deal.end sound.in_range)
      (omega (arith, product_more j k deal.months h, sound.some_months))

  forward_near : (k : ℕ) → counted_by ShortLast deal (k + 1) < counted_by ShortLast deal k + 403
  forward_near k =
      months_apart _ _ 12 _ _ (forward_within deal sound k) (forward_within deal sound (k + 1))
      (omega (arith, next_product k, sound.few_months))

  back_near : (k : ℕ) → counted_by ShortFirst deal k < counted_by ShortFirst deal (k + 1) + 403
  back_near k =
      months_apart _ _ 12 _ _ (back_within deal sound (k + 1)) (back_within deal sound k)
      (omega (arith, next_product k, sound.few_months))

  pub counted_start : counted_by ShortLast deal 0 ≡ deal.start
  counted_start =
      let e : month_number deal.start + 0 * deal.months ≡ month_number deal.start = omega arith in
      rw e (on_day_back deal.start start_range)

  pub counted_end : counted_by ShortFirst deal 0 ≡ deal.end
  counted_end =
      let e : month_number deal.end - 0 * deal.months ≡ month_number deal.end = omega arith in
      rw e (on_day_back deal.end sound.in_range)

  -- the step after the last date inside
  pub ends :
      (inside deal ≡ steps deal)
      ⊎ ((inside deal + 1 ≡ steps deal) × (is_inside deal (counted deal (inside deal + 1)) ≡ false))
  unfolding inside
  ends = kept_ends (is_inside deal) (counted deal) (steps deal)

  not_inside : (x : ℕ) → is_inside deal x ≡ false → (x ≤ deal.start) ⊎ (deal.end ≤ x)
  not_inside x h =
      ⊎_elim (λ e. inl (ltb-false _ _ e)) (λ e. inr (ltb-false _ _ e)) (and_cases _ _ h)

  -- counted forward
  module _ (is : deal.stub ≡ ShortLast) where
    forward_is : (k : ℕ) → counted deal k ≡ counted_by ShortLast deal k
    unfolding counted
    forward_is k = ap (λ s. counted_by s deal k) is

    forward_ends : deal.end ≤ counted_by ShortLast deal (inside deal + 1)
    forward_ends =
        ⊎_elim
        (λ (all : inside deal ≡ steps deal). omega (arith, forward_past_end deal sound (inside deal + 1) (omega arith)))
        (λ (last : (inside deal + 1 ≡ steps deal) × (is_inside deal (counted deal (inside deal + 1)) ≡ false)).
        let after = forward_after_start deal sound (inside deal + 1) (omega arith) in
        let same = forward_is (inside deal + 1) in
        ⊎_elim (λ (l : counted deal (inside deal + 1) ≤ deal.start). absurd (omega arith))
        (λ (g : deal.end ≤ counted deal (inside deal + 1)). omega arith)
        (not_inside (counted deal (inside deal + 1)) last.1))
        ends

    date_forward : (j : ℕ) → j ≤ inside deal → get_or (dates deal) j 0 ≡ counted_by ShortLast deal j
    date_forward zero h = date_first deal sound ∙ sym counted_start
    date_forward (suc j) h =
        date_inner deal sound (suc j) (omega arith) h ∙ ap (λ s. counted deal (place s (inside deal) (suc j))) is
        ∙ forward_is (suc j)

    before_end : counted_by ShortLast deal (inside deal) < deal.end
    before_end =
        ⊎_elim
        (λ (none : inside deal < 1).
        let e : inside deal ≡ 0 = omega arith in rw e (omega (arith, counted_start, sound.rises)))
        (λ (some : 1 ≤ inside deal).
        omega (arith, inside_passes deal sound (inside deal) some (omega arith), forward_is (inside deal)))
        (cases_lt (inside deal) 1)

    forward_neighbours :
        (j : ℕ) → j ≤ inside deal →
        (get_or (dates deal) j 0 < get_or (dates deal) (j + 1) 0)
        × (get_or (dates deal) (j + 1) 0 < get_or (dates deal) j 0 + 403)
    forward_neighbours j h =
        let here = date_forward j h in
        let near = forward_near j in
        ⊎_elim
        (λ (l : j < inside deal).
        let next = date_forward (j + 1) (omega arith) in
        (omega (arith, forward_rises j (j + 1) (omega arith)), omega arith))
        (λ (g : inside deal ≤ j).
        let e : j ≡ inside deal = omega arith in
        rw e (
          omega (arith, rw e at here, date_last deal sound, before_end),
          omega (arith, rw e at here, rw e at near, date_last deal sound, forward_ends),
        ))
        (cases_lt j (inside deal))

  -- counted back
  module _ (is : deal.stub ≡ ShortFirst) where
    back_is : (k : ℕ) → counted deal k ≡ counted_by ShortFirst deal k
    unfolding counted
    back_is k = ap (λ s. counted_by s deal k) is

    inside_reaches : (k : ℕ) → k ≤ steps deal → k * deal.months ≤ month_number deal.end
    inside_reaches k h = omega (arith, step_within deal sound k h)

    back_ends : counted_by ShortFirst deal (inside deal) < deal.start + 403
    back_ends =
        ⊎_elim
        (λ (all : inside deal ≡ steps deal).
        months_apart _ _ 12 _ _ (at_start deal sound) (back_within deal sound (inside deal))
        (omega (arith, ap (λ k. k * deal.months) all, steps_most deal sound, months_rise deal sound, sound.few_months)))
        (λ (last : (inside deal + 1 ≡ steps deal) × (is_inside deal (counted deal (inside deal + 1)) ≡ false)).
        let before =
        back_before_end deal sound (inside deal + 1) (omega arith) (inside_reaches (inside deal + 1) (omega arith))
        in
        let same = back_is (inside deal + 1) in
        ⊎_elim
        (λ (l : counted deal (inside deal + 1) ≤ deal.start). omega (arith, back_near (inside deal)))
        (λ (g : deal.end ≤ counted deal (inside deal + 1)). absurd (omega arith))
        (not_inside (counted deal (inside deal + 1)) last.1))
        ends

    date_back :
        (j : ℕ) → 1 ≤ j → j ≤ inside deal + 1 → get_or (dates deal) j 0 ≡ counted_by ShortFirst deal (inside deal + 1 - j)
    date_back j some few =
        ⊎_elim
        (λ (l : j < inside deal + 1).
        date_inner deal sound j some (omega arith) ∙ ap (λ s. counted deal (place s (inside deal) j)) is
        ∙ back_is (inside deal + 1 - j))
        (λ (g : inside deal + 1 ≤ j).
        let e : j ≡ inside deal + 1 = omega arith in
        let z : inside deal + 1 - (inside deal + 1) ≡ 0 = omega arith in
        rw (e, z) (date_last deal sound ∙ sym counted_end))
        (cases_lt j (inside deal + 1))

    after_start : deal.start < counted_by ShortFirst deal (inside deal)
    after_start =
        ⊎_elim
        (λ (none : inside deal < 1).
        let e : inside deal ≡ 0 = omega arith in rw e (omega (arith, counted_end, sound.rises)))
        (λ (some : 1 ≤ inside deal).
        omega (arith, inside_passes deal sound (inside deal) some (omega arith), back_is (inside deal)))
        (cases_lt (inside deal) 1)

    back_neighbours :
        (j : ℕ) → j ≤ inside deal →
        (get_or (dates deal) j 0 < get_or (dates deal) (j + 1) 0)
        × (get_or (dates deal) (j + 1) 0 < get_or (dates deal) j 0 + 403)
    back_neighbours zero h =
        let first = date_first deal sound in
        let e : inside deal + 1 - 1 ≡ inside deal = omega arith in
        let next = rw e at (date_back 1 (omega arith) (omega arith)) in
        (omega (arith, after_start), omega (arith, back_ends))
    back_neighbours (suc j) h =
        let k : inside deal + 1 - suc j ≡ inside deal + 1 - (suc j + 1) + 1 = omega arith in
        let here = rw k at (date_back (suc j) (omega arith) (omega arith)) in
        let next = date_back (suc j + 1) (omega arith) (omega arith) in
        let less = inside_few deal sound in
        let falls =
        back_falls (inside deal + 1 - (suc j + 1)) (inside deal + 1 - (suc j + 1) + 1) (omega arith)
        (inside_reaches (inside deal + 1 - (suc j + 1) + 1) (omega arith))
        in
        let near = back_near (inside deal + 1 - (suc j + 1)) in
        (omega arith, omega arith)

  by_stub : (s : Stub) → (s ≡ ShortFirst) ⊎ (s ≡ ShortLast)
  by_stub ShortFirst = inl refl
  by_stub ShortLast = inr refl

  neighbours :
      (j : ℕ) → j ≤ inside deal →
      (get_or (dates deal) j 0 < get_or (dates deal) (j + 1) 0)
      × (get_or (dates deal) (j + 1) 0 < get_or (dates deal) j 0 + 403)
  neighbours j h =
      ⊎_elim (λ (is : deal.stub ≡ ShortFirst). back_neighbours is j h)
      (λ (is : deal.stub ≡ ShortLast). forward_neighbours is j h) (by_stub deal.stub)

  -- the dates rise, and no two neighbours are as far apart as 403 days
  pub dates_rise : (j : ℕ) → j + 1 < length (dates deal) → get_or (dates deal) j 0 < get_or (dates deal) (j + 1) 0
  dates_rise j h = (neighbours j (omega (arith, dates_length deal sound))).0

  pub dates_near : (j : ℕ) → j + 1 < length (dates deal) → get_or (dates deal) (j + 1) 0 < get_or (dates deal) j 0 + 403
  dates_near j h = (neighbours j (omega (arith, dates_length deal sound))).1

  -- forty years hold at most 479 dates inside
  many_forward : (480 ≤ inside deal) → deal.stub ≡ ShortLast → ⊥
  many_forward many is =
      let passes = inside_passes deal sound 480 (omega arith) many in
      let same = forward_is is 480 in
      let within = step_within deal sound 480 (omega (arith, inside_few deal sound)) in
      let below = month_below deal.end sound.in_range in
      let rise = months_rise deal sound in
      let far =
      forty_years (month_number deal.start) (day_of deal.start) (day_from deal.start start_range)
      (omega (arith, sound.some_months))
      in
      let back = on_day_back deal.start start_range in
      let keeps =
      on_day_keeps (month_number deal.start + 480) (month_number deal.start + 480 * deal.months) (day_of deal.start)
      (day_from deal.start start_range) (omega (arith, sound.some_months))
      in
      omega (arith, sound.near)

  many_back : (480 ≤ inside deal) → deal.stub ≡ ShortFirst → ⊥
  many_back many is =
      let passes = inside_passes deal sound 480 (omega arith) many in
      let same = back_is is 480 in
      let within = step_within deal sound 480 (omega (arith, inside_few deal sound)) in
      let below = month_below deal.end sound.in_range in
      let e : month_number deal.end - 480 + 480 ≡ month_number deal.end = omega (arith, sound.some_months) in
      let far =
      forty_years (month_number deal.end - 480) (day_of deal.end) (day_from deal.end sound.in_range) (omega arith)
      in
      let back = on_day_back deal.end sound.in_range in
      let keeps =
      on_day_keeps (month_number deal.end - 480 * deal.months) (month_number deal.end - 480) (day_of deal.end)
      (day_from deal.end sound.in_range) (omega (arith, sound.some_months))
      in
      omega (arith, sound.near, rw e at far)

  pub inside_most : inside deal ≤ 479
  inside_most =
      ⊎_elim (λ (l : inside deal < 480). omega arith)
      (λ (g : 480 ≤ inside deal).
      absurd (⊎_elim (λ (is : deal.stub ≡ ShortFirst). many_back g is)
      (λ (is : deal.stub ≡ ShortLast). many_forward g is) (by_stub deal.stub)))
      (cases_lt (inside deal) 480)

  pub dates_few : length (dates deal) ≤ 481
  dates_few = omega (arith, inside_most, dates_length deal sound)
