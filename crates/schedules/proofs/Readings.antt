-- The dates of a deal are those of the calendar that the counting reaches.
-- Assumes nothing.
use Rattle.std.proofs.Common.{◌≡◌, ℕ, ◌+◌, ◌-◌, ◌*◌, ◌/◌, ◌%◌, ◌<◌, ◌≤◌, min, true, false, ◌⊎◌, get_or, sym, refl, ap, ◌∙◌, inl, inr, ⊎_elim, arith}
use Rattle.std.proofs.lemmas.Bool.{cases_lt, cases_order, lt-ltb, and_from, both_ways}
use Rattle.days.specs.Spans.{start_of}
use Rattle.days.specs.Within.{Within}
use Rattle.days.specs.Calendar.{last_day, month_length, year_of, month_of, day_of}
use Rattle.days.proofs.Round.{lossless}
use Rattle.schedules.specs.declared.deal.Deal.{Deal}
use Rattle.schedules.specs.declared.deal.Stub.{Stub}
use Rattle.schedules.specs.declared.deal.Stub.TheVariants.{ShortFirst, ShortLast}
use Rattle.schedules.specs.Dates.{Sound, month_number, month_days, on_day, counted, counted_by, steps, is_inside, dates}
use Rattle.schedules.specs.Laws.{CountsTo, Inside, Among, DatesAre}
use Rattle.schedules.proofs.MonthStarts.{days_size, on_day_is, on_day_within, on_day_back, month_within, earlier_month, day_from}
use Rattle.schedules.proofs.Counts.{Reaches, reaches, outside_by}
use Rattle.schedules.proofs.Inners.{place, inside, inside_few, inside_passes, dates_length, date_first, date_inner, date_last}
use Rattle.schedules.proofs.Gaps.{dates_rise, ends, counted_start, counted_end}

-- how long the month of a day is
days_of : (x : ℕ) → x ≤ last_day → month_days (month_number x) ≡ month_length (year_of x) (month_of x)
unfolding month_days month_number
days_of x h =
    let date = lossless.each_number_has_a_date x h in
    let y : 1900 + (12 * (year_of x - 1900) + (month_of x - 1)) / 12 ≡ year_of x = omega arith in
    let m : 1 + (12 * (year_of x - 1900) + (month_of x - 1)) % 12 ≡ month_of x = omega arith in
    rw (y, m) refl

day_to : (x : ℕ) → x ≤ last_day → day_of x ≤ month_length (year_of x) (month_of x)
day_to x h = (lossless.each_number_has_a_date x h).day_to

-- a day that is day d of month i, or the last of it, has that month and that day
month_is : (x i : ℕ) → x ≤ last_day → Within month_days x i → month_number x ≡ i
month_is x i h p =
    let q = month_within x h in
    ⊎_elim (λ (e : month_number x ≡ i). e)
    (⊎_elim (λ (l : month_number x < i). absurd (omega (arith, earlier_month _ _ x x q p l)))
    (λ (g : i < month_number x). absurd (omega (arith, earlier_month _ _ x x p q g))))
    (cases_order (month_number x) i)

pub reads :
    (x i d : ℕ) → x ≤ last_day → 1 ≤ d → x ≡ on_day i d →
    (month_number x ≡ i) × (day_of x ≡ min d (month_length (year_of x) (month_of x)))
reads x i d h some e =
    let month = month_is x i h (rw e (on_day_within i d some)) in
    let long = days_of x h in
    let size = days_size (month_number x) in
    let back = sym (on_day_back x h) ∙ on_day_is (month_number x) (day_of x) in
    let there = e ∙ on_day_is i d in
    let same = ap (start_of month_days) month in
    let same' = ap month_days month in
    (month, omega (arith, day_to x h, day_from x h))

-- and a day with that month and that day is it
pub read_back :
    (x i d : ℕ) → x ≤ last_day → month_number x ≡ i → day_of x ≡ min d (month_length (year_of x) (month_of x)) →
    x ≡ on_day i d
read_back x i d h month day =
    let long = days_of x h in
    let back = sym (on_day_back x h) ∙ on_day_is (month_number x) (day_of x) in
    let same = ap (start_of month_days) month in
    let same' = ap month_days month in
    omega (arith, on_day_is i d)

-- places lead back
place_back :
    (s : Stub) (c k : ℕ) → 1 ≤ k → k ≤ c → (1 ≤ place s c k) × (place s c k ≤ c) × (place s c (place s c k) ≡ k)
place_back ShortFirst c k some few = (omega arith, omega arith, omega arith)
place_back ShortLast c k some few = (some, few, refl)

module _ (deal : Deal) (sound : Sound deal) where
  counts_to :
      (s : Stub) (k x : ℕ) → Reaches s deal k → x ≤ last_day → x ≡ counted_by s deal k → CountsTo s deal k x
  counts_to ShortFirst k x reach h e =
      let r = reads x _ (day_of deal.end) h (day_from deal.end sound.in_range) e in
      (omega (arith, r.0), r.1)
  counts_to ShortLast k x reach h e =
      reads x _ (day_of deal.start) h (day_from deal.start (omega (arith, sound.rises, sound.in_range))) e

  counts_back :
      (s : Stub) (k x : ℕ) → x ≤ last_day → CountsTo s deal k x → Reaches s deal k × (x ≡ counted_by s deal k)
  counts_back ShortFirst k x h c =
      (omega (arith, c.0), read_back x _ (day_of deal.end) h (omega (arith, c.0)) c.1)
  counts_back ShortLast k x h c = (tt, read_back x _ (day_of deal.start) h c.0 c.1)

  not_anchor : (s : Stub) (x : ℕ) → x ≡ counted_by s deal 0 → deal.start < x → x < deal.end → ⊥
  not_anchor ShortFirst x e low high = omega (arith, counted_end deal sound)
  not_anchor ShortLast x e low high = omega (arith, counted_start deal sound)

  by_stub : (k : ℕ) → counted deal k ≡ counted_by deal.stub deal k
  unfolding counted
  by_stub k = refl

  inside_is : (x j : ℕ) → 1 ≤ j → j ≤ inside deal → get_or (dates deal) j 0 ≡ x → Inside deal x
  inside_is x j some few e =
      let p = place_back deal.stub (inside deal) j some few in
      let k = place deal.stub (inside deal) j in
      let at = sym e ∙ date_inner deal sound j some few in
      let reach = reaches deal sound deal.stub k (omega (arith, p.1, inside_few deal sound)) in
      let passes = inside_passes deal sound k p.0 p.1 in (
        omega arith,
        omega arith,
        (k, counts_to deal.stub k x reach (omega (arith, sound.in_range)) (at ∙ by_stub k)),
      )

  each_is : (x : ℕ) → Among x (dates deal) → (x ≡ deal.start) ⊎ ((x ≡ deal.end) ⊎ Inside deal x)
  each_is x (j, h, e) =
      let long = dates_length deal sound in
      ⊎_elim
      (λ (none : j < 1).
      let z : j ≡ 0 = omega arith in inl (sym (rw z at e) ∙ date_first deal sound))
      (λ (some : 1 ≤ j).
      ⊎_elim
      (λ (few : j < inside deal + 1). inr (inr (inside_is x j some (omega arith) e)))
      (λ (last : inside deal + 1 ≤ j).
      let z : j ≡ inside deal + 1 = omega arith in inr (inl (sym (rw z at e) ∙ date_last deal sound)))
      (cases_lt j (inside deal + 1)))
      (cases_lt j 1)

  few_steps :
      (k x : ℕ) → 1 ≤ k → k ≤ steps deal → x ≡ counted deal k → deal.start < x → x < deal.end → k ≤ inside deal
  few_steps k x some few e low high =
      ⊎_elim
      (λ (all : inside deal ≡ steps deal). omega arith)
      (λ (last : (inside deal + 1 ≡ steps deal) × (is_inside deal (counted deal (inside deal + 1)) ≡ false)).
      ⊎_elim
      (λ (l : k < inside deal + 1). omega arith)
      (λ (g : inside deal + 1 ≤ k).
      let z : k ≡ inside deal + 1 = omega arith in
      let at : x ≡ counted deal (inside deal + 1) = rw z at e in
      let passes : is_inside deal x ≡ true = and_from _ _ (lt-ltb _ _ low) (lt-ltb _ _ high) in
      absurd (both_ways (is_inside deal (counted deal (inside deal + 1))) last.1 (rw at at passes)))
      (cases_lt k (inside deal + 1)))
      (ends deal sound)

  there : (x k : ℕ) → 1 ≤ k → k ≤ inside deal → x ≡ counted deal k → Among x (dates deal)
  there x k some few e =
      let p = place_back deal.stub (inside deal) k some few in
      let j = place deal.stub (inside deal) k in (
        j,
        omega (arith, p.1, dates_length deal sound),
        date_inner deal sound j p.0 p.1 ∙ ap (counted deal) p.2 ∙ sym e,
      )

  each_there : (x : ℕ) → Inside deal x → Among x (dates deal)
  each_there x (low, high, (k, counts)) =
      let back = counts_back deal.stub k x (omega (arith, sound.in_range)) counts in
      let at : x ≡ counted deal k = back.1 ∙ sym (by_stub k) in
      ⊎_elim
      (λ (none : k < 1).
      let z : k ≡ 0 = omega arith in absurd (not_anchor deal.stub x (rw z at back.1) low high))
      (λ (some : 1 ≤ k).
      ⊎_elim
      (λ (few : k < steps deal + 1). there x k some (few_steps k x some (omega arith) at low high) at)
      (λ (many : steps deal + 1 ≤ k).
      absurd
      (outside_by deal sound deal.stub k (omega arith) back.0 (omega (arith, back.1)) (omega (arith, back.1))))
      (cases_lt k (steps deal + 1)))
      (cases_lt k 1)

  pub dates_are : DatesAre deal
  dates_are =
      let long = dates_length deal sound in
      record {
        each_is_one = each_is;
        start_is_there = (0, omega arith, date_first deal sound);
        end_is_there = (inside deal + 1, omega arith, date_last deal sound);
        each_inside_is_there = each_there;
        rise = dates_rise deal sound;
      }
