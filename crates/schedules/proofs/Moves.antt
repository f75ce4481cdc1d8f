-- How far a day is rolled, and where it cannot be.
-- Assumes nothing.
use Rattle.std.proofs.Common.{◌≡◌, ℕ, ◌+◌, ◌-◌, ◌<◌, ◌≤◌, Bool, false, Some, ⊎_elim, arith}
use Rattle.std.proofs.lemmas.Bool.{cases_lt, both_ways}
use Rattle.days.specs.Calendar.{leap, month_span, last_day, month_end}
use Rattle.days.proofs.Spans.{start_suc}
use Rattle.days.proofs.Months.{month_size}
use Rattle.days.proofs.Round.{placed, year_index, month_index}
use Rattle.days.proofs.Ends.{end_at}
use Rattle.calendar.specs.Closed.{ClosesAboveRange}
use Rattle.calendar.specs.Rolling.{reach, rolled}
use Rattle.calendar.specs.Relations.{NoneOpen, Least, Greatest, RollsWithin}
use Rattle.calendar.specs.declared.rolling.Convention.{Convention}
use Rattle.calendar.specs.declared.rolling.Convention.TheVariants.{Following, ModifiedFollowing, Preceding, Unadjusted}
use Rattle.calendar.proofs.Rolls.{rolled_tells}

end_near : (n : ℕ) → n ≤ last_day → month_end n ≤ n + 30
end_near n h =
    let p = placed n h in
    let e = end_at n (year_index n) (month_index n) p in
    let size = month_size (leap (1900 + year_index n)) (month_index n) p.months in
    let next = start_suc (month_span (leap (1900 + year_index n))) (month_index n) in
    omega (arith, p.in_year.from, p.in_month.from)

module _ (closed : ℕ → Bool) where
  moved_within :
      (convention : Convention) (n x : ℕ) → n ≤ last_day → RollsWithin closed convention n (Some x) →
      (x ≤ n + 30) × (n ≤ x + 30)
  moved_within Following n x h p = (p.to, omega (arith, p.from))
  moved_within ModifiedFollowing n x h p =
      ⊎_elim
      (λ (q : Least closed n (month_end n) x). (omega (arith, q.to, end_near n h), omega (arith, q.from)))
      (λ (q : NoneOpen closed n (month_end n) × Greatest closed (n - reach) n x).
      (omega (arith, q.1.to), omega (arith, q.1.from)))
      p
  moved_within Preceding n x h p = (omega (arith, p.to), omega (arith, p.from))
  moved_within Unadjusted n x h p = let e : x ≡ n = cc in (omega arith, omega arith)

  -- a day is moved by 30 days at the most
  pub moves :
      (convention : Convention) (n x : ℕ) → rolled closed convention n ≡ Some x → (x ≤ n + 30) × (n ≤ x + 30)
  moves convention n x e =
      let t = rolled_tells closed convention n x e in moved_within convention n x t.0 t.1

  open_in_range : ClosesAboveRange closed → (x : ℕ) → closed x ≡ false → x ≤ last_day
  open_in_range lawful x is_open =
      ⊎_elim (λ (above : last_day < x). absurd (both_ways (closed x) is_open (lawful.above x above)))
      (λ (within : x ≤ last_day). within) (cases_lt last_day x)

  within_range :
      (convention : Convention) → ClosesAboveRange closed → (n x : ℕ) → n ≤ last_day →
      RollsWithin closed convention n (Some x) → x ≤ last_day
  within_range Following lawful n x h p = open_in_range lawful x p.is_open
  within_range ModifiedFollowing lawful n x h p =
      ⊎_elim (λ (q : Least closed n (month_end n) x). open_in_range lawful x q.is_open)
      (λ (q : NoneOpen closed n (month_end n) × Greatest closed (n - reach) n x). omega (arith, q.1.to)) p
  within_range Preceding lawful n x h p = omega (arith, p.to)
  within_range Unadjusted lawful n x h p = let e : x ≡ n = cc in omega arith

  -- and not out of the range
  pub stays_in_range :
      (convention : Convention) → ClosesAboveRange closed → (n x : ℕ) → rolled closed convention n ≡ Some x → x ≤ last_day
  stays_in_range convention lawful n x e =
      let t = rolled_tells closed convention n x e in within_range convention lawful n x t.0 t.1
