-- Year, month and day of a day of the range: none of them is large, and a date that is found is theirs.
-- Assumes nothing.
use Rattle.std.proofs.Common.{◌≡◌, ℕ, ◌+◌, ◌≤◌, leb, Some, refl, sym, subst, arith}
use Rattle.std.proofs.lemmas.Bool.{leb-true}
use Rattle.days.specs.Calendar.{leap, month_span, date, date_of, dated, year_of, month_of, day_of, last_day}
use Rattle.days.specs.declared.dates.Date.{Date}
use Rattle.days.proofs.Checks.{some_tells}
use Rattle.days.proofs.Spans.{start_suc}
use Rattle.days.proofs.Months.{month_size}
use Rattle.days.proofs.Round.{placed, year_index, month_index}

pub record Found (n y m d : ℕ) : Type 0 where
  pub inside : n ≤ last_day
  pub year : y ≡ year_of n
  pub month : m ≡ month_of n
  pub day : d ≡ day_of n
  pub year_to : y ≤ 2199
  pub month_to : m ≤ 12
  pub day_to : d ≤ 31

-- The date of a day of the range.
pub parts : (n : ℕ) → n ≤ last_day → Found n (year_of n) (month_of n) (day_of n)
parts n inside =
    let p = placed n inside in
    let b = leap (1900 + year_index n) in
    let size = month_size b (month_index n) p.months in
    let next = start_suc (month_span b) (month_index n) in
    let of_year = p.year in
    let of_month = p.month in
    let of_day = p.day in
    let in_month = p.in_month.to in
    record {
      inside = inside;
      year = refl;
      month = refl;
      day = refl;
      year_to = omega (arith, p.years);
      month_to = omega (arith, p.months);
      day_to = omega arith;
    }

-- Found as three numbers.
pub found : (n y m d : ℕ) → Some (y, m, d) ≡ date_of n → Found n y m d
found n y m d e =
    let tells = some_tells (leb n last_day) (y, m, d) (year_of n, month_of n, day_of n) e in
    let inside : n ≤ last_day = leb-true n last_day tells.0 in
    subst (λ (t : ℕ × ℕ × ℕ). Found n t.0 t.1 t.2) (sym tells.1) (parts n inside)

-- Found as a date.
pub found_date : (n y m d : ℕ) → Some (date y m d) ≡ dated n → Found n y m d
found_date n y m d e =
    let tells = some_tells (leb n last_day) (date y m d) (date (year_of n) (month_of n) (day_of n)) e in
    let inside : n ≤ last_day = leb-true n last_day tells.0 in
    subst (λ (t : Date). Found n t.year t.month t.day) (sym tells.1) (parts n inside)
