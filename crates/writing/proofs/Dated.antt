-- Dates, spelled.
-- Assumes nothing.
use Rattle.std.proofs.Common.{◌≡◌, ℕ, suc, ◌<◌, ◌≤◌, leb, length, Some, None, refl, ap, ⊎_elim, arith}
use Rattle.std.proofs.lemmas.Bool.{cases_lt, le-leb, lt-leb, cond-true, cond-false}
use Rattle.days.specs.Calendar.{date, dated as dated_day, year_of, month_of, day_of, last_day}
use Rattle.days.specs.declared.dates.Date.{Date}
use Rattle.writing.specs.Spelling.{dated, spelled_date}

pub spelled_long : (n : ℕ) → length (spelled_date n) ≡ 10
unfolding spelled_date
spelled_long n = refl

-- the number has a date only in the range, and the bytes of that date
pub date_found :
    (n : ℕ) (d : Date) → Some d ≡ dated_day n → (n ≤ last_day) × (dated d.year d.month d.day ≡ spelled_date n)
unfolding spelled_date
date_found n d found =
    ⊎_elim
    (λ (inside : n < suc last_day).
    let is : dated_day n ≡ Some (date (year_of n) (month_of n) (day_of n)) =
    cond-true (leb n last_day) (Some (date (year_of n) (month_of n) (day_of n))) None (le-leb n last_day (omega arith))
    in
    let same : d ≡ date (year_of n) (month_of n) (day_of n) = cc in
    (omega arith, ap (λ (t : Date). dated t.year t.month t.day) same))
    (λ (above : suc last_day ≤ n).
    let none : dated_day n ≡ None =
    cond-false (leb n last_day) (Some (date (year_of n) (month_of n) (day_of n))) None (lt-leb n last_day (omega arith))
    in
    let clash : ◌≡◌ {A = ℕ} 0 1 = cc in absurd (omega arith))
    (cases_lt n (suc last_day))
