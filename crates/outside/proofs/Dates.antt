-- A date is told by its number, and Easter by its year.
-- Assumes nothing.
use Rattle.std.proofs.Common.{◌≡◌, ℕ, ◌≤◌, ◌&&◌, leb, Some, None, Option, MatchOption, sym, refl, subst, leb-true}
use Rattle.std.proofs.lemmas.Bool.{and_parts, le-leb}
use Rattle.days.specs.Calendar.{IsDate, number_of, year_of, month_of, day_of, date, dated, last_day}
use Rattle.days.specs.Easter.{easter_of, easter_month, easter_day, easter_number}
use Rattle.days.specs.Laws.{EasterIsSunday}
use Rattle.days.proofs.Checks.{some_tells}
use Rattle.days.proofs.Round.{lossless}
use Rattle.days.specs.declared.dates.Date.{Date}
use Rattle.outside.specs.declared.figures.DatedDay.{DatedDay}
use Rattle.outside.specs.Exactly.{Exactly}
use Rattle.outside.specs.Figures.{IsYear, Dated, day_number, IsEaster}

pub date_is : (x : Date) (y m d : ℕ) → x.year ≡ y → x.month ≡ m → x.day ≡ d → x ≡ record { year = y; month = m; day = d }
date_is x y m d e f g = rw (← e, ← f, ← g) refl

pub dated_day_is :
    (x : DatedDay) (n : ℕ) (date : Date) (w : ℕ) → x.number ≡ n → x.date ≡ date → x.weekday ≡ w →
    x ≡ record { number = n; date = date; weekday = w }
dated_day_is x n date w e f g = rw (← e, ← f, ← g) refl

-- what is found exactly stays so under words that say the same
exactly_same :
    {T : Type 0} {P Q : T → Type 0} (r : Option T) → ((x : T) → P x → Q x) → ((x : T) → Q x → P x) →
    Exactly r P → Exactly r Q
exactly_same None to from h = λ x q. h x (from x q)
exactly_same (Some y) to from h = (to y h.0, λ x q. h.1 x (from x q))

year_tells : (y n : ℕ) → Some n ≡ easter_number y → IsYear y × (n ≡ easter_of y)
year_tells y n e =
    let p = some_tells (leb 1900 y && leb y 2199) n (easter_of y) e in
    let t = and_parts (leb 1900 y) (leb y 2199) p.0 in
    ((leb-true 1900 y t.0, leb-true y 2199 t.1), p.1)

-- one number, one date
same_date :
    (y m d y' m' d' : ℕ) → IsDate y m d → IsDate y' m' d' → number_of y m d ≡ number_of y' m' d' →
    (y ≡ y') × (m ≡ m') × (d ≡ d')
same_date y m d y' m' d' h h' e =
    let p = lossless.date_leads_back y m d h in
    let q = lossless.date_leads_back y' m' d' h' in
    ((let p = p.0 in let q = q.0 in cc), (let p = p.1 in let q = q.1 in cc), (let p = p.2 in let q = q.2 in cc))

-- the date of a number is the only one with that number
pub date_exactly :
    (n : ℕ) (r : Option Date) → r ≡ dated n → Exactly r (λ date. Dated date × (day_number date ≡ n))
date_exactly n None none = λ other right.
    let numbered = right.1 in
    let inside : n ≤ last_day = rw (← numbered) (lossless.each_date_has_a_number other.year other.month other.day right.0) in
    let some = rw (le-leb n last_day inside) at none in
    absurd (cc)
date_exactly n (Some found) is =
    let tells = some_tells (leb n last_day) found (date (year_of n) (month_of n) (day_of n)) is in
    let inside : n ≤ last_day = leb-true n last_day tells.0 in (
      rw tells.1 (lossless.each_number_has_a_date n inside, lossless.number_leads_back n inside),
      λ other right.
          let leads = rw right.1 at (lossless.date_leads_back other.year other.month other.day right.0) in
          let same = date_is other (year_of n) (month_of n) (day_of n) (sym leads.0) (sym leads.1) (sym leads.2) in
          cc,
    )

easter_from_number :
    EasterIsSunday → (y : ℕ) → IsYear y → (date : Date) → Dated date × (day_number date ≡ easter_of y) →
    (date.year ≡ y) × IsEaster date
easter_from_number sunday y inside date (h, e) =
    let p = same_date date.year date.month date.day y (easter_month y) (easter_day y) h (sunday y inside.0 inside.1).0 e in
    let year = p.0 in
    (year, record { inside = rw year inside; month = rw year p.1; day = rw year p.2 })

number_from_easter :
    EasterIsSunday → (y : ℕ) → (date : Date) → (date.year ≡ y) × IsEaster date →
    Dated date × (day_number date ≡ easter_of y)
number_from_easter sunday y date (e, h) =
    let month = h.month in
    let day = h.day in
    let in_range : Dated date = rw (month, day) (sunday date.year h.inside.0 h.inside.1).0 in
    (in_range, rw (month, day, e) refl)

-- the date that a number found is the Easter Sunday of the year
pub easter_found :
    EasterIsSunday → (y n : ℕ) (r : Option Date) → Some n ≡ easter_number y →
    Exactly r (λ date. Dated date × (day_number date ≡ n)) → Exactly r (λ date. (date.year ≡ y) × IsEaster date)
easter_found sunday y n r e h =
    let p = year_tells y n e in
    let at = subst (λ (k : ℕ). Exactly r (λ date. Dated date × (day_number date ≡ k))) p.1 h in
    exactly_same r (easter_from_number sunday y p.0) (number_from_easter sunday y) at

-- a number that is found where there is a date is found exactly
pub number_exactly :
    (P : Type 0) (m : ℕ) (r : Option ℕ) → MatchOption r (P → ⊥) (λ n. P × (n ≡ m)) → Exactly r (λ n. P × (m ≡ n))
number_exactly P m None never = λ n right. never right.0
number_exactly P m (Some n) is = ((is.0, sym is.1), λ k right. let here = right.1 in let there = is.1 in cc)
