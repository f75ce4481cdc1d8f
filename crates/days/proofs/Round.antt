-- Numbers and dates lead to each other, and each leads back.
-- Assumes nothing.
use Rattle.std.proofs.Common.{◌≡◌, ℕ, suc, ◌+◌, ◌-◌, ◌<◌, ◌≤◌, Bool, Some, None, refl, ap, ◌∙◌, arith}
use Rattle.days.specs.Spans.{start_of, span_of}
use Rattle.days.specs.Within.{Within}
use Rattle.days.specs.Calendar.{leap, year_span, month_span, month_length, IsDate, number_of, year_of, day_in_year, month_of, day_of, last_day, date_of}
use Rattle.std.proofs.lemmas.Bool.{le-leb, lt-leb}
use Rattle.days.specs.Laws.{Lossless, DaysFollow}
use Rattle.days.proofs.Spans.{start_suc, start_mono, span_holds, span_is}
use Rattle.days.proofs.Years.{years_end}
use Rattle.days.proofs.Months.{year_has, month_size}

-- the date of a day, by the index k of its year and the index i of its month
pub record Placed (n k i : ℕ) : Type 0 where
  pub years : k < 300
  pub months : i < 12
  pub in_year : Within year_span n k
  pub in_month : Within (month_span (leap (1900 + k))) (n - start_of year_span k) i
  pub year : year_of n ≡ 1900 + k
  pub month : month_of n ≡ 1 + i
  pub day : day_of n ≡ 1 + (n - start_of year_span k - start_of (month_span (leap (1900 + k))) i)

-- a year and a month that hold a day are those of the definitions
module _ (n k : ℕ) (years : k < 300) (in_year : Within year_span n k) where
  pub year_is : year_of n ≡ 1900 + k
  unfolding year_of
  year_is = ap (λ j. 1900 + j) (span_is year_span 300 n k years in_year)

  rest_is : day_in_year n ≡ n - start_of year_span k
  unfolding day_in_year
  rest_is = ap (λ j. n - start_of year_span j) (omega (arith, year_is))

  month_is :
      (i : ℕ) → i < 12 → Within (month_span (leap (1900 + k))) (n - start_of year_span k) i → month_of n ≡ 1 + i
  unfolding month_of
  month_is i months in_month =
      ap (λ j. 1 + j)
      (rw (year_is, rest_is)
      (span_is (month_span (leap (1900 + k))) 12 (n - start_of year_span k) i months in_month))

  day_is :
      (i : ℕ) → month_of n ≡ 1 + i →
      day_of n ≡ 1 + (n - start_of year_span k - start_of (month_span (leap (1900 + k))) i)
  unfolding day_of
  day_is i month = let index : month_of n - 1 ≡ i = omega arith in rw (index, rest_is, year_is) refl

pub settled :
    (n k i : ℕ) → k < 300 → i < 12 → Within year_span n k →
    Within (month_span (leap (1900 + k))) (n - start_of year_span k) i → Placed n k i
settled n k i years months in_year in_month =
    let month = month_is n k years in_year i months in_month in
    record {
      years = years;
      months = months;
      in_year = in_year;
      in_month = in_month;
      year = year_is n k years in_year;
      month = month;
      day = day_is n k years in_year i month;
    }

pub year_index : ℕ → ℕ
year_index n = span_of year_span 300 n

pub month_index : ℕ → ℕ
month_index n =
    span_of (month_span (leap (1900 + year_index n))) 12 (n - start_of year_span (year_index n))

-- every day of the range has its place
pub placed : (n : ℕ) → n ≤ last_day → Placed n (year_index n) (month_index n)
unfolding year_index month_index
placed n h =
    let y = span_holds year_span 300 n (omega (arith, years_end)) in
    let b = leap (1900 + year_index n) in
    let inside : n - start_of year_span (year_index n) < start_of (month_span b) 12 =
    omega (arith, year_has b, start_suc year_span (year_index n), y.1.from, y.1.to)
    in
    let m = span_holds (month_span b) 12 (n - start_of year_span (year_index n)) inside in
    settled n (year_index n) (month_index n) y.0 m.0 y.1 m.1

-- the number of a date, by indexes
pub number_at :
    (k i d : ℕ) →
    number_of (1900 + k) (1 + i) d ≡ start_of year_span k + start_of (month_span (leap (1900 + k))) i + (d - 1)
number_at k i d =
    let e : 1900 + k - 1900 ≡ k = omega arith in
    let f : 1 + i - 1 ≡ i = omega arith in
    rw (e, f) refl

-- every date of the range has its place
pub dated : (k i d : ℕ) → k < 300 → i < 12 → 1 ≤ d → d ≤ month_span (leap (1900 + k)) i → Placed (number_of (1900 + k) (1 + i) d) k i
dated k i d years months some few =
    let b = leap (1900 + k) in
    let number = number_at k i d in
    let month = start_suc (month_span b) i in
    let year = start_suc year_span k in
    let all = start_mono (month_span b) (suc i) 12 months in
    let whole = year_has b in
    settled (number_of (1900 + k) (1 + i) d) k i years months
    (record { from = omega arith; to = omega arith })
    (record { from = omega arith; to = omega arith })

abbrev HasDate : ℕ → Type 0
HasDate n = IsDate (year_of n) (month_of n) (day_of n) × (number_of (year_of n) (month_of n) (day_of n) ≡ n)

has_date : (n k i : ℕ) → Placed n k i → HasDate n
has_date n k i p =
    let b = leap (1900 + k) in
    let s = start_suc (month_span b) i in
    let few : day_of n ≤ month_span b i = omega arith in
    let index : 1 + i - 1 ≡ i = omega arith in
    let year = p.year in
    let month = p.month in (
      record {
        month = record { year_from = omega arith; year_to = omega arith; month_from = omega arith; month_to = omega arith };
        day_from = omega arith;
        day_to = rw (year, month, index) few;
      },
      rw (year, month) (number_at k i (day_of n) ∙ omega arith),
    )

abbrev LeadsBack : ℕ → ℕ → ℕ → Type 0
LeadsBack y m d =
    (number_of y m d ≤ last_day)
    × (year_of (number_of y m d) ≡ y) × (month_of (number_of y m d) ≡ m) × (day_of (number_of y m d) ≡ d)

leads_back :
    (k i d : ℕ) → k < 300 → i < 12 → 1 ≤ d → d ≤ month_span (leap (1900 + k)) i → LeadsBack (1900 + k) (1 + i) d
leads_back k i d years months some few =
    let p = dated k i d years months some few in
    let number = number_at k i d in
    let end = start_mono year_span (suc k) 300 years in
    let range = years_end in
    (omega arith, p.year, p.month, p.day ∙ omega arith)

leads_back_date : (y m d : ℕ) → IsDate y m d → LeadsBack y m d
leads_back_date y m d is =
    let ey : 1900 + (y - 1900) ≡ y = omega arith in
    let em : 1 + (m - 1) ≡ m = omega arith in
    let few : d ≤ month_span (leap (1900 + (y - 1900))) (m - 1) = rw ey is.day_to in
    rw (ey, em) at (leads_back (y - 1900) (m - 1) d (omega arith) (omega arith) is.day_from few)

pub lossless : Lossless
lossless =
    record {
      each_number_has_a_date = λ n h. (has_date n (year_index n) (month_index n) (placed n h)).0;
      each_date_has_a_number = λ y m d is. (leads_back_date y m d is).0;
      number_leads_back = λ n h. (has_date n (year_index n) (month_index n) (placed n h)).1;
      date_leads_back = λ y m d is. let r = leads_back_date y m d is in (r.1, r.2, r.3);
    }

next_month :
    (y m : ℕ) → 1 ≤ m → m < 12 → number_of y (m + 1) 1 ≡ number_of y m (month_length y m) + 1
next_month y m from to =
    let e : m + 1 - 1 ≡ suc (m - 1) = omega arith in
    rw e (omega (arith, start_suc (month_span (leap y)) (m - 1), month_size (leap y) (m - 1) (omega arith)))

next_year : (y : ℕ) → 1900 ≤ y → number_of (y + 1) 1 1 ≡ number_of y 12 31 + 1
unfolding start_of
next_year y from =
    let e : y + 1 - 1900 ≡ suc (y - 1900) = omega arith in
    let f : 1900 + (y - 1900) ≡ y = omega arith in
    rw (e, f) (omega (arith, year_has (leap y)))

pub days_follow : DaysFollow
unfolding start_of
days_follow =
    record { first = refl; next_in_month = λ y m d h. omega arith; next_month = next_month; next_year = next_year }

-- what the code adds up and takes off, as a date and as a number
pub date_found :
    (n k i : ℕ) (leaps : Bool) (before_year before_month y m d : ℕ) → n ≤ last_day → leaps ≡ leap (1900 + k) →
    (k < 300) × Within year_span n k → before_year ≡ start_of year_span k →
    (i < 12) × Within (month_span leaps) (n - before_year) i → before_month ≡ start_of (month_span leaps) i →
    y ≡ 1900 + k → m ≡ i + 1 → d ≡ n - before_year - before_month + 1 →
    Some (y, m, d) ≡ date_of n
date_found n k i leaps before_year before_month y m d in_range is-leap in_year is-year in_month is-month ey em ed =
    let p = settled n k i in_year.0 in_month.0 in_year.1 (rw (is-leap, is-year) at in_month.1) in
    let before : before_month ≡ start_of (month_span (leap (1900 + k))) i = rw is-leap at is-month in
    let test = le-leb n last_day in_range in
    let year : y ≡ year_of n = omega arith in
    let month : m ≡ month_of n = omega arith in
    let day : d ≡ day_of n = omega arith in
    rw (test, year, month, day) refl

pub no_date : (n : ℕ) → last_day < n → None ≡ date_of n
no_date n above = let test = lt-leb n last_day above in rw test refl

pub number_found :
    (y m d : ℕ) (leaps : Bool) (before_year before_month : ℕ) → IsDate y m d → leaps ≡ leap y →
    before_year ≡ start_of year_span (y - 1900) → before_month ≡ start_of (month_span leaps) (m - 1) →
    (before_year + before_month + (d - 1) ≡ number_of y m d) × (before_year + before_month + (d - 1) ≤ last_day)
number_found y m d leaps before_year before_month is is-leap is-year is-month =
    let before : before_month ≡ start_of (month_span (leap y)) (m - 1) = rw is-leap at is-month in
    let same : before_year + before_month + (d - 1) ≡ number_of y m d = omega arith in
    (same, omega (arith, (leads_back_date y m d is).0))
