-- The table of Easters, tested once against the computus at each of its 300 years.
-- Assumes nothing.
use Rattle.std.proofs.Common.{◌≡◌, ℕ, suc, ◌+◌, ◌-◌, ◌%◌, ◌<◌, ◌≤◌, Bool, ◌&&◌, eqb, ltb, leb, List, [], ◌∷◌, get_or, Some, None, refl, ap, ◌∙◌, ⊎_elim, arith}
use Rattle.std.proofs.lemmas.Bool.{eqb-true, leb-true, le-leb, and_parts, cond_both, cases_Bool}
use Rattle.days.specs.Spans.{start_of}
use Rattle.days.specs.Calendar.{leap, year_span, month_span, number_of, IsDate, weekday_of}
use Rattle.days.specs.Easter.{computus, easter_month, easter_day, easter_of, easter_number}
use Rattle.days.specs.Laws.{EasterIsSunday}
use Rattle.days.proofs.Checks.{below}
use Rattle.days.proofs.Spans.{start_suc}
use Rattle.days.proofs.Years.{before_year, before_year_is}
use Rattle.days.proofs.Months.{before_month_is}

-- the table of the code
abbrev pub table : List ℕ
table =
    25 ∷ 17 ∷ 9 ∷ 22 ∷ 13 ∷ 33 ∷ 25 ∷ 10 ∷ 29 ∷ 21 ∷ 6 ∷ 26 ∷ 17 ∷ 2 ∷ 22 ∷ 14 ∷ 33 ∷ 18 ∷ 10 ∷ 30 ∷
    14 ∷ 6 ∷ 26 ∷ 11 ∷ 30 ∷ 22 ∷ 14 ∷ 27 ∷ 18 ∷ 10 ∷ 30 ∷ 15 ∷ 6 ∷ 26 ∷ 11 ∷ 31 ∷ 22 ∷ 7 ∷ 27 ∷ 19 ∷
    3 ∷ 23 ∷ 15 ∷ 35 ∷ 19 ∷ 11 ∷ 31 ∷ 16 ∷ 7 ∷ 27 ∷ 19 ∷ 4 ∷ 23 ∷ 15 ∷ 28 ∷ 20 ∷ 11 ∷ 31 ∷ 16 ∷ 8 ∷
    27 ∷ 12 ∷ 32 ∷ 24 ∷ 8 ∷ 28 ∷ 20 ∷ 5 ∷ 24 ∷ 16 ∷ 8 ∷ 21 ∷ 12 ∷ 32 ∷ 24 ∷ 9 ∷ 28 ∷ 20 ∷ 5 ∷ 25 ∷
    16 ∷ 29 ∷ 21 ∷ 13 ∷ 32 ∷ 17 ∷ 9 ∷ 29 ∷ 13 ∷ 5 ∷ 25 ∷ 10 ∷ 29 ∷ 21 ∷ 13 ∷ 26 ∷ 17 ∷ 9 ∷ 22 ∷ 14 ∷
    33 ∷ 25 ∷ 10 ∷ 30 ∷ 21 ∷ 6 ∷ 26 ∷ 18 ∷ 2 ∷ 22 ∷ 14 ∷ 34 ∷ 18 ∷ 10 ∷ 30 ∷ 15 ∷ 6 ∷ 26 ∷ 11 ∷ 31 ∷
    22 ∷ 14 ∷ 27 ∷ 19 ∷ 10 ∷ 30 ∷ 15 ∷ 7 ∷ 26 ∷ 11 ∷ 31 ∷ 23 ∷ 7 ∷ 27 ∷ 19 ∷ 4 ∷ 23 ∷ 15 ∷ 35 ∷ 20 ∷
    11 ∷ 31 ∷ 16 ∷ 8 ∷ 27 ∷ 19 ∷ 4 ∷ 24 ∷ 15 ∷ 28 ∷ 20 ∷ 12 ∷ 31 ∷ 16 ∷ 8 ∷ 28 ∷ 12 ∷ 32 ∷ 24 ∷ 9 ∷
    28 ∷ 20 ∷ 5 ∷ 25 ∷ 16 ∷ 8 ∷ 21 ∷ 13 ∷ 32 ∷ 24 ∷ 9 ∷ 29 ∷ 20 ∷ 5 ∷ 25 ∷ 17 ∷ 29 ∷ 21 ∷ 13 ∷ 33 ∷
    17 ∷ 9 ∷ 29 ∷ 14 ∷ 5 ∷ 25 ∷ 10 ∷ 30 ∷ 21 ∷ 13 ∷ 26 ∷ 18 ∷ 9 ∷ 22 ∷ 14 ∷ 34 ∷ 25 ∷ 10 ∷ 30 ∷ 22 ∷
    7 ∷ 27 ∷ 19 ∷ 4 ∷ 23 ∷ 15 ∷ 28 ∷ 20 ∷ 11 ∷ 31 ∷ 16 ∷ 8 ∷ 27 ∷ 12 ∷ 32 ∷ 24 ∷ 8 ∷ 28 ∷ 20 ∷ 5 ∷
    24 ∷ 16 ∷ 8 ∷ 21 ∷ 12 ∷ 32 ∷ 24 ∷ 9 ∷ 28 ∷ 20 ∷ 5 ∷ 25 ∷ 16 ∷ 29 ∷ 21 ∷ 13 ∷ 32 ∷ 17 ∷ 9 ∷ 29 ∷
    13 ∷ 5 ∷ 25 ∷ 10 ∷ 29 ∷ 21 ∷ 13 ∷ 26 ∷ 17 ∷ 9 ∷ 22 ∷ 14 ∷ 33 ∷ 25 ∷ 10 ∷ 30 ∷ 21 ∷ 6 ∷ 26 ∷ 18 ∷
    2 ∷ 22 ∷ 14 ∷ 34 ∷ 18 ∷ 10 ∷ 30 ∷ 15 ∷ 6 ∷ 26 ∷ 11 ∷ 31 ∷ 22 ∷ 14 ∷ 27 ∷ 19 ∷ 10 ∷ 30 ∷ 15 ∷ 7 ∷
    26 ∷ 11 ∷ 31 ∷ 23 ∷ 7 ∷ 27 ∷ 19 ∷ 4 ∷ 23 ∷ 15 ∷ 35 ∷ 20 ∷ 11 ∷ 31 ∷ 16 ∷ 8 ∷ 27 ∷ 19 ∷ 4 ∷ 24 ∷
    []

abbrev early : ℕ → ℕ
early k = start_of (month_span (leap (1900 + k))) 2 + 20

-- the entry leads to the date of the computus, a date of March or April and a Sunday
abbrev right : ℕ → Bool
right k =
    let y = 1900 + k in
    let b = leap y in
    let m = easter_month y in
    let d = easter_day y in
    let t = get_or table k 0 in
    (eqb (early k + t) (start_of (month_span b) (m - 1) + (d - 1)) && eqb ((before_year k + (early k + t)) % 7) 6)
    && ((leb 3 m && leb m 4) && (leb 1 d && leb d (month_span b (m - 1))))
    && (leb 1 t && leb t 35)

pub record Right (k : ℕ) : Type 0 where
  pub same : early k + get_or table k 0 ≡ start_of (month_span (leap (1900 + k))) (easter_month (1900 + k) - 1) + (easter_day (1900 + k) - 1)
  pub sunday : (before_year k + (early k + get_or table k 0)) % 7 ≡ 6
  pub month_from : 3 ≤ easter_month (1900 + k)
  pub month_to : easter_month (1900 + k) ≤ 4
  pub day_from : 1 ≤ easter_day (1900 + k)
  pub day_to : easter_day (1900 + k) ≤ month_span (leap (1900 + k)) (easter_month (1900 + k) - 1)
  pub after : 1 ≤ get_or table k 0
  pub before : get_or table k 0 ≤ 35

pub table_right : (k : ℕ) → k < 300 → Right k
unfolding leap start_of computus
table_right k h =
    let all = and_parts _ _ (below right 300 refl k h) in
    let bounds = and_parts _ _ all.1 in
    let first = and_parts _ _ all.0 in
    let place = and_parts _ _ first.0 in
    let date = and_parts _ _ first.1 in
    let month = and_parts _ _ date.0 in
    let day = and_parts _ _ date.1 in
    record {
      same = eqb-true _ _ place.0;
      sunday = eqb-true _ _ place.1;
      month_from = leb-true _ _ month.0;
      month_to = leb-true _ _ month.1;
      day_from = leb-true _ _ day.0;
      day_to = leb-true _ _ day.1;
      after = leb-true _ _ bounds.0;
      before = leb-true _ _ bounds.1;
    }

pub table_leads : (k : ℕ) → k < 300 → number_of (1900 + k) 3 21 + get_or table k 0 ≡ easter_of (1900 + k)
table_leads k h = omega (arith, (table_right k h).same)

sunday_at :
    (k : ℕ) → k < 300 →
    IsDate (1900 + k) (easter_month (1900 + k)) (easter_day (1900 + k)) × (weekday_of (easter_of (1900 + k)) ≡ 6)
sunday_at k room =
    let r = table_right k room in
    let closed = before_year_is k (omega arith) in
    let index : 1900 + k - 1900 ≡ k = omega arith in
    let place : easter_of (1900 + k) ≡ before_year k + (early k + get_or table k 0) = rw index (omega arith) in (
      record {
        month =
            record { year_from = omega arith; year_to = omega arith; month_from = omega arith; month_to = omega arith };
        day_from = r.day_from;
        day_to = r.day_to;
      },
      ap (λ n. n % 7) place ∙ r.sunday,
    )

pub easter_sunday : EasterIsSunday
easter_sunday y from to =
    let e : 1900 + (y - 1900) ≡ y = omega arith in
    let room : y - 1900 < 300 = omega arith in
    rw e at (sunday_at (y - 1900) room)

-- Easter and the sixty days before and after it lie in its year
pub easter_inside :
    (k : ℕ) → k < 300 →
    (start_of year_span k + 60 ≤ easter_of (1900 + k)) × (easter_of (1900 + k) + 60 < start_of year_span (suc k))
easter_inside k room =
    let r = table_right k room in
    let b = leap (1900 + k) in
    let index : 1900 + k - 1900 ≡ k = omega arith in
    let place : easter_of (1900 + k) ≡ start_of year_span k + (early k + get_or table k 0) = rw index (omega arith) in
    let march : 59 ≤ start_of (month_span b) 2 = omega (arith, before_month_is b 2 (omega arith)) in
    let march_most : start_of (month_span b) 2 ≤ 60 =
    omega (arith, before_month_is b 2 (omega arith), cond_both (b && ltb 1 2) 1 0 (λ n. n ≤ 1) (λ _. omega arith) (λ _. omega arith))
    in
    let year = start_suc year_span k in
    let long : 365 ≤ year_span k = cond_both b 366 365 (λ n. 365 ≤ n) (λ _. omega arith) (λ _. omega arith) in
    (omega arith, omega arith)

pub easter_found :
    (y march days : ℕ) → IsDate y 3 21 → march ≡ number_of y 3 21 →
    number_of (1900 + (y - 1900)) 3 21 + days ≡ easter_of (1900 + (y - 1900)) → Some (march + days) ≡ easter_number y
easter_found y march days is here there =
    let from = le-leb 1900 y is.month.year_from in
    let to = le-leb y 2199 is.month.year_to in
    let e : 1900 + (y - 1900) ≡ y = omega arith in
    let sum : number_of y 3 21 + days ≡ easter_of y = rw e at there in
    let same : march + days ≡ easter_of y = rw here sum in
    rw (from, to, same) refl

pub no_easter : (y : ℕ) → (IsDate y 3 21 → ⊥) → None ≡ easter_number y
no_easter y never =
    ⊎_elim
    (λ t.
    let p = and_parts _ _ t in
    absurd
    (never
    (record {
      month =
          record {
            year_from = leb-true _ _ p.0;
            year_to = leb-true _ _ p.1;
            month_from = omega arith;
            month_to = omega arith;
          };
      day_from = omega arith;
      day_to = omega arith;
    })))
    (λ f. rw f refl) (cases_Bool (leb 1900 y && leb y 2199))
