-- How a date is read from its three parts.
-- Assumes nothing.
use Rattle.std.proofs.Common.{◌≡◌, ℕ, true, false, ◌&&◌, leb, List, length, get_or, take, drop, Some, None, Option, sym, refl, ap, ◌∙◌, inl, inr, arith, length-drop, MatchOption}
use Rattle.std.proofs.lemmas.List.{take_all}
use Rattle.std.specs.Str.{all_ascii_digits}
use Rattle.std.proofs.lemmas.Bool.{and_parts, and_from, leb-true, le-leb, eq-eqb, cases_Bool, cond-true, cond-false}
use Rattle.days.specs.Calendar.{first_year, last_year, month_length, IsDate, number_of}
use Rattle.days.proofs.Checks.{some_tells}
use Rattle.text.specs.Kinds.{is_date, day_said, date_said, read_on, year_part, month_part, day_part}
use Rattle.text.specs.Words.{digits_from}

date_from_test : (y m d : ℕ) → is_date y m d ≡ true → IsDate y m d
date_from_test y m d e =
    let p = and_parts (leb first_year y && leb y last_year) _ e in
    let ys = and_parts (leb first_year y) (leb y last_year) p.0 in
    let q = and_parts (leb 1 m && leb m 12) _ p.1 in
    let ms = and_parts (leb 1 m) (leb m 12) q.0 in
    let ds = and_parts (leb 1 d) (leb d (month_length y m)) q.1 in
    record {
      month =
          record {
            year_from = leb-true first_year y ys.0;
            year_to = leb-true y last_year ys.1;
            month_from = leb-true 1 m ms.0;
            month_to = leb-true m 12 ms.1;
          };
      day_from = leb-true 1 d ds.0;
      day_to = leb-true d (month_length y m) ds.1;
    }

test_from_date : (y m d : ℕ) → IsDate y m d → is_date y m d ≡ true
test_from_date y m d h =
    let month = h.month in
    let ys = and_from (leb first_year y) (leb y last_year) (le-leb first_year y month.year_from) (le-leb y last_year month.year_to) in
    let ms = and_from (leb 1 m) (leb m 12) (le-leb 1 m month.month_from) (le-leb m 12 month.month_to) in
    let ds = and_from (leb 1 d) (leb d (month_length y m)) (le-leb 1 d h.day_from) (le-leb d (month_length y m) h.day_to) in
    and_from (leb first_year y && leb y last_year) _ ys (and_from (leb 1 m && leb m 12) _ ms ds)

no_date : (y m d : ℕ) → (IsDate y m d → ⊥) → is_date y m d ≡ false
no_date y m d no_such =
    elim (cases_Bool (is_date y m d)) [ inl e ↦ absurd (no_such (date_from_test y m d e)) | inr e ↦ e ]

-- what is found for a date is what the date says
pub day_found :
    (y m d : ℕ) (r : Option ℕ) → MatchOption r (IsDate y m d → ⊥) (λ n. IsDate y m d × (n ≡ number_of y m d)) → r ≡ day_said y m d
day_found y m d None h = sym (cond-false (is_date y m d) (Some (number_of y m d)) None (no_date y m d h))
day_found y m d (Some n) h =
    ap Some h.1 ∙ sym (cond-true (is_date y m d) (Some (number_of y m d)) None (test_from_date y m d h.0))

-- three parts of digits, between two hyphens
pub date_by_parts :
    (word : List ℕ) (y m d : ℕ) → length word ≡ 10 → get_or word 4 0 ≡ 45 → get_or word 7 0 ≡ 45 →
    Some y ≡ digits_from 10 0 (year_part word) → Some m ≡ digits_from 10 0 (month_part word) →
    Some d ≡ digits_from 10 0 (day_part word) → Some (day_said y m d) ≡ date_said word
date_by_parts word y m d ten four seven ys ms ds =
    let a = some_tells (all_ascii_digits (year_part word)) y (read_on 0 (year_part word)) ys in
    let b = some_tells (all_ascii_digits (month_part word)) m (read_on 0 (month_part word)) ms in
    let e = some_tells (all_ascii_digits (day_part word)) d (read_on 0 (day_part word)) ds in
    rw (eq-eqb (length word) 10 ten, eq-eqb (get_or word 4 0) 45 four, eq-eqb (get_or word 7 0) 45 seven, a.0, b.0, e.0, a.1, b.1, e.1) refl

-- the last two of ten bytes
pub last_part : (word : List ℕ) → length word ≡ 10 → take 2 (drop 8 word) ≡ day_part word
last_part word ten = take_all 2 (drop 8 word) (rw length-drop (omega arith))
