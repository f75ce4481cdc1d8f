-- Dates are read as they are spelled.
-- Assumes nothing.
use Rattle.std.proofs.Common.{◌≡◌, ℕ, ◌-◌, ◌<◌, ◌≤◌, true, ◌&&◌, leb, List, Some, None, Ok, Option, sym, refl, ap, ◌∙◌, arith}
use Rattle.std.proofs.lemmas.Bool.{and_parts, and_from, leb-true, le-leb, cond-true}
use Rattle.days.specs.Calendar.{first_year, last_year, last_day, leap, month_length, IsDate, number_of, year_of, month_of, day_of}
use Rattle.days.proofs.Months.{month_size}
use Rattle.days.proofs.Round.{lossless}
use Rattle.writing.specs.Spelling.{dated, spelled_date}
use Rattle.text.specs.Kinds.{date, read_on, year_part, month_part, day_part, is_dated, is_date, day_said, date_said, day_settled}
use Rattle.text.specs.KindLaws.{KindLaw}
use Rattle.text.proofs.Chosen.{same_from_ok, some_from_only}
use Rattle.text.proofs.DateWords.{dated_read, is_dated_dated, dated_above, four_value, two_value}
use Rattle.text.proofs.Unbroken.{Above, unbroken_from_above}

-- the test of a date is the record of a date
date_from_test : (y m d : ℕ) → is_date y m d ≡ true → IsDate y m d
date_from_test y m d test =
    let years = leb first_year y && leb y last_year in
    let months = leb 1 m && leb m 12 in
    let days = leb 1 d && leb d (month_length y m) in
    let halves = and_parts years (months && days) test in
    let year = and_parts (leb first_year y) (leb y last_year) halves.0 in
    let rest = and_parts months days halves.1 in
    let month = and_parts (leb 1 m) (leb m 12) rest.0 in
    let day = and_parts (leb 1 d) (leb d (month_length y m)) rest.1 in
    record {
      month = record {
        year_from = leb-true first_year y year.0;
        year_to = leb-true y last_year year.1;
        month_from = leb-true 1 m month.0;
        month_to = leb-true m 12 month.1;
      };
      day_from = leb-true 1 d day.0;
      day_to = leb-true d (month_length y m) day.1;
    }

test_from_date : (y m d : ℕ) → IsDate y m d → is_date y m d ≡ true
test_from_date y m d is =
    let years = leb first_year y && leb y last_year in
    let months = leb 1 m && leb m 12 in
    let days = leb 1 d && leb d (month_length y m) in
    let month = is.month in
    and_from years (months && days)
    (and_from (leb first_year y) (leb y last_year) (le-leb first_year y month.year_from) (le-leb y last_year month.year_to))
    (and_from months days
    (and_from (leb 1 m) (leb m 12) (le-leb 1 m month.month_from) (le-leb m 12 month.month_to))
    (and_from (leb 1 d) (leb d (month_length y m)) (le-leb 1 d is.day_from) (le-leb d (month_length y m) is.day_to)))

-- the day that a date says is spelled by that date
day_from_settled : (o : Option ℕ) (n : ℕ) → day_settled o ≡ Ok n → o ≡ Some n
day_from_settled (Some day) n e = ap Some (same_from_ok e)
day_from_settled None n e = cc

day_spelled : (y m d n : ℕ) → day_said y m d ≡ Some n → (spelled_date n ≡ dated y m d) × (n ≤ last_day)
unfolding spelled_date
day_spelled y m d n e =
    let chosen = some_from_only (is_date y m d) (number_of y m d) e in
    let is = date_from_test y m d chosen.0 in
    let back = lossless.date_leads_back y m d is in
    let year : year_of n ≡ y = ap year_of (sym chosen.1) ∙ back.0 in
    let month : month_of n ≡ m = ap month_of (sym chosen.1) ∙ back.1 in
    let day : day_of n ≡ d = ap day_of (sym chosen.1) ∙ back.2 in
    (rw (year, month, day) refl, rw (← chosen.1) (lossless.each_date_has_a_number y m d is))

date_read :
    (word : List ℕ) (s : Option ℕ) (n : ℕ) → date_said word ≡ Some s → day_settled s ≡ Ok n →
    (spelled_date n ≡ word) × (n ≤ last_day)
date_read word s n e f =
    let y = read_on 0 (year_part word) in
    let m = read_on 0 (month_part word) in
    let d = read_on 0 (day_part word) in
    let chosen = some_from_only (is_dated word) (day_said y m d) e in
    let day = day_spelled y m d n (chosen.1 ∙ day_from_settled s n f) in
    (day.0 ∙ dated_read word chosen.0, day.1)

-- and back: the date of a day says that day
day_said_again : (n : ℕ) → n ≤ last_day → day_said (year_of n) (month_of n) (day_of n) ≡ Some n
day_said_again n h =
    let is = lossless.each_number_has_a_date n h in
    let number = number_of (year_of n) (month_of n) (day_of n) in
    cond-true (is_date (year_of n) (month_of n) (day_of n)) (Some number) None
    (test_from_date (year_of n) (month_of n) (day_of n) is)
    ∙ ap Some (lossless.number_leads_back n h)

same_day_said : {y y' m m' d d' : ℕ} → y ≡ y' → m ≡ m' → d ≡ d' → day_said y m d ≡ day_said y' m' d'
same_day_said year month day = cc

dated_said : (y m d : ℕ) → y < 10000 → m < 100 → d < 100 → date_said (dated y m d) ≡ Some (day_said y m d)
dated_said y m d years months days =
    let word = dated y m d in
    let year = four_value y years in
    let month = two_value m months in
    let day = two_value d days in
    cond-true (is_dated word)
    (Some (day_said (read_on 0 (year_part word)) (read_on 0 (month_part word)) (read_on 0 (day_part word)))) None
    (is_dated_dated y m d years months days)
    ∙ ap Some (same_day_said year month day)

date_said_again : (n : ℕ) → n ≤ last_day → date_said (spelled_date n) ≡ Some (Some n)
unfolding spelled_date
date_said_again n h =
    let is = lossless.each_number_has_a_date n h in
    let month = is.month in
    let size = month_size (leap (year_of n)) (month_of n - 1) (omega arith) in
    dated_said (year_of n) (month_of n) (day_of n) (omega arith) (omega arith) (omega arith)
    ∙ ap Some (day_said_again n h)

date_above : (n : ℕ) → Above (spelled_date n)
unfolding spelled_date
date_above n = dated_above (year_of n) (month_of n) (day_of n)

pub date_law : KindLaw date
date_law =
    record {
      read_as_spelled = λ word s v e f. date_read word s v e f;
      spelled_and_read = λ n h. (Some n, date_said_again n h, refl);
      unbroken = λ n h. unbroken_from_above (spelled_date n) (date_above n);
    }
