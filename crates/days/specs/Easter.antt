-- Easter Sunday by the Gregorian computus, in the anonymous form with every step a quotient or a remainder.
-- Assumes nothing.
use Rattle.std.specs.Prelude.{ℕ, ◌+◌, ◌-◌, ◌*◌, ◌/◌, ◌%◌, cond, ◌&&◌, Some, None, Option, nat_le}
use Rattle.days.specs.Calendar.{number_of, first_year, last_year}

-- 31 times the month, plus the day less one
unfoldable pub computus : ℕ → ℕ
computus y =
    let a = y % 19 in
    let b = y / 100 in
    let c = y % 100 in
    let d = b / 4 in
    let e = b % 4 in
    let f = (b + 8) / 25 in
    let g = (b - f + 1) / 3 in
    let h = (19 * a + b - d - g + 15) % 30 in
    let i = c / 4 in
    let k = c % 4 in
    let l = (32 + 2 * e + 2 * i - h - k) % 7 in
    let m = (a + 11 * h + 22 * l) / 451 in
    h + l - 7 * m + 114

abbrev pub easter_month : ℕ → ℕ
easter_month y = computus y / 31

abbrev pub easter_day : ℕ → ℕ
easter_day y = computus y % 31 + 1

-- the day number of Easter Sunday
abbrev pub easter_of : ℕ → ℕ
easter_of y = number_of y (easter_month y) (easter_day y)

-- absent outside the years of the range
abbrev pub easter_number : ℕ → Option ℕ
easter_number y = cond (nat_le first_year y && nat_le y last_year) (Some (easter_of y)) None
