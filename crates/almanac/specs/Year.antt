-- How a year is written: four digits.
-- Assumes nothing.
use Rattle.std.specs.Prelude.{◌≡◌, ℕ, ◌+◌, ◌-◌, ◌*◌, ◌<◌, ◌≤◌, Bool, true, false, ◌&&◌, ◌⊎◌, List, length, Result, MatchResult, ◌==◌, nat_le, slice_index}
use Rattle.days.specs.Calendar.{first_year, last_year}
use Rattle.almanac.specs.declared.year.BadYear.{BadYear}
use Rattle.almanac.specs.declared.year.BadYear.TheVariants.{NotFourDigits, OutOfRange}

abbrev pub digit : ℕ → Bool
digit byte = nat_le 48 byte && nat_le byte 57

abbrev pub digits : ℕ → ℕ → ℕ → ℕ → Bool
digits a b c d = (digit a && digit b) && (digit c && digit d)

abbrev pub four_digits : List ℕ → Bool
four_digits bytes = length bytes == 4 && digits (slice_index bytes 0) (slice_index bytes 1) (slice_index bytes 2) (slice_index bytes 3)

abbrev pub at : List ℕ → ℕ → ℕ
at bytes i = slice_index bytes i - 48

abbrev pub year_value : List ℕ → ℕ
year_value bytes = 1000 * at bytes 0 + 100 * at bytes 1 + 10 * at bytes 2 + at bytes 3

abbrev pub Blames : BadYear → List ℕ → Type 0
Blames NotFourDigits bytes = four_digits bytes ≡ false
Blames (OutOfRange year) bytes =
    (four_digits bytes ≡ true) × (year ≡ year_value bytes) × ((year < first_year) ⊎ (last_year < year))

abbrev pub YearRead : List ℕ → Result ℕ BadYear → Type 0
YearRead bytes r =
    MatchResult r
    (λ year. (four_digits bytes ≡ true) × (year ≡ year_value bytes) × (first_year ≤ year) × (year ≤ last_year))
    (λ bad. Blames bad bytes)
