-- Spans of days laid end to end, as the months of a year or the years of the calendar: span k has `len k` days.
-- Assumes nothing.
use Rattle.std.specs.Prelude.{ℕ, zero, suc, ◌+◌, ◌-◌, cond, nat_lt}

-- the days before span k
unfoldable pub start_of : (ℕ → ℕ) → ℕ → ℕ
start_of len zero = 0
start_of len (suc k) = start_of len k + len k

-- the span that holds the day n, counted from the first day of span k; at most `fuel` spans are passed
unfoldable pub span_from : (ℕ → ℕ) → ℕ → ℕ → ℕ → ℕ
span_from len zero k n = k
span_from len (suc fuel) k n = let later = span_from len fuel (suc k) (n - len k) in cond (nat_lt n (len k)) k later

abbrev pub span_of : (ℕ → ℕ) → ℕ → ℕ → ℕ
span_of len spans n = span_from len spans 0 n
