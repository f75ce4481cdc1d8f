-- The kinds of fields: which words are well written, what they say, and which of these values a text may not have.
-- Assumes nothing.
use Rattle.std.specs.Prelude.{ℕ, ◌+◌, ◌-◌, ◌*◌, Bool, true, false, cond, not, ◌&&◌, ◌||◌, List, [], ◌∷◌, length, take, drop, ℤ, pos, negsuc, Some, None, Ok, Err, Option, Result, ◌==◌, count_ones, nat_le, slice_index}
use Rattle.std.specs.Str.{all_ascii_digits}
use Rattle.days.specs.Calendar.{first_year, last_year, month_length, number_of}
use Rattle.days.specs.declared.refusal.Refusal.{Refusal}
use Rattle.days.specs.declared.refusal.Refusal.TheVariants.{NoSuchDay, ClosesWholeWeek, OffsetOutOfRange}
use Rattle.calendar.specs.Kinds.{within_sixty}
use Rattle.calendar.specs.Letters.{convention_of}
use Rattle.calendar.specs.declared.rolling.Convention.{Convention}
use Rattle.schedules.specs.declared.deal.Stub.{Stub}
use Rattle.schedules.specs.declared.deal.Stub.TheVariants.{ShortFirst, ShortLast}
use Rattle.text.specs.declared.basis.Basis.{Basis}
use Rattle.text.specs.declared.basis.Basis.TheVariants.{Actual360, Actual365, BondBasis, European}
use Rattle.text.specs.Marks.{are}

pub data Kind : Type 0 where
  date : Kind
  number : Kind
  pattern : Kind
  offset : Kind
  stub : Kind
  convention : Kind
  basis : Kind

-- what a well-written word says: a date the day's number, or none where it is no day of the range
abbrev pub Said : Kind → Type 0
Said date = Option ℕ
Said number = ℕ
Said pattern = ℕ
Said offset = ℤ
Said stub = Stub
Said convention = Convention
Said basis = Basis

-- the values of a text
abbrev pub Value : Kind → Type 0
Value date = ℕ
Value number = ℕ
Value pattern = ℕ
Value offset = ℤ
Value stub = Stub
Value convention = Convention
Value basis = Basis

-- digits of a radix from the left, behind those that write n
abbrev pub value_on : ℕ → ℕ → List ℕ → ℕ
value_on radix n [] = n
value_on radix n (c ∷ cs) = value_on radix (radix * n + (c - 48)) cs

abbrev pub read_on : ℕ → List ℕ → ℕ
read_on n word = value_on 10 n word

-- digits alone
abbrev pub digits_of : ℕ → List ℕ → Bool
digits_of count word = length word == count && all_ascii_digits word

-- 1 to 11 digits, and a zero in front only where it is the whole number
abbrev pub is_number : List ℕ → Bool
is_number word =
    (nat_le 1 (length word) && nat_le (length word) 11)
    && (all_ascii_digits word && (length word == 1 || not (slice_index word 0 == 48)))

abbrev pub number_said : List ℕ → Option ℕ
number_said word = cond (is_number word) (Some (read_on 0 word)) None

-- the parts of yyyy-mm-dd
abbrev pub year_part : List ℕ → List ℕ
year_part word = take 4 word

abbrev pub month_part : List ℕ → List ℕ
month_part word = take 2 (drop 5 word)

abbrev pub day_part : List ℕ → List ℕ
day_part word = drop 8 word

abbrev pub is_dated : List ℕ → Bool
is_dated word =
    (length word == 10 && (slice_index word 4 == 45 && slice_index word 7 == 45))
    && (all_ascii_digits (year_part word) && (all_ascii_digits (month_part word) && all_ascii_digits (day_part word)))

abbrev pub is_date : ℕ → ℕ → ℕ → Bool
is_date y m d =
    (nat_le first_year y && nat_le y last_year)
    && ((nat_le 1 m && nat_le m 12) && (nat_le 1 d && nat_le d (month_length y m)))

-- the number of a date, absent where it is no day of the range
abbrev pub day_said : ℕ → ℕ → ℕ → Option ℕ
day_said y m d = cond (is_date y m d) (Some (number_of y m d)) None

abbrev pub date_said : List ℕ → Option (Option ℕ)
date_said word =
    cond (is_dated word)
    (Some (day_said (read_on 0 (year_part word)) (read_on 0 (month_part word)) (read_on 0 (day_part word)))) None

-- 0s and 1s, Monday first
abbrev pub all_bits : List ℕ → Bool
all_bits [] = true
all_bits (c ∷ cs) = (c == 48 || c == 49) && all_bits cs

abbrev pub bits_on : ℕ → List ℕ → ℕ
bits_on n word = value_on 2 n word

abbrev pub pattern_said : List ℕ → Option ℕ
pattern_said word = cond (length word == 7 && all_bits word) (Some (bits_on 0 word)) None

abbrev pub plus_said : Option ℕ → Option ℤ
plus_said None = None
plus_said (Some n) = Some (pos n)

-- a zero has no minus
abbrev pub minus_said : Option ℕ → Option ℤ
minus_said None = None
minus_said (Some n) = cond (n == 0) None (Some (negsuc (n - 1)))

-- a sign, and a number behind it
abbrev pub offset_said : List ℕ → Option ℤ
offset_said [] = None
offset_said (c ∷ cs) =
    cond (c == 43) (plus_said (number_said cs)) (cond (c == 45) (minus_said (number_said cs)) None)

-- SF and SL
abbrev pub stub_said : List ℕ → Option Stub
stub_said [] = None
stub_said (a ∷ []) = None
stub_said (a ∷ b ∷ []) = cond (are a b 83 70) (Some ShortFirst) (cond (are a b 83 76) (Some ShortLast) None)
stub_said (a ∷ b ∷ c ∷ rest) = None

-- F, M, P and U
abbrev pub convention_said : List ℕ → Option Convention
convention_said [] = None
convention_said (a ∷ []) = convention_of a
convention_said (a ∷ b ∷ rest) = None

abbrev pub same_bytes : List ℕ → List ℕ → Bool
same_bytes [] [] = true
same_bytes [] (y ∷ ys) = false
same_bytes (x ∷ xs) [] = false
same_bytes (x ∷ xs) (y ∷ ys) = x == y && same_bytes xs ys

-- A360, A365, B360 and E360
abbrev pub basis_said : List ℕ → Option Basis
basis_said word =
    cond (same_bytes word (65 ∷ 51 ∷ 54 ∷ 48 ∷ [])) (Some Actual360)
    (cond (same_bytes word (65 ∷ 51 ∷ 54 ∷ 53 ∷ [])) (Some Actual365)
    (cond (same_bytes word (66 ∷ 51 ∷ 54 ∷ 48 ∷ [])) (Some BondBasis)
    (cond (same_bytes word (69 ∷ 51 ∷ 54 ∷ 48 ∷ [])) (Some European) None)))

-- what a word says in the place of a field; absent where it is badly written
abbrev pub said : (kind : Kind) → List ℕ → Option (Said kind)
said date word = date_said word
said number word = number_said word
said pattern word = pattern_said word
said offset word = offset_said word
said stub word = stub_said word
said convention word = convention_said word
said basis word = basis_said word

abbrev pub day_settled : Option ℕ → Result ℕ Refusal
day_settled (Some day) = Ok day
day_settled None = Err NoSuchDay

-- the value, or why a text may not have it
abbrev pub settled : (kind : Kind) → Said kind → Result (Value kind) Refusal
settled date day = day_settled day
settled number n = Ok n
settled pattern mask = cond (nat_le (count_ones mask) 6) (Ok mask) (Err ClosesWholeWeek)
settled offset z = cond (within_sixty z) (Ok z) (Err OffsetOutOfRange)
settled stub s = Ok s
settled convention c = Ok c
settled basis b = Ok b
