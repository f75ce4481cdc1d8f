-- The lines of the files: numbers of 32 bits in decimals, with one space between two.
-- Assumes nothing.
use Rattle.std.specs.Prelude.{◌≡◌, ℕ, ◌^◌, ◌<◌, List, ◌∷◌, ◌++◌}
use Rattle.std.specs.Str.Parse.{IsNumeral, digits_value, without_leading_plus}
use Rattle.days.specs.declared.dates.Date.{Date}
use Rattle.outside.specs.declared.figures.DatedDay.{DatedDay}

-- the word is digits, after a plus sign or none, and n is what they say
pub record Spells (word : List ℕ) (n : ℕ) : Type 0 where
  pub numeral : IsNumeral 10 (without_leading_plus word)
  pub number : digits_value 10 (without_leading_plus word) ≡ n
  pub small : n < 2 ^ 32

-- the text begins with a word for n and a space, and the rest follows
pub record Leads (text : List ℕ) (n : ℕ) (rest : List ℕ) : Type 0 where
  pub word : List ℕ
  pub cut : text ≡ word ++ (32 ∷ rest)
  pub spells : Spells word n

-- year, month and day
pub record DateLine (line : List ℕ) (date : Date) : Type 0 where
  pub after_year : List ℕ
  pub after_month : List ℕ
  pub year : Leads line date.year after_year
  pub month : Leads after_year date.month after_month
  pub day : Spells after_month date.day

-- day number, year, month, day and weekday
pub record DatedDayLine (line : List ℕ) (figure : DatedDay) : Type 0 where
  pub after_number : List ℕ
  pub after_year : List ℕ
  pub after_month : List ℕ
  pub after_day : List ℕ
  pub number : Leads line figure.number after_number
  pub year : Leads after_number figure.date.year after_year
  pub month : Leads after_year figure.date.month after_month
  pub day : Leads after_month figure.date.day after_day
  pub weekday : Spells after_day figure.weekday
