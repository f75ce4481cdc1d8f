-- Words that are read part by part.
-- Assumes nothing.
use Rattle.std.specs.Prelude.{ℕ, ◌+◌, Bool, true, cond, ◌&&◌, List, [], ◌∷◌, ℤ, Some, None, Option, ◌==◌}
use Rattle.std.specs.Int.{is_in_range}
use Rattle.text.specs.Kinds.{value_on, plus_said, minus_said}

-- digits of a radix up to ten
abbrev pub all_digits : ℕ → List ℕ → Bool
all_digits radix [] = true
all_digits radix (c ∷ cs) = is_in_range 48 (47 + radix) c && all_digits radix cs

-- the number that the digits so far begin and the word goes on; absent where a byte is no digit
abbrev pub digits_from : ℕ → ℕ → List ℕ → Option ℕ
digits_from radix n word = cond (all_digits radix word) (Some (value_on radix n word)) None

-- a number behind a byte that should be a sign
abbrev pub signed_said : ℕ → Option ℕ → Option ℤ
signed_said sign n = cond (sign == 43) (plus_said n) (cond (sign == 45) (minus_said n) None)
