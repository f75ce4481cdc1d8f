-- Dates as words: year, month and day in groups of digits, with hyphens between.
-- Assumes nothing.
use Rattle.std.proofs.Common.{◌≡◌, ℕ, ◌+◌, ◌/◌, ◌%◌, ◌<◌, true, ◌&&◌, eqb, List, [], ◌∷◌, ◌++◌, length, get_or, refl, ap, ◌∙◌, subst, arith}
use Rattle.std.specs.Str.{all_ascii_digits}
use Rattle.std.proofs.lemmas.Str.Parse.{tells_all_ascii_digits}
use Rattle.std.proofs.lemmas.Bool.{and_parts, and_from, eqb-true}
use Rattle.std.proofs.ByRecursion.{All-append}
use Rattle.writing.specs.Spelling.{hyphen, two, four, dated}
use Rattle.text.specs.Kinds.{read_on, year_part, month_part, day_part, is_dated}
use Rattle.text.proofs.DigitTexts.{digit_and_digits}
use Rattle.text.proofs.Places.{places_are}
use Rattle.text.proofs.Unbroken.{Above}

-- two digits, and the number below a hundred that they write
pub two_read : (a b : ℕ) → all_ascii_digits (a ∷ b ∷ []) ≡ true → two (read_on 0 (a ∷ b ∷ [])) ≡ a ∷ b ∷ []
two_read a b digits =
    let first = digit_and_digits a (b ∷ []) digits in
    let second = digit_and_digits b [] first.1 in
    let n = read_on 0 (a ∷ b ∷ []) in
    let tens : 48 + n / 10 ≡ a = omega arith in
    let ones : 48 + n % 10 ≡ b = omega arith in
    cc

two_digits : (n : ℕ) → n < 100 → all_ascii_digits (two n) ≡ true
two_digits n small =
    tells_all_ascii_digits.more (48 + n / 10) ((48 + n % 10) ∷ []) (omega arith, omega arith)
    (tells_all_ascii_digits.more (48 + n % 10) [] (omega arith, omega arith) refl)

pub two_value : (n : ℕ) → n < 100 → read_on 0 (two n) ≡ n
two_value n small = omega arith

-- four digits, and the number below ten thousand
pub four_value : (n : ℕ) → n < 10000 → read_on 0 (four n) ≡ n
four_value n small = omega arith

four_digits : (n : ℕ) → n < 10000 → all_ascii_digits (four n) ≡ true
four_digits n small =
    let high = n / 100 in
    tells_all_ascii_digits.more (48 + high / 10) ((48 + high % 10) ∷ two (n % 100)) (omega arith, omega arith)
    (tells_all_ascii_digits.more (48 + high % 10) (two (n % 100)) (omega arith, omega arith)
    (two_digits (n % 100) (omega arith)))

four_read :
    (a b c d : ℕ) → all_ascii_digits (a ∷ b ∷ c ∷ d ∷ []) ≡ true → four (read_on 0 (a ∷ b ∷ c ∷ d ∷ [])) ≡ a ∷ b ∷ c ∷ d ∷ []
four_read a b c d digits =
    let first = digit_and_digits a (b ∷ c ∷ d ∷ []) digits in
    let second = digit_and_digits b (c ∷ d ∷ []) first.1 in
    let third = digit_and_digits c (d ∷ []) second.1 in
    let fourth = digit_and_digits d [] third.1 in
    let n = read_on 0 (a ∷ b ∷ c ∷ d ∷ []) in
    let front = tells_all_ascii_digits.more a (b ∷ []) first.0 (tells_all_ascii_digits.more b [] second.0 refl) in
    let high : n / 100 ≡ read_on 0 (a ∷ b ∷ []) = omega arith in
    let low : n % 100 ≡ read_on 0 (c ∷ d ∷ []) = omega arith in
    let century : two (n / 100) ≡ a ∷ b ∷ [] = ap two high ∙ two_read a b front in
    let year : two (n % 100) ≡ c ∷ d ∷ [] = ap two low ∙ two_read c d second.1 in
    ap (λ (ds : List ℕ). ds ++ two (n % 100)) century ∙ ap (λ (ds : List ℕ). a ∷ b ∷ ds) year

-- a well-written date is how the numbers of its parts are spelled
abbrev pub Respelled : List ℕ → Type 0
Respelled word =
    dated (read_on 0 (year_part word)) (read_on 0 (month_part word)) (read_on 0 (day_part word)) ≡ word

ten_read :
    (a b c d h e f i g j : ℕ) → is_dated (a ∷ b ∷ c ∷ d ∷ h ∷ e ∷ f ∷ i ∷ g ∷ j ∷ []) ≡ true →
    Respelled (a ∷ b ∷ c ∷ d ∷ h ∷ e ∷ f ∷ i ∷ g ∷ j ∷ [])
ten_read a b c d h e f i g j test =
    let year = a ∷ b ∷ c ∷ d ∷ [] in
    let month = e ∷ f ∷ [] in
    let day = g ∷ j ∷ [] in
    let halves = and_parts (eqb h 45 && eqb i 45) (all_ascii_digits year && (all_ascii_digits month && all_ascii_digits day)) test in
    let hyphens = and_parts (eqb h 45) (eqb i 45) halves.0 in
    let parts = and_parts (all_ascii_digits year) (all_ascii_digits month && all_ascii_digits day) halves.1 in
    let others = and_parts (all_ascii_digits month) (all_ascii_digits day) parts.1 in
    let first = eqb-true h 45 hyphens.0 in
    let second = eqb-true i 45 hyphens.1 in
    let years = four_read a b c d parts.0 in
    let months = two_read e f others.0 in
    let days = two_read g j others.1 in
    cc

pub dated_read : (word : List ℕ) → is_dated word ≡ true → Respelled word
dated_read word test =
    let hyphens = eqb (get_or word 4 0) 45 && eqb (get_or word 7 0) 45 in
    let digits = all_ascii_digits (year_part word) && (all_ascii_digits (month_part word) && all_ascii_digits (day_part word)) in
    let halves = and_parts (eqb (length word) 10 && hyphens) digits test in
    let size = and_parts (eqb (length word) 10) hyphens halves.0 in
    let same = places_are 10 word (eqb-true (length word) 10 size.0) in
    subst (λ (w : List ℕ). is_dated w ≡ true → Respelled w) same (ten_read _ _ _ _ _ _ _ _ _ _) test

-- the spelling of a date is well written, and its parts say the date
pub is_dated_dated : (y m d : ℕ) → y < 10000 → m < 100 → d < 100 → is_dated (dated y m d) ≡ true
is_dated_dated y m d years months days =
    and_from (all_ascii_digits (four y)) (all_ascii_digits (two m) && all_ascii_digits (two d)) (four_digits y years)
    (and_from (all_ascii_digits (two m)) (all_ascii_digits (two d)) (two_digits m months) (two_digits d days))

pub dated_above : (y m d : ℕ) → Above (dated y m d)
dated_above y m d =
    let two_above : (n : ℕ) → Above (two n) = λ n. (omega arith, (omega arith, tt)) in
    let dash : 32 < 45 = omega arith in
    let day : Above (hyphen ∷ two d) = (dash, two_above d) in
    let month : Above (hyphen ∷ two m ++ (hyphen ∷ two d)) = (dash, All-append (λ c. 32 < c) (two m) (hyphen ∷ two d) (two_above m) day) in
    let year : Above (four y) = All-append (λ c. 32 < c) (two (y / 100)) (two (y % 100)) (two_above (y / 100)) (two_above (y % 100)) in
    All-append (λ c. 32 < c) (four y) (hyphen ∷ two m ++ (hyphen ∷ two d)) year month
