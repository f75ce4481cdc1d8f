-- The calls on a register, and when each is refused.
-- Assumes nothing.
use Rattle.std.specs.Prelude.{◌≡◌, ℕ, ◌+◌, Bool, true, cond, not, ◌&&◌, ◌||◌, List, [], ◌∷◌, length, drop, Some, None, sum, Option, Result, MatchResult, ◌==◌, nat_le, nat_lt, slice_index}
use Rattle.days.specs.Calendar.{last_day}
use Rattle.days.specs.Refusals.{Told, told, answer}
use Rattle.days.specs.declared.refusal.Refusal.{Refusal}
use Rattle.days.specs.declared.refusal.Layer.TheVariants.{Register}

pub data Call : Type 0 where
  -- dates, rate and holdings
  opening : List ℕ → ℕ → List ℕ → Call
  -- a day
  advance : ℕ → Call
  -- giver, taker and amount
  transfer : ℕ → ℕ → ℕ → Call
  -- holder and amount
  redemption : ℕ → ℕ → Call
  posting : Call
  -- holder
  payment : ℕ → Call

-- what a call is judged by: the dates, each holder's holding, today, and the index of the current period
pub record State : Type 0 where
  pub dates : List ℕ
  pub holdings : List ℕ
  pub today : ℕ
  pub period : ℕ

-- a register has no dates while it is empty, and is closed after its last period
abbrev pub empty : State → Bool
empty s = length s.dates == 0

abbrev pub closed : State → Bool
closed s = nat_le (length s.dates) (s.period + 1)

-- the day that ends the current period
abbrev pub end_of : State → ℕ
end_of s = slice_index s.dates (s.period + 1)

abbrev pub follows : ℕ → List ℕ → Bool
follows x [] = true
follows x (y ∷ ys) = nat_lt x y && nat_le y (x + 800)

-- a date of the range, which the next one follows within 800 days
abbrev pub fits_before : ℕ → List ℕ → Bool
fits_before x xs = nat_le x last_day && follows x xs

-- dates of the range that rise strictly, neighbours at most 800 days apart
abbrev pub steady : List ℕ → Bool
steady [] = true
steady (x ∷ xs) = fits_before x xs && steady xs

-- the same of the date at one place
abbrev pub follows_at : List ℕ → ℕ → Bool
follows_at dates i = fits_before (slice_index dates i) (drop (i + 1) dates)

abbrev pub good_dates : List ℕ → Bool
good_dates dates = (nat_le 2 (length dates) && nat_le (length dates) 481) && steady dates

abbrev pub refuse_if : Bool → ℕ → Option Told → Option Told
refuse_if cause number rest = cond cause (Some (answer number Register 0)) rest

abbrev pub unknown : State → ℕ → Bool
unknown s holder = nat_le (length s.holdings) holder

abbrev pub uncovered : State → ℕ → ℕ → Bool
uncovered s holder amount = amount == 0 || nat_lt (slice_index s.holdings holder) amount

-- the two holders of a transfer, and its amount
abbrev pub parties : State → ℕ → ℕ → ℕ → Option Told
parties s from to amount =
    refuse_if (unknown s from || unknown s to) 22
    (refuse_if (from == to) 23 (refuse_if (uncovered s from amount) 24 None))

-- the holdings of an opening
abbrev pub judge_holdings : List ℕ → Option Told
judge_holdings holdings =
    refuse_if (length holdings == 0 || nat_lt 16 (length holdings)) 17
    (refuse_if (sum holdings == 0 || nat_lt 10000000000 (sum holdings)) 18 None)

-- the refusal of a call, of several causes the one with the smallest number
abbrev pub judge : State → Call → Option Told
judge s (opening dates rate holdings) =
    refuse_if (not (empty s)) 14
    (refuse_if (not (good_dates dates)) 15
    (refuse_if (nat_lt 50000 rate) 16 (judge_holdings holdings)))
judge s (advance day) =
    refuse_if (empty s) 19
    (refuse_if (closed s) 20 (refuse_if (nat_lt day s.today || nat_lt (end_of s) day) 21 None))
judge s (transfer from to amount) =
    refuse_if (empty s) 19 (refuse_if (closed s) 20 (parties s from to amount))
judge s (redemption holder amount) =
    refuse_if (empty s) 19
    (refuse_if (closed s) 20 (refuse_if (unknown s holder) 22 (refuse_if (uncovered s holder amount) 24 None)))
judge s posting = refuse_if (empty s) 19 (refuse_if (closed s) 20 None)
judge s (payment holder) = refuse_if (empty s) 19 (refuse_if (unknown s holder) 22 None)

-- what is judged is let through where there is no cause, and else refused with that cause
abbrev pub IsJudged : {T : Type 0} → Option Told → Result T Refusal → Type 0
IsJudged cause r = MatchResult r (λ x. cause ≡ None) (λ e. cause ≡ Some (told e))
