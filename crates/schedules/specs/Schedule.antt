-- The schedule of a deal: the days that its dates roll to, or why it is refused.
-- Assumes nothing.
use Rattle.std.specs.Prelude.{◌≡◌, ℕ, suc, Bool, cond, not, List, [], ◌∷◌, ◌++◌, length, drop, Some, None, Ok, Err, Option, Result, ◌==◌, nat_lt}
use Rattle.days.specs.Refusals.{Told, told, answer}
use Rattle.days.specs.declared.refusal.Layer.TheVariants.{Calendar, Deal as DealLayer}
use Rattle.days.specs.declared.refusal.Refusal.{Refusal}
use Rattle.calendar.specs.Rolling.{rolled}
use Rattle.schedules.specs.declared.deal.Deal.{Deal}
use Rattle.schedules.specs.Dates.{good_term, good_months, dates}

-- a day before the days of later dates; the index of a date without a day goes before any later one
abbrev pub with_first : Option ℕ → ℕ → Result (List ℕ) ℕ → Result (List ℕ) ℕ
with_first None index rest = Err index
with_first (Some day) index (Ok days) = Ok (day ∷ days)
with_first (Some day) index (Err later) = Err later

-- the day of each date, or the index of the first that has none
unfoldable pub roll_all : (ℕ → Option ℕ) → ℕ → List ℕ → Result (List ℕ) ℕ
roll_all roll index [] = Ok []
roll_all roll index (date ∷ later) = let rest = roll_all roll (suc index) later in with_first (roll date) index rest

-- the index of the first day that is the day before it in the list
unfoldable pub clash_from : ℕ → ℕ → List ℕ → Option ℕ
clash_from before index [] = None
clash_from before index (day ∷ days) =
    let later = clash_from day (suc index) days in cond (before == day) (Some index) later

unfoldable pub first_clash : List ℕ → Option ℕ
first_clash [] = None
first_clash (day ∷ days) = clash_from day 1 days

abbrev pub unless_clash : List ℕ → Option ℕ → Result (List ℕ) Told
unless_clash days None = Ok days
unless_clash days (Some index) = Err (answer 13 DealLayer index)

abbrev pub laid_out : Result (List ℕ) ℕ → Result (List ℕ) Told
laid_out (Ok days) = unless_clash days (first_clash days)
laid_out (Err index) = Err (answer 12 Calendar index)

-- the schedule where nothing is wrong with the deal and the table has room
abbrev pub rolled_dates : (ℕ → Bool) → Deal → Result (List ℕ) Told
rolled_dates closed deal = laid_out (roll_all (rolled closed deal.convention) 0 (dates deal))

-- the schedule over a closed-day set, for a table with room for so many dates
abbrev pub scheduled : (ℕ → Bool) → Deal → ℕ → Result (List ℕ) Told
scheduled closed deal room =
    cond (not (good_term deal)) (Err (answer 9 DealLayer 0))
    (cond (not (good_months deal.months)) (Err (answer 10 DealLayer 0))
    (cond (nat_lt room (length (dates deal))) (Err (answer 11 DealLayer 0)) (rolled_dates closed deal)))

-- what is answered, and what the table then holds
abbrev pub Answers : Result (List ℕ) Told → List ℕ → Result ℕ Refusal → List ℕ → Type 0
Answers (Ok days) table (Ok n) after = (n ≡ length days) × (after ≡ days ++ drop (length days) table)
Answers (Ok days) table (Err e) after = ⊥
Answers (Err why) table (Ok n) after = ⊥
Answers (Err why) table (Err e) after = (told e ≡ why) × (after ≡ table)

-- the answer and the table after a call with this table, by the rule
abbrev pub ByRule : (ℕ → Bool) → Deal → List ℕ → Result ℕ Refusal → List ℕ → Type 0
ByRule closed deal table r after = Answers (scheduled closed deal (length table)) table r after
