-- The rules of a register: what each call answers, and what it leaves in the rows.
-- Assumes nothing.
use Rattle.std.specs.Prelude.{ℕ, ◌+◌, ◌-◌, ◌*◌, cond, List, map, length, take, sum, ◌==◌, slice_index}
use Rattle.register.specs.declared.row.Row.{Row}
use Rattle.register.specs.Calls.{Call, opening, advance, transfer, redemption, posting, payment, State, end_of}
use Rattle.register.specs.Rows.{accrued, posted, total_units, at, moved, redeemed, paid_out, opened}

-- a register as it is seen: sixteen rows, of which the first `holders` are in use, and the count so far in the period
pub record View : Type 0 where
  pub dates : List ℕ
  pub rate : ℕ
  pub holders : ℕ
  pub rows : List Row
  pub today : ℕ
  pub period : ℕ
  pub tally : ℕ

abbrev pub seen_state : View → State
seen_state v =
    record { dates = v.dates; holdings = map (λ r. r.holding) (take v.holders v.rows); today = v.today; period = v.period }

abbrev pub rows_in_use : View → List Row
rows_in_use v = take v.holders v.rows

-- the ticks of one unit of money
abbrev pub unit : ℕ → ℕ
unit per = 100000 * per

-- the first date of the current period
abbrev pub first : View → ℕ
first v = slice_index v.dates v.period

-- the counted days from today to a day
abbrev pub days_on : (ℕ → ℕ → ℕ) → View → ℕ → ℕ
days_on count v day = count (first v) day - v.tally

-- what an accepted call answers
abbrev pub answered : (ℕ → ℕ → ℕ) → ℕ → View → Call → ℕ
answered count per v (opening dates rate holdings) = sum holdings
answered count per v (advance day) = days_on count v day
answered count per v (transfer from to amount) = amount
answered count per v (redemption holder amount) = amount
answered count per v posting = total_units (unit per) v.rows
answered count per v (payment holder) = (at v.rows holder).due

-- and what it leaves
abbrev pub with_rows : View → List Row → View
with_rows v rows =
    record {
      dates = v.dates;
      rate = v.rate;
      holders = v.holders;
      rows = rows;
      today = v.today;
      period = v.period;
      tally = v.tally;
    }

abbrev pub begun : View → View
begun v =
    record {
      dates = v.dates;
      rate = v.rate;
      holders = v.holders;
      rows = v.rows;
      today = v.today;
      period = v.period + 1;
      tally = 0;
    }

abbrev pub opened_view : List ℕ → ℕ → List ℕ → View
opened_view dates rate holdings =
    record {
      dates = dates;
      rate = rate;
      holders = length holdings;
      rows = opened holdings;
      today = slice_index dates 0;
      period = 0;
      tally = 0;
    }

abbrev pub ruled : (ℕ → ℕ → ℕ) → ℕ → View → Call → View
ruled count per v (opening dates rate holdings) = opened_view dates rate holdings
ruled count per v (advance day) =
    record {
      dates = v.dates;
      rate = v.rate;
      holders = v.holders;
      rows = map (accrued v.rate (days_on count v day)) v.rows;
      today = day;
      period = v.period;
      tally = v.tally + days_on count v day;
    }
ruled count per v (transfer from to amount) = with_rows v (moved from to amount v.rows)
ruled count per v (redemption holder amount) = with_rows v (redeemed holder amount v.rows)
ruled count per v posting =
    let after = with_rows v (map (posted (unit per)) v.rows) in
    cond (v.today == end_of (seen_state v)) (begun after) after
ruled count per v (payment holder) = with_rows v (paid_out holder v.rows)
