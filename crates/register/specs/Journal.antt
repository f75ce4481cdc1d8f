-- The journal: a plain machine that is fed the calls on a register, and notes who held what on which evening.
-- Assumes nothing.
use Rattle.std.specs.Prelude.{ℕ, ◌+◌, ◌-◌, cond, List, [], ◌++◌, map, is_some, fold, sum, ◌==◌, slice_index, slice_set}
use Rattle.std.specs.List.{range_with_len}
use Rattle.register.specs.Calls.{Call, opening, advance, transfer, redemption, posting, payment, State, end_of, judge}

-- the holdings and the nominal in the evening of a day
pub record Evening : Type 0 where
  pub day : ℕ
  pub holdings : List ℕ
  pub nominal : ℕ

pub record Journal : Type 0 where
  pub dates : List ℕ
  pub rate : ℕ
  pub holdings : List ℕ
  pub nominal : ℕ
  pub today : ℕ
  pub period : ℕ
  pub evenings : List Evening

abbrev pub fresh : Journal
fresh = record { dates = []; rate = 0; holdings = []; nominal = 0; today = 0; period = 0; evenings = [] }

abbrev pub state_of : Journal → State
state_of j = record { dates = j.dates; holdings = j.holdings; today = j.today; period = j.period }

-- the evenings of each day from today to before the new one
abbrev pub evenings_to : Journal → ℕ → List Evening
evenings_to j day =
    map (λ x. record { day = x; holdings = j.holdings; nominal = j.nominal }) (range_with_len j.today (day - j.today))

abbrev pub taken : ℕ → ℕ → List ℕ → List ℕ
taken holder amount holdings = slice_set holdings holder (slice_index holdings holder - amount)

abbrev pub given : ℕ → ℕ → List ℕ → List ℕ
given holder amount holdings = slice_set holdings holder (slice_index holdings holder + amount)

-- what an accepted call changes
abbrev pub change : Journal → Call → Journal
change j (opening dates rate holdings) =
    record {
      dates = dates;
      rate = rate;
      holdings = holdings;
      nominal = sum holdings;
      today = slice_index dates 0;
      period = 0;
      evenings = j.evenings;
    }
change j (advance day) =
    record {
      dates = j.dates;
      rate = j.rate;
      holdings = j.holdings;
      nominal = j.nominal;
      today = day;
      period = j.period;
      evenings = j.evenings ++ evenings_to j day;
    }
change j (transfer from to amount) =
    record {
      dates = j.dates;
      rate = j.rate;
      holdings = given to amount (taken from amount j.holdings);
      nominal = j.nominal;
      today = j.today;
      period = j.period;
      evenings = j.evenings;
    }
change j (redemption holder amount) =
    record {
      dates = j.dates;
      rate = j.rate;
      holdings = taken holder amount j.holdings;
      nominal = j.nominal - amount;
      today = j.today;
      period = j.period;
      evenings = j.evenings;
    }
change j posting =
    record {
      dates = j.dates;
      rate = j.rate;
      holdings = j.holdings;
      nominal = j.nominal;
      today = j.today;
      period = cond (j.today == end_of (state_of j)) (j.period + 1) j.period;
      evenings = j.evenings;
    }
change j (payment holder) = j

-- a refused call changes nothing
abbrev pub next : Journal → Call → Journal
next j call = cond (is_some (judge (state_of j) call)) j (change j call)

-- the journal of a list of calls, the first call first
abbrev pub journal : List Call → Journal
journal calls = fold next fresh calls
