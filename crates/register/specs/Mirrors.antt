-- A register that stands after a list of calls, and the two equations of interest.
-- Assumes nothing.
use Rattle.std.specs.Prelude.{◌≡◌, ℕ, ◌-◌, List, [], ◌∷◌, ◌++◌, Some, None, Result, MatchResult, slice_index}
use Rattle.days.specs.Refusals.{told}
use Rattle.days.specs.declared.refusal.Refusal.{Refusal}
use Rattle.register.specs.Calls.{Call, judge, IsJudged}
use Rattle.register.specs.Journal.{Journal, journal, state_of}
use Rattle.register.specs.Interest.{holder_interest, nominal_interest}
use Rattle.register.specs.Rows.{at, worth, total_worth, total_holding}
use Rattle.register.specs.Rules.{View, seen_state, unit, first, days_on, answered, ruled}

-- the rule of a call, for every register: accepted, it answers and leaves what the rules say; refused, it changes nothing
abbrev pub Follows : (ℕ → ℕ → ℕ) → ℕ → View → Call → View → Result ℕ Refusal → Type 0
Follows count per v call v' r =
    MatchResult r
    (λ n. (judge (seen_state v) call ≡ None) × (v' ≡ ruled count per v call) × (n ≡ answered count per v call))
    (λ e. (judge (seen_state v) call ≡ Some (told e)) × (v' ≡ v))

-- a register and its journal: the same dates, rate, holdings, today and period; each holder's interest is that of the
-- evenings, and so is the interest of all together
pub record Mirrors (count : ℕ → ℕ → ℕ) (per : ℕ) (j : Journal) (v : View) : Type 0 where
  pub state : seen_state v ≡ state_of j
  pub rate : v.rate ≡ j.rate
  pub nominal : total_holding v.rows ≡ j.nominal
  pub holding : (i : ℕ) → (at v.rows i).holding ≡ slice_index j.holdings i
  pub each_holder : (i : ℕ) → worth (unit per) (at v.rows i) ≡ holder_interest count j i
  pub all_holders : total_worth (unit per) v.rows ≡ nominal_interest count j
  pub tally : v.tally ≡ count (first v) v.today

-- the register stands after these calls
abbrev pub After : (ℕ → ℕ → ℕ) → ℕ → List Call → View → Type 0
After count per calls v = Mirrors count per (journal calls) v

-- the call is refused just as the journal refuses it
abbrev pub AsJudged : Journal → Call → Result ℕ Refusal → Type 0
AsJudged j call r = IsJudged (judge (state_of j) call) r

-- a call's share of the law: from standing after any list of calls to standing after that list and this call
abbrev pub CarriesOn : (ℕ → ℕ → ℕ) → ℕ → View → Call → View → Result ℕ Refusal → Type 0
CarriesOn count per v call v' r =
    (calls : List Call) → After count per calls v →
    After count per (calls ++ call ∷ []) v' × AsJudged (journal calls) call r

-- the counted days of an advance, from today's count
abbrev pub CountsOn : (ℕ → ℕ → ℕ) → ℕ → View → ℕ → Type 0
CountsOn count per v day =
    (calls : List Call) → After count per calls v → days_on count v day ≡ count (first v) day - count (first v) v.today
