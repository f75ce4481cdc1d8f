-- Lists of calls on a new register, by the register's rules, and the law over every part of a run.
-- Assumes nothing.
use Rattle.std.specs.Prelude.{◌≡◌, ℕ, ◌<◌, ◌≤◌, List, [], ◌∷◌, length, take, Some, None, Ok, Err, Option, Result, MatchResult, slice_index_or}
use Rattle.days.specs.Refusals.{Told, told}
use Rattle.days.specs.declared.refusal.Refusal.{Refusal}
use Rattle.register.specs.Calls.{Call, posting, judge}
use Rattle.register.specs.Journal.{journal, state_of}
use Rattle.register.specs.Mirrors.{After}
use Rattle.register.specs.Rows.{opened}
use Rattle.register.specs.Rules.{View, seen_state, answered, ruled}

-- a new register
abbrev pub fresh_view : View
fresh_view = record { dates = []; rate = 0; holders = 0; rows = opened []; today = 0; period = 0; tally = 0 }

-- what is left where a call was let through, or refused
abbrev pub left_by : (ℕ → ℕ → ℕ) → ℕ → View → Call → Option Told → View
left_by count per v call None = ruled count per v call
left_by count per v call (Some refusal) = v

abbrev pub said_by : (ℕ → ℕ → ℕ) → ℕ → View → Call → Option Told → Result ℕ Told
said_by count per v call None = Ok (answered count per v call)
said_by count per v call (Some refusal) = Err refusal

abbrev pub stepped : (ℕ → ℕ → ℕ) → ℕ → View → Call → View
stepped count per v call = left_by count per v call (judge (seen_state v) call)

abbrev pub outcome : (ℕ → ℕ → ℕ) → ℕ → View → Call → Result ℕ Told
outcome count per v call = said_by count per v call (judge (seen_state v) call)

-- the register after a list of calls, and what each call answered
unfoldable pub run : (ℕ → ℕ → ℕ) → ℕ → View → List Call → View
run count per v [] = v
run count per v (call ∷ calls) = run count per (stepped count per v call) calls

unfoldable pub outcomes : (ℕ → ℕ → ℕ) → ℕ → View → List Call → List (Result ℕ Told)
outcomes count per v [] = []
outcomes count per v (call ∷ calls) = outcome count per v call ∷ outcomes count per (stepped count per v call) calls

abbrev pub seen_answer : Result ℕ Refusal → Result ℕ Told
seen_answer (Ok n) = Ok n
seen_answer (Err refusal) = Err (told refusal)

-- the law, after each call of a list: the register stands after the calls so far, with the two equations of interest, and
-- the next call is answered by the rules, and refused just as the journal of those calls refuses it
pub record LawOfInterest (count : ℕ → ℕ → ℕ) (per : ℕ) (calls : List Call) : Type 0 where
  pub after_each : (k : ℕ) → k ≤ length calls → After count per (take k calls) (run count per fresh_view (take k calls))
  pub answered_by_rule :
      (k : ℕ) → k < length calls →
      slice_index_or (outcomes count per fresh_view calls) k (Ok 0)
      ≡ outcome count per (run count per fresh_view (take k calls)) (slice_index_or calls k posting)
  pub refused_as_journal :
      (k : ℕ) → k < length calls →
      MatchResult (slice_index_or (outcomes count per fresh_view calls) k (Ok 0))
      (λ n. judge (state_of (journal (take k calls))) (slice_index_or calls k posting) ≡ None)
      (λ refusal. judge (state_of (journal (take k calls))) (slice_index_or calls k posting) ≡ Some refusal)
