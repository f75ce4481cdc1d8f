-- A schedule that was made lies within its table.
-- Assumes nothing.
use Rattle.std.proofs.Common.{ℕ, ◌≤◌, List, length, drop, IfOk, Ok, Err, Result, arith}
use Rattle.std.proofs.lemmas.List.{length-append}
use Rattle.days.specs.Refusals.{Told}
use Rattle.days.specs.declared.refusal.Refusal.{Refusal}
use Rattle.schedules.specs.Schedule.{Answers}

pub within :
    (made : Result (List ℕ) Told) (table after : List ℕ) (r : Result ℕ Refusal) → Answers made table r after →
    IfOk r (λ count. count ≤ length after)
within (Ok days) table after (Ok n) (counted, written) =
    rw written (omega (arith, counted, length-append days (drop (length days) table)))
within (Ok days) table after (Err e) h = tt
within (Err why) table after (Ok n) h = absurd h
within (Err why) table after (Err e) h = tt
