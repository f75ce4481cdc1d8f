use Rattle.std.proofs.Common.{◌≡◌, ℕ, Some, Option, MatchOption}
use Rattle.schedules.specs.Dates.{month_days, on_day}
use Rattle.schedules.proofs.months.on_day.Goals as goal

found : (o : Option ℕ) (x : ℕ) (P : Type 0) (Q : ℕ → Type 0) → o ≡ Some x → MatchOption o P Q → Q x
found o x P Q e c = rw e at c

pub returns : goal.returns
unfolding month_days on_day
returns c =
    let length =
    (found c.days_in_month.result c.unwrap-length.result _ _ c.unwrap-length.ensures c.days_in_month.ensures).1
    in
    let number =
    (found c.number.result c.unwrap.result _ _ c.unwrap.ensures (rw c.new.ensures at c.number.ensures.value)).1
    in
    let cut = c.min.ensures in
    rw (← length, ← cut) number
