-- The rows of a register: what one call does to one of them.
-- Assumes nothing.
use Rattle.std.specs.Prelude.{ℕ, ◌+◌, ◌-◌, ◌*◌, ◌/◌, ◌%◌, List, ◌++◌, map, length, replicate, sum_by, slice_index_or, slice_set}
use Rattle.register.specs.declared.row.Row.{Row}

-- ticks for a holding over a counted stretch of n days
abbrev pub accrued : ℕ → ℕ → Row → Row
accrued rate n r =
    record { holding = r.holding; paid = r.paid; due = r.due; ticks = r.ticks + r.holding * rate * n }

-- whole units of v ticks become due, and the rest stays
abbrev pub posted : ℕ → Row → Row
posted v r =
    record { holding = r.holding; paid = r.paid; due = r.due + r.ticks / v; ticks = r.ticks % v }

-- what is due is paid
abbrev pub settled : Row → Row
settled r = record { holding = r.holding; paid = r.paid + r.due; due = 0; ticks = r.ticks }

abbrev pub gained : ℕ → Row → Row
gained amount r = record { holding = r.holding + amount; paid = r.paid; due = r.due; ticks = r.ticks }

abbrev pub lost : ℕ → Row → Row
lost amount r = record { holding = r.holding - amount; paid = r.paid; due = r.due; ticks = r.ticks }

-- a row's interest in ticks, where v ticks are one unit of money
abbrev pub worth : ℕ → Row → ℕ
worth v r = (r.paid + r.due) * v + r.ticks

abbrev pub total_holding : List Row → ℕ
total_holding rows = sum_by (λ r. r.holding) rows

abbrev pub total_ticks : List Row → ℕ
total_ticks rows = sum_by (λ r. r.ticks) rows

abbrev pub total_worth : ℕ → List Row → ℕ
total_worth v rows = sum_by (worth v) rows

-- the units that a posting makes due
abbrev pub total_units : ℕ → List Row → ℕ
total_units v rows = sum_by (λ r. r.ticks / v) rows

abbrev pub zero_row : Row
zero_row = record { holding = 0; paid = 0; due = 0; ticks = 0 }

-- what a call does to the rows, where it names some of them
abbrev pub at : List Row → ℕ → Row
at rows i = slice_index_or rows i zero_row

abbrev pub redeemed : ℕ → ℕ → List Row → List Row
redeemed i amount rows = slice_set rows i (lost amount (at rows i))

abbrev pub moved : ℕ → ℕ → ℕ → List Row → List Row
moved from to amount rows =
    let rest = redeemed from amount rows in slice_set rest to (gained amount (at rest to))

abbrev pub paid_out : ℕ → List Row → List Row
paid_out i rows = slice_set rows i (settled (at rows i))

-- the rows of an opening: one for each holding, and sixteen in all
abbrev pub opened_row : ℕ → Row
opened_row holding = record { holding = holding; paid = 0; due = 0; ticks = 0 }

abbrev pub opened : List ℕ → List Row
opened holdings = map opened_row holdings ++ replicate (16 - length holdings) zero_row
