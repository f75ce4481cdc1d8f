-- What is seen of a register's rows and dates.
-- Assumes nothing.
use Rattle.std.proofs.Common.{◌≡◌, ℕ, ◌<◌, ◌≤◌, false, leb, List, map, length, take, ◌∙◌, arith}
use lib.ListN.{length-map}
use Rattle.std.proofs.lemmas.List.{length-take-le}
use Rattle.std.proofs.lemmas.Bool.{leb-false}
use Rattle.register.specs.declared.row.Row.{Row}

abbrev pub held : ℕ → List Row → List ℕ
held holders rows = map (λ r. r.holding) (take holders rows)

pub held_long : (holders : ℕ) (rows : List Row) → holders ≤ length rows → length (held holders rows) ≡ holders
held_long holders rows h = length-map (take holders rows) (λ r. r.holding) ∙ length-take-le holders rows h

pub known_below : (holders : ℕ) (rows : List Row) (i : ℕ) → holders ≤ length rows → leb (length (held holders rows)) i ≡ false → i < holders
known_below holders rows i h f = omega (arith, leb-false _ _ f, held_long holders rows h)
