-- A loop that changes each row in turn.
-- Assumes nothing.
use Rattle.std.proofs.Common.{◌≡◌, ℕ, ◌+◌, ◌-◌, ◌*◌, ◌/◌, ◌%◌, ◌^◌, ◌<◌, ◌≤◌, List, ◌++◌, map, length, get_or, take, drop, set, refl, ◌∙◌, mul-le-mul_left, arith}
use lib.ListN.{length-map}
use Rattle.std.proofs.lemmas.List.{get_or-append_right, get_or-drop, length-take-le, length-append, length-drop, get_or_default}
use Rattle.std.proofs.lemmas.List.Edits.{map_over_more}
use Rattle.std.proofs.lemmas.List.Sums.{get_or-le-sum_by, sum_by_more, sum_by-take-le, sum_by-le-sum_by}
use Rattle.std.proofs.lemmas.Nat.{div-add-mod'}
use Rattle.register.specs.declared.row.Row.{Row}
use Rattle.register.specs.Rows.{zero_row, worth, total_ticks, total_worth, total_units}

-- the rows after i turns, of which each changed one
abbrev pub swept : (Row → Row) → List Row → ℕ → List Row
swept f rows i = map f (take i rows) ++ drop i rows

pub unswept : (f : Row → Row) (rows : List Row) (i : ℕ) → i < length rows → get_or (swept f rows i) i zero_row ≡ get_or rows i zero_row
unswept f rows i less =
    let front : length (map f (take i rows)) ≡ i = length-map (take i rows) f ∙ length-take-le i rows (omega arith) in
    let same : i - i ≡ 0 = omega arith in
    let back : i + 0 ≡ i = omega arith in
    get_or-append_right (map f (take i rows)) (drop i rows) i i zero_row front (omega arith) ∙ rw same (get_or-drop i rows 0 zero_row ∙ rw back refl)

pub swept_longer : (f : Row → Row) (rows : List Row) (i : ℕ) → i < length rows → i < length (swept f rows i)
swept_longer f rows i less =
    simp (length-append, length-map, length-drop) (omega (arith, length-take-le i rows (omega arith)))

-- what is read in turn i is the row as it was
pub read_unswept :
    (f : Row → Row) (rows now : List Row) (i : ℕ) → i < length rows → now ≡ swept f rows i →
    get_or now i zero_row ≡ get_or rows i zero_row
read_unswept f rows now i less e = rw e (unswept f rows i less)

-- and one turn later the next row is changed too
pub sweep_more :
    (f : Row → Row) (rows now : List Row) (i : ℕ) (last : Row) → i < length rows → now ≡ swept f rows i →
    last ≡ f (get_or now i zero_row) → set now i last ≡ swept f rows (i + 1)
sweep_more f rows now i last less e is =
    rw is
    (map_over_more f rows now i (get_or now i zero_row) less e (get_or_default now i zero_row (get_or now i zero_row) (rw e (swept_longer f rows i less))))

-- whole units of v ticks, in ticks
pub units_below : (t v : ℕ) → 100000 ≤ v → (t / v * 100000 + t % v ≤ t) × (t / v ≤ t)
units_below t v h =
    let split = div-add-mod' t v in
    let times = mul-le-mul_left (t / v) h in
    (omega arith, omega arith)

pub post_fits :
    (rows : List Row) (i v : ℕ) → i < length rows → 100000 ≤ v → total_worth 100000 rows < 2 ^ 80 →
    (0 < v) × ((get_or rows i zero_row).due + (get_or rows i zero_row).ticks / v < 2 ^ 64)
post_fits rows i v less h room =
    let w = get_or-le-sum_by (worth 100000) rows i zero_row less in
    let u = units_below (get_or rows i zero_row).ticks v h in
    (omega arith, omega arith)

pub units_fit :
    (rows : List Row) (i v units more : ℕ) → i < length rows → 100000 ≤ v → total_ticks rows < 2 ^ 64 →
    units ≡ total_units v (take i rows) → more ≡ (get_or rows i zero_row).ticks / v →
    (units + more ≡ total_units v (take (i + 1) rows)) × (units + more < 2 ^ 64)
units_fit rows i v units more less h room e f =
    let next = sum_by_more (λ r. r.ticks / v) rows i zero_row less in
    let part = sum_by-take-le (λ r. r.ticks / v) rows (i + 1) in
    let all = sum_by-le-sum_by (λ r. r.ticks / v) (λ r. r.ticks) rows (λ r. (units_below r.ticks v h).1) in
    (omega arith, omega arith)
