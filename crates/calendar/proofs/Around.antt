-- An Easter rule closes Easter plus each offset, in each year.
-- Assumes nothing.
use Rattle.std.proofs.Common.{◌≡◌, ℕ, suc, ◌+◌, ◌-◌, ◌<◌, ◌≤◌, true, List, length, get_or, ℤ, pos, negsuc, ◌+ℤ◌, ◌-ℤ◌, sym, refl, ◌∙◌, arith}
use Rattle.std.proofs.ByRecursion.{All-get_or, Decides-by_and}
use Rattle.std.proofs.lemmas.List.{get_or_default}
use Rattle.std.proofs.lemmas.Int.{ints}
use Rattle.std.proofs.lemmas.Bool.{leb-true, ltb-true, or_right}
use Rattle.days.specs.Calendar.{last_day, year_of, year_span, first_year, last_year}
use Rattle.days.specs.Easter.{easter_of}
use Rattle.days.specs.Spans.{start_of}
use Rattle.days.proofs.Round.{lossless, year_is}
use Rattle.days.proofs.Spans.{start_mono}
use Rattle.days.proofs.Years.{years_end}
use Rattle.days.proofs.EasterTable.{easter_inside}
use Rattle.calendar.specs.Closed.{above_range}
use Rattle.calendar.specs.Kinds.{offset_listed, easter_closes, within_sixty, all_within_sixty, ClosesAroundEaster}
use Rattle.calendar.proofs.Members.{offset_decides, within_range}

-- Easter of a year of the range, between the start of its year and that of the next, with sixty days to spare
pub spare :
    (y : ℕ) → first_year ≤ y → y ≤ last_year →
    (start_of year_span (y - 1900) + 60 ≤ easter_of y) × (easter_of y + 60 < start_of year_span (suc (y - 1900)))
    × (easter_of y + 60 ≤ last_day)
spare y from to =
    let e : 1900 + (y - 1900) ≡ y = omega arith in
    let room : y - 1900 < 300 = omega arith in
    let r = easter_inside (y - 1900) room in
    let end = start_mono year_span (suc (y - 1900)) 300 room in
    let before = rw e at r.0 in
    let after = rw e at r.1 in
    (before, after, omega (arith, years_end))

near : (n e : ℕ) (z : ℤ) → within_sixty z ≡ true → pos n ≡ pos e +ℤ z → (n ≤ e + 60) × (e ≤ n + 60)
near n e (pos a) t is = let few = leb-true a 60 t in (omega (arith, ints), omega (arith, ints))
near n e (negsuc a) t is = let few = ltb-true a 60 t in (omega (arith, ints), omega (arith, ints))

each_within : (offsets : List ℤ) (i : ℕ) → i < length offsets → all_within_sixty offsets ≡ true → within_sixty (get_or offsets i (pos 0)) ≡ true
each_within offsets i less t =
    All-get_or (λ z. within_sixty z ≡ true) offsets i (pos 0) less
    ((Decides-by_and within_sixty (λ z. within_sixty z ≡ true) all_within_sixty (λ z. (λ e. e, λ e. e)) refl (λ _ _. refl) offsets).0 t)

pub around : (offsets : List ℤ) → all_within_sixty offsets ≡ true → ClosesAroundEaster (easter_closes offsets) offsets
around offsets few =
    record {
      each_year = λ y i n from to less is.
          let s = spare y from to in
          let reach = near n (easter_of y) (get_or offsets i (pos 0)) (each_within offsets i less few) is in
          let year : year_of n ≡ y =
          year_is n (y - 1900) (omega arith) (record { from = omega arith; to = omega arith }) ∙ omega arith
          in
          let there : pos n -ℤ pos (easter_of (year_of n)) ≡ get_or offsets i (pos 0) = rw year (omega (arith, ints)) in
          or_right (above_range n) _
          ((offset_decides offsets (pos n -ℤ pos (easter_of (year_of n)))).1
          (i, less, λ d. get_or_default offsets i d (pos 0) less ∙ sym there));
      nothing_else = λ n h closed.
          let date = lossless.each_number_has_a_date n h in
          let open_range = within_range (λ k. offset_listed offsets (pos k -ℤ pos (easter_of (year_of k)))) n h in
          let has = (offset_decides offsets (pos n -ℤ pos (easter_of (year_of n)))).0 (open_range ∙ closed) in
          let there = has.2 (pos 0) in
          (year_of n, has.0, date.month.year_from, date.month.year_to, has.1, omega (arith, ints));
    }
