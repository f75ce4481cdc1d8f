-- Good lines give a calendar that the closed-day sets take.
-- Assumes nothing.
use Rattle.std.proofs.Common.{◌≡◌, ℕ, ◌+◌, ◌<◌, ◌≤◌, true, List, [], ◌∷◌, length, get_or, ℤ, refl, arith}
use lib.Count.{ones, ones_in}
use Rattle.std.proofs.lemmas.Bool.{and_from}
use Rattle.calendar.specs.Kinds.{within_sixty, all_within_sixty}
use Rattle.text.specs.declared.line.Line.{Line}
use Rattle.text.specs.declared.line.Line.TheVariants as line
use Rattle.text.specs.Laws.{GoodLines, WellFormed}
use Rattle.text.specs.Marks.{start}
use Rattle.text.proofs.CalendarRoom.{few_calendar_lines}
use Rattle.text.proofs.RoleCounts.{EachFormed, each_formed}
use Rattle.report.specs.Parts.{Part, closed_weekdays, closed_day, closed_by_easter, a_deal, a_holding, a_call, part, pattern_in, offset_in, put_first, gathered, mask_of, days_of, offsets_of}
use Rattle.report.proofs.GoodParts.{patterns_found, days_found, offsets_found}

-- no pattern closes the whole week
abbrev IsMask : ℕ → Type 0
IsMask mask = (mask < 128) × (ones mask ≤ 6)

abbrev AllMasks : List ℕ → Type 0
AllMasks [] = Unit {0}
AllMasks (mask ∷ masks) = IsMask mask × AllMasks masks

-- what a part says to the calendar is in range
abbrev PartInRange : Part → Type 0
PartInRange (closed_weekdays mask) = IsMask mask
PartInRange (closed_day day) = Unit {0}
PartInRange (closed_by_easter offset) = within_sixty offset ≡ true
PartInRange (a_deal terms) = Unit {0}
PartInRange (a_holding amount) = Unit {0}
PartInRange (a_call call) = Unit {0}

part_in_range : (n : ℕ) (l : Line) → WellFormed n l → PartInRange (part l)
part_in_range n line.Posting formed = tt
part_in_range n (line.Pattern mask) formed = formed.0
part_in_range n (line.ClosedDay day) formed = tt
part_in_range n (line.Offset offset) formed = formed.0
part_in_range n (line.Deal terms) formed = tt
part_in_range n (line.Holding amount) formed = tt
part_in_range n (line.Advance day) formed = tt
part_in_range n (line.Transfer from to amount) formed = tt
part_in_range n (line.Redemption holder amount) formed = tt
part_in_range n (line.Payment holder) formed = tt

abbrev AllInRange : List ℕ → List ℤ → Type 0
AllInRange masks offsets = AllMasks masks × (all_within_sixty offsets ≡ true)

in_range_more :
    (it : Part) (masks : List ℕ) (offsets : List ℤ) → PartInRange it → AllInRange masks offsets →
    AllInRange (put_first (pattern_in it) masks) (put_first (offset_in it) offsets)
in_range_more (closed_weekdays mask) masks offsets here later = ((here, later.0), later.1)
in_range_more (closed_day day) masks offsets here later = later
in_range_more (closed_by_easter offset) masks offsets here later =
    (later.0, and_from (within_sixty offset) (all_within_sixty offsets) here later.1)
in_range_more (a_deal terms) masks offsets here later = later
in_range_more (a_holding amount) masks offsets here later = later
in_range_more (a_call call) masks offsets here later = later

in_range : (lines : List Line) (n : ℕ) → EachFormed n lines → AllInRange (gathered pattern_in lines) (offsets_of lines)
in_range [] n formed = (tt, refl)
in_range (l ∷ ls) n (here, later) = in_range_more (part l) _ _ (part_in_range n l here) (in_range ls (n + 1) later)

-- without a pattern the mask is 0
first_mask : (masks : List ℕ) → AllMasks masks → IsMask (get_or masks 0 0)
unfolding ones ones_in
first_mask [] all = (omega arith, omega arith)
first_mask (mask ∷ masks) all = all.0

pub record GoodCalendar (lines : List Line) : Type 0 where
  pub mask_small : mask_of lines < 128
  pub mask_opens : ones (mask_of lines) ≤ 6
  pub patterns_few : length (gathered pattern_in lines) ≤ 1
  pub days_few : length (days_of lines) ≤ 512
  pub offsets_near : all_within_sixty (offsets_of lines) ≡ true
  pub offsets_few : length (offsets_of lines) ≤ 8

pub good_calendar : (lines : List Line) → GoodLines start 1 lines → GoodCalendar lines
good_calendar lines good =
    let few = few_calendar_lines lines good in
    let values = in_range lines 1 (each_formed lines good) in
    let mask = first_mask (gathered pattern_in lines) values.0 in
    record {
      mask_small = mask.0;
      mask_opens = mask.1;
      patterns_few = omega (arith, few.patterns, patterns_found lines);
      days_few = omega (arith, few.closed_days, days_found lines);
      offsets_near = values.1;
      offsets_few = omega (arith, few.offsets, offsets_found lines);
    }
