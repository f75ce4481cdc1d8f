-- How far a text is read, line by line.
-- Assumes nothing.
use Rattle.std.proofs.Common.{◌≡◌, ℕ, ◌+◌, ◌<◌, ◌≤◌, List, [], ◌∷◌, ◌++◌, length, take, drop, set, Ok, Err, Result, sym, refl, ap, ◌∙◌, arith, length-set, length-append}
use Rattle.std.proofs.lemmas.List.{nil_from_length, append-nil, append_assoc, length-take-le, take-append-drop, take_more_set, drop-set-lt, drop-drop}
use Rattle.std.proofs.lemmas.Bool.{le-ltb}
use Rattle.days.specs.declared.refusal.Refusal.TheVariants.{LineNotEnded}
use Rattle.text.specs.declared.fault.Fault.{Fault}
use Rattle.text.specs.declared.line.Line.{Line}
use Rattle.text.specs.declared.standing.Standing.{Standing}
use Rattle.text.specs.Counts.{Upto}
use Rattle.text.specs.Cuts.{Without, Splits, Cut, cut_lines, line_end}
use Rattle.text.specs.Fields.{fault, and_then}
use Rattle.text.specs.Lines.{line_of, mark_from}
use Rattle.text.specs.Marks.{start, next}
use Rattle.text.specs.Meaning.{longest_text, all_ended, read_lines, meaning}
use Rattle.text.specs.Reading.{line_count, front_lines, front, headed, AllRead, FrontRead}
use Rattle.text.proofs.CountsUp.{upto_next}
use Rattle.text.proofs.LineCuts.{cut_first, cut_none}

-- what the lines of a cut text mean from a number on
abbrev meant : Standing → ℕ → Cut → Result (List Line) Fault
meant standing n cut = read_lines standing n cut.whole cut.left

-- a text that begins with a line
abbrev with_line : List ℕ → Cut → Cut
with_line line rest = record { whole = line ∷ rest.whole; left = rest.left }

-- behind lines that are read already
abbrev behind_these : List Line → Result (List Line) Fault → Result (List Line) Fault
behind_these lines r = and_then r (λ more. Ok (lines ++ more))

-- the first `count` lines are in the table, and the rest of the text is left
pub record Progress (text : List ℕ) (table : List Line) (standing : Standing) (count : ℕ) (rest : List ℕ) (lines : List Line) : Type 0 where
  pub fewer : count + length rest ≤ length text
  pub counted : Upto count standing
  pub room : count + line_count rest ≤ length lines
  pub behind : drop count lines ≡ drop count table
  pub fronts : front text ≡ take count lines ++ front_lines standing (count + 1) (cut_lines rest).whole
  pub means :
      meant start 1 (cut_lines text) ≡ behind_these (take count lines) (meant standing (count + 1) (cut_lines rest))

behind_more :
    (head : List Line) (line : Line) (r : Result (List Line) Fault) →
    behind_these head (and_then r (λ lines. Ok (line ∷ lines))) ≡ behind_these (head ++ line ∷ []) r
behind_more head line (Ok lines) = ap Ok (sym (append_assoc head (line ∷ []) lines))
behind_more head line (Err why) = refl

pub short_meaning : (text : List ℕ) → length text ≤ longest_text → meaning text ≡ meant start 1 (cut_lines text)
unfolding meaning
short_meaning text short = rw (le-ltb longest_text (length text) short) refl

-- the table where the reading stops
headed_by :
    (n : ℕ) (lines table head : List Line) → n ≤ length lines → drop n lines ≡ drop n table → head ≡ take n lines ++ [] →
    lines ≡ headed head table
headed_by n lines table head within behind e =
    let head_is : head ≡ take n lines = e ∙ append-nil (take n lines) in
    let long : length head ≡ n = ap length head_is ∙ length-take-le n lines within in
    sym (take-append-drop n lines) ∙ rw (long, ← behind, head_is) refl

not_ended : (n : ℕ) (rest : List ℕ) → (length rest ≡ 0 → ⊥) → all_ended n rest ≡ Err (fault LineNotEnded n 1)
not_ended n [] some = absurd (some refl)
not_ended n (b ∷ bs) some = refl

module _
    (text : List ℕ)
    (table : List Line)
    (standing : Standing)
    (count : ℕ)
    (rest : List ℕ)
    (lines : List Line)
    (p : Progress text table standing count rest lines)
  where
    -- nothing more is read, and the rest has a fault
    stopped :
        (why : Fault) → length text ≤ longest_text → meant standing (count + 1) (cut_lines rest) ≡ Err why →
        front_lines standing (count + 1) (cut_lines rest).whole ≡ [] → FrontRead text table why lines
    stopped why short faulty none =
        let room = p.room in
        record {
          fault_is = short_meaning text short ∙ p.means ∙ rw faulty refl;
          lines = headed_by count lines table (front text) (omega arith) p.behind (p.fronts ∙ rw none refl);
        }

    pub unended :
        length text ≤ longest_text → Without line_end rest → (length rest ≡ 0 → ⊥) →
        FrontRead text table (fault LineNotEnded (count + 1) 1) lines
    unfolding read_lines front_lines
    unended short clean some =
        stopped (fault LineNotEnded (count + 1) 1) short (rw (cut_none rest clean) (not_ended (count + 1) rest some))
        (rw (cut_none rest clean) refl)

    -- all is read
    pub finished : length text ≤ longest_text → length rest ≡ 0 → AllRead text table count lines
    unfolding cut_lines read_lines
    finished short end =
        let room = p.room in
        record {
          lines = short_meaning text short ∙ p.means ∙ rw (nil_from_length rest end) (ap Ok (append-nil (take count lines)));
          within = omega arith;
          behind = p.behind;
        }

    -- a line, and what is left behind its byte 10
    module _ (bytes later : List ℕ) (split : Splits line_end rest bytes later) where
      cut_here : cut_lines rest ≡ with_line bytes (cut_lines later)
      cut_here = ap cut_lines split.joins ∙ cut_first bytes later split.clean

      pub faulted :
          (why : Fault) → length text ≤ longest_text → Err why ≡ line_of standing (count + 1) bytes →
          FrontRead text table why lines
      unfolding read_lines front_lines
      faulted why short e = stopped why short (rw (cut_here, ← e) refl) (rw (cut_here, ← e) refl)

      pub shorter : length bytes + 1 + length later ≡ length rest
      shorter = omega (arith, ap length split.joins, length-append bytes (line_end ∷ later))

      pub place_left : count < length lines
      place_left = let room = p.room in omega (arith, ap (λ (cut : Cut). length cut.whole) cut_here)

      pub stepped :
          (line : Line) (onward : Standing) → Ok line ≡ line_of standing (count + 1) bytes →
          onward ≡ next standing (mark_from line) → Progress text table onward (count + 1) later (set lines count line)
      unfolding read_lines front_lines
      stepped line onward e on =
          let fewer = p.fewer in
          let room = p.room in
          let cut = cut_lines later in
          let now_in : take (count + 1) (set lines count line) ≡ take count lines ++ line ∷ [] =
          take_more_set lines count line place_left
          in
          record {
            fewer = omega (arith, shorter);
            counted = rw on (upto_next count standing (mark_from line) p.counted);
            room = simp length-set (omega (arith, ap (λ (cut : Cut). length cut.whole) cut_here));
            behind =
                drop-set-lt (count + 1) lines count line (omega arith) ∙ sym (drop-drop 1 count lines) ∙ ap (drop 1) p.behind
                ∙ drop-drop 1 count table;
            fronts =
                p.fronts
                ∙ rw (cut_here, ← e, now_in, on)
                (sym (append_assoc (take count lines) (line ∷ []) (front_lines (next standing (mark_from line)) (count + 1 + 1) cut.whole)));
            means =
                p.means
                ∙ rw (cut_here, ← e, now_in, on)
                (behind_more (take count lines) line (meant (next standing (mark_from line)) (count + 1 + 1) cut));
          }
