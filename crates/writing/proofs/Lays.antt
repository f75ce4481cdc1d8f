-- Lines laid one after the other.
-- Assumes nothing.
use Rattle.std.proofs.Common.{◌≡◌, ℕ, suc, ◌+◌, ◌-◌, ◌<◌, ◌≤◌, min, List, [], ◌∷◌, ◌++◌, length, take, drop, Ok, Err, Result, sym, refl, ap, ◌∙◌, ⊎_elim, append-nil, arith, length-append, length-drop, length-take}
use lib.Seq.{paste}
use Rattle.std.proofs.lemmas.List.{take-append-drop, drop-drop, nil_from_length}
use Rattle.std.proofs.lemmas.List.Edits.{paste-paste, paste_all}
use Rattle.std.proofs.lemmas.Bool.{cases_lt}
use Rattle.writing.specs.declared.laying.Full.{Full}
use Rattle.writing.specs.Laying.{joined, fitting, with_bytes, fits_at, Laid}
use Rattle.writing.proofs.Fitting.{fitting_nil, fitting_more, fitting_stops, fitting_fits, fitting_after, fitting_cut, joined_append}

-- no bytes change nothing
pub with_none : (buffer : List ℕ) (at : ℕ) → with_bytes buffer at [] ≡ buffer
with_none buffer at =
    let same : at + 0 ≡ at = omega arith in
    ap (λ n. take at buffer ++ drop n buffer) same ∙ take-append-drop at buffer

pub with_length :
    (buffer : List ℕ) (at : ℕ) (bytes : List ℕ) → length bytes ≤ length buffer - at →
    length (with_bytes buffer at bytes) ≡ length buffer
with_length buffer at bytes fits =
    simp (length-append, length-take, length-drop) (omega arith)

-- bytes, and more bytes behind them
pub with_more :
    (buffer : List ℕ) (at : ℕ) (xs ys : List ℕ) → length ys ≤ length buffer - (at + length xs) →
    with_bytes (with_bytes buffer at xs) (at + length xs) ys ≡ with_bytes buffer at (xs ++ ys)
with_more buffer at xs ys fits =
    let place = at + length xs in
    let pasted = λ (d : List ℕ). λ (n : ℕ). λ (s : List ℕ). sym (paste_all d n s (length s) refl) in
    ⊎_elim
    (λ (inside : at < suc (length buffer)).
    let whole = length-append xs ys in
    pasted (with_bytes buffer at xs) place ys ∙ ap (λ t. paste t place ys (length ys)) (pasted buffer at xs)
    ∙ paste-paste buffer at xs ys (length xs) (length ys) refl refl (omega arith)
    ∙ paste_all buffer at (xs ++ ys) (length xs + length ys) (sym whole)
    ∙ ap (λ n. take at buffer ++ ((xs ++ ys) ++ drop (at + n) buffer)) (sym whole))
    (λ (past : suc (length buffer) ≤ at).
    let none = nil_from_length ys (omega arith) in
    ap (with_bytes (with_bytes buffer at xs) place) none ∙ with_none (with_bytes buffer at xs) place
    ∙ ap (with_bytes buffer at) (sym (append-nil xs) ∙ ap (λ t. xs ++ t) (sym none)))
    (cases_lt at (suc (length buffer)))

-- a text at a place, or at the end of the buffer where the place lies behind it
pub placed :
    (buffer text : List ℕ) (at start : ℕ) → start ≡ min at (length buffer) → length text ≤ length buffer - start →
    take start buffer ++ (text ++ drop (length text) (drop start buffer)) ≡ with_bytes buffer at text
placed buffer text at start is fits =
    ap (λ t. take start buffer ++ (text ++ t)) (drop-drop (length text) start buffer)
    ∙ ⊎_elim
    (λ (inside : at < suc (length buffer)).
    let same : start ≡ at = omega arith in ap (λ n. take n buffer ++ (text ++ drop (n + length text) buffer)) same)
    (λ (past : suc (length buffer) ≤ at).
    let none = nil_from_length text (omega arith) in
    ap (with_bytes buffer start) none ∙ with_none buffer start ∙ sym (with_none buffer at)
    ∙ ap (with_bytes buffer at) (sym none))
    (cases_lt at (suc (length buffer)))

-- a line that fits, and one that does not
pub laid_line :
    (text buffer after : List ℕ) (at end : ℕ) → length text ≤ length buffer - at → after ≡ with_bytes buffer at text →
    end ≡ at + length text → Laid (text ∷ []) buffer at (Ok end) after
laid_line text buffer after at end fits is end_is =
    let all =
    fitting_more (length buffer - at) text [] fits ∙ ap (λ t. text ∷ t) (fitting_nil (length buffer - at - length text))
    in
    let bytes = append-nil text in (
      is ∙ ap (with_bytes buffer at) (sym bytes) ∙ ap (λ l. with_bytes buffer at (joined l)) (sym all),
      (all, omega (arith, ap length bytes)),
    )

pub laid_too_long :
    (text buffer after : List ℕ) (at : ℕ) (full : Full) → length buffer - at < length text → after ≡ buffer →
    full.written ≡ at → Laid (text ∷ []) buffer at (Err full) after
laid_too_long text buffer after at full long same is =
    let none = fitting_stops (length buffer - at) text [] long in (
      same ∙ sym (with_none buffer at) ∙ ap (λ l. with_bytes buffer at (joined l)) (sym none),
      (omega (arith, ap length none), omega (arith, ap (λ l. length (joined l)) none)),
    )

pub laid_none : (buffer : List ℕ) (at : ℕ) → Laid [] buffer at (Ok at) buffer
laid_none buffer at =
    let none = fitting_nil (length buffer - at) in
    (sym (with_none buffer at) ∙ ap (λ l. with_bytes buffer at (joined l)) (sym none), (none, omega arith))

-- a buffer keeps its length
pub laid_length :
    (lines : List (List ℕ)) (buffer : List ℕ) (at : ℕ) (r : Result ℕ Full) (after : List ℕ) → Laid lines buffer at r after →
    length after ≡ length buffer
laid_length lines buffer at r after laid =
    ap length laid.0
    ∙ with_length buffer at (joined (fits_at buffer at lines)) (fitting_fits (length buffer - at) lines)

-- the end lies behind the place, and inside the buffer
pub laid_end :
    (lines : List (List ℕ)) (buffer : List ℕ) (at end : ℕ) (after : List ℕ) → at ≤ length buffer →
    Laid lines buffer at (Ok end) after → (at ≤ end) × (end ≤ length buffer)
laid_end lines buffer at end after inside laid =
    let fits = fitting_fits (length buffer - at) lines in
    let all = ap (λ l. length (joined l)) laid.1.0 in
    let is = laid.1.1 in
    (omega arith, omega arith)

pub laid_full :
    (lines : List (List ℕ)) (buffer : List ℕ) (at : ℕ) (full : Full) (after : List ℕ) → at ≤ length buffer →
    Laid lines buffer at (Err full) after → (at ≤ full.written) × (full.written ≤ length buffer)
laid_full lines buffer at full after inside laid =
    let fits = fitting_fits (length buffer - at) lines in
    let is = laid.1.1 in
    (omega arith, omega arith)

-- which lines fit behind lines that all fit
more_fit :
    (xs ys : List (List ℕ)) (buffer after : List ℕ) (at mid : ℕ) → Laid xs buffer at (Ok mid) after →
    fits_at buffer at (xs ++ ys) ≡ xs ++ fits_at after mid ys
more_fit xs ys buffer after at mid first =
    let same = laid_length xs buffer at (Ok mid) after first in
    let is = first.1.1 in
    let room : length buffer - at - length (joined xs) ≡ length after - mid = omega arith in
    fitting_after (length buffer - at) xs ys first.1.0 ∙ ap (λ n. xs ++ fitting n ys) room

-- the bytes of both
more_bytes :
    (xs ys : List (List ℕ)) (buffer after final : List ℕ) (at mid : ℕ) → Laid xs buffer at (Ok mid) after →
    final ≡ with_bytes after mid (joined (fits_at after mid ys)) →
    final ≡ with_bytes buffer at (joined (fits_at buffer at (xs ++ ys)))
more_bytes xs ys buffer after final at mid first second =
    let front = fits_at after mid ys in
    let same = laid_length xs buffer at (Ok mid) after first in
    let mid_is = first.1.1 in
    let after_is = first.0 ∙ ap (λ l. with_bytes buffer at (joined l)) first.1.0 in
    let fits : length (joined front) ≤ length buffer - (at + length (joined xs)) =
    omega (arith, fitting_fits (length after - mid) ys)
    in
    second ∙ ap (λ n. with_bytes after n (joined front)) mid_is
    ∙ ap (λ t. with_bytes t (at + length (joined xs)) (joined front)) after_is
    ∙ with_more buffer at (joined xs) (joined front) fits
    ∙ ap (with_bytes buffer at) (sym (joined_append xs front) ∙ ap joined (sym (more_fit xs ys buffer after at mid first)))

-- the length of both
more_long : (xs ys : List (List ℕ)) → length (joined (xs ++ ys)) ≡ length (joined xs) + length (joined ys)
more_long xs ys = ap length (joined_append xs ys) ∙ length-append (joined xs) (joined ys)

-- lines behind lines that were accepted
pub laid_more :
    (xs ys : List (List ℕ)) (buffer : List ℕ) (at mid : ℕ) (after : List ℕ) (r : Result ℕ Full) (final : List ℕ) →
    Laid xs buffer at (Ok mid) after → Laid ys after mid r final → Laid (xs ++ ys) buffer at r final
laid_more xs ys buffer at mid after (Ok end) final first second =
    let is = first.1.1 in
    let end_is = second.1.1 in (
      more_bytes xs ys buffer after final at mid first second.0,
      (
        more_fit xs ys buffer after at mid first ∙ ap (λ l. xs ++ l) second.1.0,
        omega (arith, more_long xs ys),
      ),
    )
laid_more xs ys buffer at mid after (Err full) final first second =
    let is = first.1.1 in
    let fewer = second.1.0 in
    let end_is = second.1.1 in
    let fit = more_fit xs ys buffer after at mid first in
    let front = fits_at after mid ys in (
      more_bytes xs ys buffer after final at mid first second.0,
      (
        omega (arith, ap length fit, length-append xs front, length-append xs ys),
        omega (arith, ap (λ l. length (joined l)) fit, more_long xs front),
      ),
    )

-- lines behind lines of which one was refused
pub laid_stops :
    (xs ys : List (List ℕ)) (buffer : List ℕ) (at : ℕ) (full : Full) (after : List ℕ) → Laid xs buffer at (Err full) after →
    Laid (xs ++ ys) buffer at (Err full) after
laid_stops xs ys buffer at full after laid =
    let fewer = laid.1.0 in
    let is = laid.1.1 in
    let cut = fitting_cut (length buffer - at) xs ys fewer in (
      laid.0 ∙ ap (λ l. with_bytes buffer at (joined l)) (sym cut),
      (
        omega (arith, ap length cut, length-append xs ys),
        omega (arith, ap (λ l. length (joined l)) cut),
      ),
    )
