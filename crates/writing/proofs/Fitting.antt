-- The lines that fit into a room.
-- Assumes nothing.
use Rattle.std.proofs.Common.{◌≡◌, ℕ, suc, ◌+◌, ◌-◌, ◌<◌, ◌≤◌, leb, List, [], ◌∷◌, ◌++◌, length, take, sym, refl, ap, ◌∙◌, inl, inr, ⊎_elim, append_assoc, add-one, arith, length-append}
use Rattle.std.proofs.lemmas.Bool.{cases_lt, le-leb, lt-leb, cond-true, cond-false}
use Rattle.writing.specs.Laying.{joined, fitting, LongestFront}

pub fitting_more :
    (room : ℕ) (line : List ℕ) (lines : List (List ℕ)) → length line ≤ room →
    fitting room (line ∷ lines) ≡ line ∷ fitting (room - length line) lines
unfolding fitting
fitting_more room line lines h =
    cond-true (leb (length line) room) (line ∷ fitting (room - length line) lines) [] (le-leb (length line) room h)

pub fitting_stops :
    (room : ℕ) (line : List ℕ) (lines : List (List ℕ)) → room < length line → fitting room (line ∷ lines) ≡ []
unfolding fitting
fitting_stops room line lines h =
    cond-false (leb (length line) room) (line ∷ fitting (room - length line) lines) [] (lt-leb (length line) room h)

pub fitting_nil : (room : ℕ) → fitting room [] ≡ []
unfolding fitting
fitting_nil room = refl

pub joined_append : (xs ys : List (List ℕ)) → joined (xs ++ ys) ≡ joined xs ++ joined ys
joined_append [] ys = refl
joined_append (line ∷ xs) ys = ap (λ t. line ++ t) (joined_append xs ys) ∙ sym (append_assoc line (joined xs) (joined ys))

-- what fits is no longer than the room
pub fitting_fits : (room : ℕ) (lines : List (List ℕ)) → length (joined (fitting room lines)) ≤ room
fitting_fits room [] = rw (fitting_nil room) (omega arith)
fitting_fits room (line ∷ lines) =
    ⊎_elim
    (λ (short : length line < suc room).
    let rest = fitting_fits (room - length line) lines in
    rw (fitting_more room line lines (omega arith), length-append) (omega arith))
    (λ (long : suc room ≤ length line). rw (fitting_stops room line lines (omega arith)) (omega arith))
    (cases_lt (length line) (suc room))

-- where all of the first lines fit, the others fit into what they leave
pub fitting_after :
    (room : ℕ) (xs ys : List (List ℕ)) → fitting room xs ≡ xs →
    fitting room (xs ++ ys) ≡ xs ++ fitting (room - length (joined xs)) ys
fitting_after room [] ys all = ap (λ n. fitting n ys) (omega arith)
fitting_after room (line ∷ xs) ys all =
    ⊎_elim
    (λ (short : length line < suc room).
    let rest : line ∷ fitting (room - length line) xs ≡ line ∷ xs = sym (fitting_more room line xs (omega arith)) ∙ all in
    let tail : fitting (room - length line) xs ≡ xs = cc in
    let left : room - length line - length (joined xs) ≡ room - length (line ++ joined xs) =
    omega (arith, length-append line (joined xs))
    in
    fitting_more room line (xs ++ ys) (omega arith) ∙ ap (λ t. line ∷ t) (fitting_after (room - length line) xs ys tail)
    ∙ ap (λ n. line ∷ (xs ++ fitting n ys)) left)
    (λ (long : suc room ≤ length line).
    let none = ap length (sym (fitting_stops room line xs (omega arith)) ∙ all) in absurd (omega arith))
    (cases_lt (length line) (suc room))

-- where a first line does not fit, those behind it change nothing
pub fitting_cut :
    (room : ℕ) (xs ys : List (List ℕ)) → length (fitting room xs) < length xs → fitting room (xs ++ ys) ≡ fitting room xs
fitting_cut room [] ys less = absurd (omega arith)
fitting_cut room (line ∷ xs) ys less =
    ⊎_elim
    (λ (short : length line < suc room).
    let first = fitting_more room line xs (omega arith) in
    let fewer : length (fitting (room - length line) xs) < length xs = omega (arith, ap length first) in
    fitting_more room line (xs ++ ys) (omega arith) ∙ ap (λ t. line ∷ t) (fitting_cut (room - length line) xs ys fewer)
    ∙ sym first)
    (λ (long : suc room ≤ length line).
    fitting_stops room line (xs ++ ys) (omega arith) ∙ sym (fitting_stops room line xs (omega arith)))
    (cases_lt (length line) (suc room))

-- the longest front, one line on
longest_more :
    (room : ℕ) (line : List ℕ) (lines front : List (List ℕ)) → length line ≤ room →
    LongestFront (room - length line) lines front → LongestFront room (line ∷ lines) (line ∷ front)
longest_more room line lines front fits rest =
    record {
      is_front = ap (λ t. line ∷ t) rest.is_front;
      fits = rw (length-append line (joined front)) (omega (arith, rest.fits));
      longest =
          ⊎_elim (λ (all : front ≡ lines). inl (ap (λ t. line ∷ t) all))
          (λ (over : room - length line < length (joined (take (length front + 1) lines))).
          inr
          (let more : take (suc (length front) + 1) (line ∷ lines) ≡ line ∷ take (length front + 1) lines =
          rw (add-one (suc (length front)), add-one (length front))
          in
          rw (more, length-append line (joined (take (length front + 1) lines))) (omega arith)))
          rest.longest;
    }

longest_none : (room : ℕ) (line : List ℕ) (lines : List (List ℕ)) → room < length line → LongestFront room (line ∷ lines) []
longest_none room line lines long =
    record { is_front = refl; fits = omega arith; longest = inr (rw (length-append line []) (omega arith)) }

pub fitting_longest : (room : ℕ) (lines : List (List ℕ)) → LongestFront room lines (fitting room lines)
fitting_longest room [] = rw (fitting_nil room) (record { is_front = refl; fits = omega arith; longest = inl refl })
fitting_longest room (line ∷ lines) =
    ⊎_elim
    (λ (short : length line < suc room).
    let fits : length line ≤ room = omega arith in
    rw (fitting_more room line lines fits)
    (longest_more room line lines (fitting (room - length line) lines) fits (fitting_longest (room - length line) lines)))
    (λ (long : suc room ≤ length line).
    let over : room < length line = omega arith in
    rw (fitting_stops room line lines over) (longest_none room line lines over))
    (cases_lt (length line) (suc room))
