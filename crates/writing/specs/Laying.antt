-- Whole lines laid into a buffer from a place on, as far as they fit.
-- Assumes nothing.
use Rattle.std.specs.Prelude.{◌≡◌, ℕ, ◌+◌, ◌-◌, ◌<◌, ◌≤◌, cond, ◌⊎◌, List, [], ◌∷◌, ◌++◌, length, take, drop, Result, MatchResult, nat_le}
use Rattle.writing.specs.declared.laying.Full.{Full}

abbrev pub joined : List (List ℕ) → List ℕ
joined [] = []
joined (line ∷ lines) = line ++ joined lines

-- the lines before the first that no longer fits into the room
unfoldable pub fitting : ℕ → List (List ℕ) → List (List ℕ)
fitting room [] = []
fitting room (line ∷ lines) =
    let more = line ∷ fitting (room - length line) lines in cond (nat_le (length line) room) more []

-- a front of the lines that fits, and that is all of them or with one line more would not fit
pub record LongestFront (room : ℕ) (lines front : List (List ℕ)) : Type 0 where
  pub is_front : front ≡ take (length front) lines
  pub fits : length (joined front) ≤ room
  pub longest : (front ≡ lines) ⊎ (room < length (joined (take (length front + 1) lines)))

-- a buffer with other bytes from a place on
abbrev pub with_bytes : List ℕ → ℕ → List ℕ → List ℕ
with_bytes buffer at bytes = take at buffer ++ (bytes ++ drop (at + length bytes) buffer)

abbrev pub fits_at : List ℕ → ℕ → List (List ℕ) → List (List ℕ)
fits_at buffer at lines = fitting (length buffer - at) lines

-- accepted, all lines stand in the buffer from `at` to the end that is answered; refused, the lines before the first
-- that does not fit stand there, and the end of these is told; all other bytes are as they were
abbrev pub Laid : List (List ℕ) → List ℕ → ℕ → Result ℕ Full → List ℕ → Type 0
Laid lines buffer at r after =
    (after ≡ with_bytes buffer at (joined (fits_at buffer at lines)))
    × MatchResult r
    (λ end. (fits_at buffer at lines ≡ lines) × (end ≡ at + length (joined lines)))
    (λ full. (length (fits_at buffer at lines) < length lines) × (full.written ≡ at + length (joined (fits_at buffer at lines))))
