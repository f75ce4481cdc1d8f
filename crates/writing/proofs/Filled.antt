-- A draft has room for 128 bytes.
-- Assumes nothing.
use Rattle.std.proofs.Common.{◌≡◌, ℕ, ◌<◌, ◌≤◌, Ok, Err, Result, OnOk, OnErr, append-nil, ap, List, [], ◌∷◌, ◌++◌, length, take, sym, ◌∙◌, arith}
use Rattle.std.proofs.lemmas.List.{take_all, take-append-le, length_push}
use Rattle.shortlist.specs.declared.list.NoRoom.{NoRoom}

-- a draft that is full
pub push_full : (text : List ℕ) (byte : ℕ) → length text ≡ 128 → text ≡ take 128 (text ++ (byte ∷ []))
push_full text byte full =
    sym (take-append-le 128 text (byte ∷ []) (omega arith) ∙ take_all 128 text (omega arith))

pub pushed :
    (text : List ℕ) (byte : ℕ) (r : Result (Unit {0}) NoRoom) (after : List ℕ) → length text ≤ 128 →
    OnOk r ((length text < 128) × (after ≡ text ++ (byte ∷ []))) → OnErr r ((length text ≡ 128) × (after ≡ text)) →
    after ≡ take 128 (text ++ (byte ∷ []))
pushed text byte (Ok done) after few room full =
    room.1 ∙ sym (take_all 128 (text ++ (byte ∷ [])) (omega (arith, room.0, length_push text byte)))
pushed text byte (Err no_room) after few room full = full.1 ∙ push_full text byte full.0

-- a draft is never longer than it may be
pub draft_short : (text : List ℕ) → length text ≤ 128 → text ≡ take 128 (text ++ [])
draft_short text few = sym (ap (take 128) (append-nil text) ∙ take_all 128 text few)
