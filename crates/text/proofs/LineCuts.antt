-- A text is its lines, each with its byte 10, and what is left behind them; no line holds a byte 10.
-- Assumes nothing.
use Rattle.std.proofs.Common.{filter, inl, inr, ◌≡◌, ℕ, suc, ◌<◌, Bool, true, false, cond, eqb, List, [], ◌∷◌, ◌++◌, length, get_or, sym, refl, ap, ◌∙◌, ap₂, arith}
use Rattle.std.proofs.lemmas.Bool.{eqb-true, eqb-false, ne_eqb, cases_Bool}
use Rattle.text.specs.Cuts.{Without, line_end, Cut, with_byte, cut_lines}

pub without_from : (b : ℕ) (cs : List ℕ) → ((i : ℕ) → i < length cs → get_or cs i 0 ≡ b → ⊥) → Without b cs
without_from b [] no-b = tt
without_from b (c ∷ cs) no-b =
    (no-b 0 (omega arith), without_from b cs (λ i less. no-b (suc i) (omega arith)))

pub without_append : (b : ℕ) (cs ds : List ℕ) → Without b cs → Without b ds → Without b (cs ++ ds)
without_append b [] ds left right = right
without_append b (c ∷ cs) ds left right = (left.0, without_append b cs ds left.1 right)

-- where a byte stands first, a list is cut in one way
pub cut_once :
    (b : ℕ) (xs ys zs ws : List ℕ) → Without b xs → Without b zs → xs ++ b ∷ ys ≡ zs ++ b ∷ ws →
    (xs ≡ zs) × (ys ≡ ws)
cut_once b [] ys [] ws no-x no-z e = (refl, (let same : ys ≡ ws = cc in same))
cut_once b [] ys (z ∷ zs) ws no-x no-z e = absurd (no-z.0 (let same : z ≡ b = cc in same))
cut_once b (x ∷ xs) ys [] ws no-x no-z e = absurd (no-x.0 (let same : x ≡ b = cc in same))
cut_once b (x ∷ xs) ys (z ∷ zs) ws no-x no-z e =
    let first : x ≡ z = cc in
    let rest = cut_once b xs ys zs ws no-x.1 no-z.1 (let same : xs ++ b ∷ ys ≡ zs ++ b ∷ ws = cc in same) in
    (ap₂ ◌∷◌ first rest.0, rest.1)

-- a list without a byte is none with it
pub never_holds : (b : ℕ) (xs zs ws : List ℕ) → Without b xs → xs ≡ zs ++ b ∷ ws → ⊥
never_holds b [] [] ws no-x e = cc
never_holds b [] (z ∷ zs) ws no-x e = cc
never_holds b (x ∷ xs) [] ws no-x e = no-x.0 (let same : x ≡ b = cc in same)
never_holds b (x ∷ xs) (z ∷ zs) ws no-x e =
    never_holds b xs zs ws no-x.1 (let same : xs ≡ zs ++ b ∷ ws = cc in same)

-- lines, each with its byte 10, and what is left behind them
abbrev pub joined_lines : List (List ℕ) → List ℕ → List ℕ
joined_lines [] left = left
joined_lines (line ∷ lines) left = line ++ line_end ∷ joined_lines lines left

-- no line holds a byte 10
abbrev pub AllWithout : List (List ℕ) → Type 0
AllWithout [] = Unit {0}
AllWithout (line ∷ lines) = Without line_end line × AllWithout lines

-- what a cut says of its text
pub record CutOf (text : List ℕ) (cut : Cut) : Type 0 where
  pub joins : joined_lines cut.whole cut.left ≡ text
  pub lines_clean : AllWithout cut.whole
  pub left_clean : Without line_end cut.left

with_byte_cuts :
    (b : ℕ) (bs left : List ℕ) (whole : List (List ℕ)) → (b ≡ line_end → ⊥) →
    CutOf bs (record { whole = whole; left = left }) →
    CutOf (b ∷ bs) (with_byte b (record { whole = whole; left = left }) whole)
with_byte_cuts b bs left [] other of =
    record { joins = ap (λ cs. b ∷ cs) of.joins; lines_clean = tt; left_clean = (other, of.left_clean) }
with_byte_cuts b bs left (line ∷ lines) other of =
    record {
      joins = ap (λ cs. b ∷ cs) of.joins;
      lines_clean = ((other, of.lines_clean.0), of.lines_clean.1);
      left_clean = of.left_clean;
    }

one_byte_cuts :
    (b : ℕ) (bs : List ℕ) (cut : Cut) (t : Bool) → eqb b line_end ≡ t → CutOf bs cut →
    CutOf (b ∷ bs)
    (cond t (record { whole = [] ∷ cut.whole; left = cut.left }) (with_byte b cut cut.whole))
one_byte_cuts b bs cut true e of =
    record {
      joins = ap₂ ◌∷◌ (sym (eqb-true b line_end e)) of.joins;
      lines_clean = (tt, of.lines_clean);
      left_clean = of.left_clean;
    }
one_byte_cuts b bs cut false e of = with_byte_cuts b bs cut.left cut.whole (eqb-false b line_end e) of

pub cut_of : (text : List ℕ) → CutOf text (cut_lines text)
unfolding cut_lines
cut_of [] = record { joins = refl; lines_clean = tt; left_clean = tt }
cut_of (b ∷ bs) = one_byte_cuts b bs (cut_lines bs) (eqb b line_end) refl (cut_of bs)

-- a first line that byte 10 ends
pub cut_first :
    (line rest : List ℕ) → Without line_end line →
    cut_lines (line ++ line_end ∷ rest)
    ≡ record { whole = line ∷ (cut_lines rest).whole; left = (cut_lines rest).left }
unfolding cut_lines
cut_first [] rest clean = refl
cut_first (b ∷ line) rest clean =
    rw (ne_eqb b line_end clean.0) (ap (λ (cut : Cut). with_byte b cut cut.whole) (cut_first line rest clean.1))

-- what no byte 10 ends is left
pub cut_none : (text : List ℕ) → Without line_end text → cut_lines text ≡ record { whole = []; left = text }
unfolding cut_lines
cut_none [] clean = refl
cut_none (b ∷ bs) clean =
    rw (ne_eqb b line_end clean.0) (ap (λ (cut : Cut). with_byte b cut cut.whole) (cut_none bs clean.1))

-- lines that byte 10 ends are the cut of what they join to
pub cut_joined :
    (lines : List (List ℕ)) → AllWithout lines →
    cut_lines (joined_lines lines []) ≡ record { whole = lines; left = [] }
unfolding cut_lines
cut_joined [] clean = refl
cut_joined (line ∷ lines) clean =
    cut_first line (joined_lines lines []) clean.0
    ∙ ap (λ (cut : Cut). record { whole = line ∷ cut.whole; left = cut.left }) (cut_joined lines clean.1)

longer_same : (b : ℕ) (cut : Cut) (lines : List (List ℕ)) → length (with_byte b cut lines).whole ≡ length lines
longer_same b cut [] = refl
longer_same b cut (line ∷ lines) = refl

-- there are as many lines as bytes 10
pub lines_counted : (text : List ℕ) → length (filter (λ b. eqb b line_end) text) ≡ length (cut_lines text).whole
unfolding cut_lines
lines_counted [] = refl
lines_counted (b ∷ bs) =
    elim (cases_Bool (eqb b line_end)) [
      | inl e ↦ rw e (ap suc (lines_counted bs))
      | inr e ↦ rw e (lines_counted bs ∙ sym (longer_same b (cut_lines bs) (cut_lines bs).whole))
    ]
