-- The first date of a period, as the last of the dates from the front on that are not after a day.
-- Assumes nothing.
use Rattle.std.proofs.Common.{◌≡◌, ℕ, Bool, true, false, cond, leb, List, [], ◌∷◌, map, Some, None, Option, refl, ap, ◌∙◌}
use Rattle.std.specs.Iterator.{Drains}
use Rattle.std.specs.Option.{option_map, unwrap_or}
use Rattle.std.specs.List.{last_or, take_while}
use Rattle.std.proofs.iter.Yields.{gives_Drains}
use Rattle.std.proofs.lemmas.Iterator.{YieldsList}
use Rattle.std.proofs.lemmas.List.Sums.{take_while-cons}
use Rattle.register.specs.Interest.{first_of}

-- the last of a list, or else what was found before it
abbrev pub last_found : ℕ → List ℕ → ℕ
last_found found [] = found
last_found found (date ∷ dates) = last_found date dates

one_more :
    (b : Bool) (date found first : ℕ) (dates : List ℕ) → first ≡ last_found date dates →
    cond b first found ≡ last_found found (cond b (date ∷ dates) [])
one_more true date found first dates e = e
one_more false date found first dates e = refl

pub first_is_last : (dates : List ℕ) (found day : ℕ) → first_of dates found day ≡ last_found found (take_while (λ d. leb d day) dates)
unfolding first_of
first_is_last [] found day = refl
first_is_last (date ∷ dates) found day =
    let rest = first_is_last dates date day in
    rw (take_while-cons (λ d. leb d day) date dates)
    (one_more (leb date day) date found (first_of dates date day) (take_while (λ d. leb d day) dates) rest)

module _ {X : Type 0} (read : X → ℕ) where
  last_read :
      (found : ℕ) (o : Option X) (xs : List X) →
      unwrap_or (option_map read (last_or o xs)) found ≡ last_found (unwrap_or (option_map read o) found) (map read xs)
  last_read found o [] = refl
  last_read found o (x ∷ xs) = last_read found (Some x) xs

  -- the last item of an iterator, from the clause `ran` of `last`
  pub last_from_yields_List :
      {S : Type 0} {steps : S → Option X → S → Type 0} {all : List ℕ} (s : S) (found : ℕ) (r : Option X) →
      ((xs : List X) × Drains steps s xs × (r ≡ last_or None xs)) → YieldsList steps read s all →
      unwrap_or (option_map read r) found ≡ last_found found all
  last_from_yields_List {steps = steps} {all} s found r ran yields =
      ap (λ o. unwrap_or (option_map read o) found) ran.2 ∙ last_read found None ran.0
      ∙ ap (last_found found) (gives_Drains steps read ran.0 all s yields.runs ran.1)
