-- Lines laid one after another: what is still to be laid, on the page as it stands, gives the whole.
-- Assumes nothing.
use Rattle.std.proofs.Common.{◌≡◌, ℕ, ◌+◌, ◌<◌, ◌≤◌, List, [], ◌∷◌, length, get_or, drop, Ok, Err, Result, subst, ◌∙◌}
use Rattle.std.proofs.lemmas.List.{at_drop_more, at_drop_all}
use Rattle.writing.specs.declared.laying.Full.{Full}
use Rattle.report.specs.Pages.{LaidOn}
use Rattle.report.specs.declared.page.Page.{Page}
use Rattle.report.proofs.Pages.{on_none, on_more, on_stops}

-- laying `lines` on `page` amounts to laying `all` on `first`
abbrev pub Onward : List (List ℕ) → Page → List (List ℕ) → Page → Type 0
Onward lines page all first =
    (r : Result (Unit {0}) Full) (after : Page) → LaidOn lines page r after → LaidOn all first r after

-- the next line went in, as a draft
pub onward_more :
    (lines : List (List ℕ)) (line : List ℕ) (rest : List (List ℕ)) (page : Page) (all : List (List ℕ)) (first : Page)
    (text : List ℕ) (after : Page) →
    lines ≡ line ∷ rest → text ≡ line → Onward lines page all first → LaidOn (text ∷ []) page (Ok tt) after →
    Onward rest after all first
onward_more lines line rest page all first text after is same onward laid r final later =
    let one = subst (λ (t : List ℕ). LaidOn (t ∷ []) page (Ok tt) after) same laid in
    let here = subst (λ (ls : List (List ℕ)). Onward ls page all first) is onward in
    here r final (on_more (line ∷ []) rest page after final r one later)

-- or it did not fit
pub onward_stops :
    (lines : List (List ℕ)) (line : List ℕ) (rest : List (List ℕ)) (page : Page) (all : List (List ℕ)) (first : Page)
    (text : List ℕ) (full : Full) (after : Page) →
    lines ≡ line ∷ rest → text ≡ line → Onward lines page all first → LaidOn (text ∷ []) page (Err full) after →
    LaidOn all first (Err full) after
onward_stops lines line rest page all first text full after is same onward laid =
    let one = subst (λ (t : List ℕ). LaidOn (t ∷ []) page (Err full) after) same laid in
    let here = subst (λ (ls : List (List ℕ)). Onward ls page all first) is onward in
    here (Err full) after (on_stops (line ∷ []) rest page after full one)

pub onward_done :
    (lines : List (List ℕ)) (page : Page) (all : List (List ℕ)) (first : Page) → lines ≡ [] →
    Onward lines page all first → LaidOn all first (Ok tt) page
onward_done lines page all first none onward =
    subst (λ (ls : List (List ℕ)). Onward ls page all first) none onward (Ok tt) page (on_none page)

-- a line for each item of a list, by its index
module _
    {X : Type 0} (lines : ℕ → List X → List (List ℕ)) (line : ℕ → X → List ℕ) (other : X)
    (none : (i : ℕ) → lines i [] ≡ []) (some : (i : ℕ) (x : X) (xs : List X) → lines i (x ∷ xs) ≡ line i x ∷ lines (i + 1) xs)
    (xs : List X) (i : ℕ) (first page : Page) where
  here : i < length xs → lines i (drop i xs) ≡ line i (get_or xs i other) ∷ lines (i + 1) (drop (i + 1) xs)
  here inside = at_drop_more (lines i) xs i other inside ∙ some i (get_or xs i other) (drop (i + 1) xs)

  pub each_more :
      (text : List ℕ) (after : Page) → i < length xs → text ≡ line i (get_or xs i other) →
      Onward (lines i (drop i xs)) page (lines 0 xs) first → LaidOn (text ∷ []) page (Ok tt) after →
      Onward (lines (i + 1) (drop (i + 1) xs)) after (lines 0 xs) first
  each_more text after inside is onward laid =
      onward_more (lines i (drop i xs)) (line i (get_or xs i other)) (lines (i + 1) (drop (i + 1) xs)) page (lines 0 xs) first
      text after (here inside) is onward laid

  pub each_stops :
      (text : List ℕ) (full : Full) (after : Page) → i < length xs → text ≡ line i (get_or xs i other) →
      Onward (lines i (drop i xs)) page (lines 0 xs) first → LaidOn (text ∷ []) page (Err full) after →
      LaidOn (lines 0 xs) first (Err full) after
  each_stops text full after inside is onward laid =
      onward_stops (lines i (drop i xs)) (line i (get_or xs i other)) (lines (i + 1) (drop (i + 1) xs)) page (lines 0 xs) first
      text full after (here inside) is onward laid

  pub each_done :
      length xs ≤ i → Onward (lines i (drop i xs)) page (lines 0 xs) first → LaidOn (lines 0 xs) first (Ok tt) page
  each_done past onward =
      onward_done (lines i (drop i xs)) page (lines 0 xs) first (at_drop_all (lines i) xs i past ∙ none i) onward
