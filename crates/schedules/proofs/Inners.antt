-- The dates of a deal by their indexes.
-- Assumes nothing.
use Rattle.std.proofs.Common.{◌≡◌, ℕ, zero, suc, ◌+◌, ◌-◌, ◌*◌, ◌<◌, ◌≤◌, Bool, true, false, cond, ◌⊎◌, List, [], ◌∷◌, ◌++◌, map, length, get_or, filter, sym, refl, ap, ◌∙◌, inl, inr, ⊎_elim, arith}
use Rattle.std.specs.List.{range_with_len}
use Rattle.std.proofs.lemmas.List.FromFn.{length-map-range_with_len, get_or-map-range_with_len, filter_of_map_range_with_len_more, map-range_with_len_more}
use Rattle.std.proofs.lemmas.List.{length-append, length-reverse, get_or-reverse, get_or_append_left, get_or_at, append-nil}
use Rattle.std.proofs.lemmas.Bool.{cases_lt, cases_Bool, lt-ltb, ltb-true, and_from, and_parts}
use Rattle.schedules.specs.declared.deal.Deal.{Deal}
use Rattle.schedules.specs.declared.deal.Stub.{Stub}
use Rattle.schedules.specs.declared.deal.Stub.TheVariants.{ShortFirst, ShortLast}
use Rattle.days.specs.Calendar.{day_of}
use Rattle.schedules.specs.Dates.{Sound, month_number, on_day, counted, counted_by, steps, is_inside, in_order, inner, dates}
use Rattle.schedules.proofs.Counts.{inside_by}

module _ (p : ℕ → Bool) (f : ℕ → ℕ) where
  kept_all :
      (n a : ℕ) → ((k : ℕ) → a ≤ k → k < a + n → p (f k) ≡ true) →
      filter p (map f (range_with_len a n)) ≡ map f (range_with_len a n)
  kept_all zero a h = refl
  kept_all (suc n) a h =
      let here = h a (omega arith) (omega arith) in
      rw here (ap (λ xs. f a ∷ xs) (kept_all n (a + 1) (λ k l u. h k (omega arith) (omega arith))))

  -- how many of the first s are kept, where all before the last are
  pub kept_count : ℕ → ℕ
  kept_count zero = 0
  kept_count (suc s) = cond (p (f (suc s))) (suc s) s

  pub kept_front :
      (s : ℕ) → ((k : ℕ) → 1 ≤ k → k < s → p (f k) ≡ true) →
      filter p (map f (range_with_len 1 s)) ≡ map f (range_with_len 1 (kept_count s))
  unfolding kept_count
  kept_front zero h = refl
  kept_front (suc s) h =
      let e : s + 1 ≡ suc s = omega arith in
      let before = kept_all s 1 (λ k l u. h k l (omega arith)) in
      let more = filter_of_map_range_with_len_more p f 1 s (suc s) (omega arith) in
      let all = map-range_with_len_more f 1 s (suc s) (omega arith) in
      let more' = rw (e, before) at more in
      let all' = rw e at all in
      ⊎_elim
      (λ (t : p (f (suc s)) ≡ true). rw t (rw t at more' ∙ sym all'))
      (λ (t : p (f (suc s)) ≡ false). rw t (rw t at more' ∙ append-nil _))
      (cases_Bool (p (f (suc s))))

  pub kept_less : (s : ℕ) → 0 < s → p (f s) ≡ false → kept_count s ≡ s - 1
  unfolding kept_count
  kept_less zero h e = absurd (omega arith)
  kept_less (suc s) h e = rw e (omega arith)

  pub kept_same : (s : ℕ) → (s ≤ 0) ⊎ (p (f s) ≡ true) → kept_count s ≡ s
  unfolding kept_count
  kept_same zero h = refl
  kept_same (suc s) h = ⊎_elim (λ (l : suc s ≤ 0). absurd (omega arith)) (λ (e : p (f (suc s)) ≡ true). rw e refl) h

  -- all that are kept pass, and one fewer at most is kept
  pub kept_passes :
      (s : ℕ) → ((k : ℕ) → 1 ≤ k → k < s → p (f k) ≡ true) → (k : ℕ) → 1 ≤ k → k ≤ kept_count s → p (f k) ≡ true
  unfolding kept_count
  kept_passes zero h k some few = absurd (omega arith)
  kept_passes (suc s) h k some few =
      ⊎_elim
      (λ (t : p (f (suc s)) ≡ true).
      let few' : k ≤ suc s = rw t at few in
      ⊎_elim (λ (l : k < suc s). h k some l)
      (λ (g : suc s ≤ k). let e : k ≡ suc s = omega arith in rw e t) (cases_lt k (suc s)))
      (λ (t : p (f (suc s)) ≡ false). let few' : k ≤ s = rw t at few in h k some (omega arith))
      (cases_Bool (p (f (suc s))))

  -- the one after those that are kept does not pass, unless there is none
  pub kept_ends :
      (s : ℕ) → (kept_count s ≡ s) ⊎ ((kept_count s + 1 ≡ s) × (p (f (kept_count s + 1)) ≡ false))
  unfolding kept_count
  kept_ends zero = inl refl
  kept_ends (suc s) =
      ⊎_elim
      (λ (t : p (f (suc s)) ≡ true). inl (rw t refl))
      (λ (t : p (f (suc s)) ≡ false).
      let e : s + 1 ≡ suc s = omega arith in
      inr (rw t (e, rw e t)))
      (cases_Bool (p (f (suc s))))

-- the counted date that stands at an index of the schedule, where c lie inside
abbrev pub place : Stub → ℕ → ℕ → ℕ
place ShortFirst c j = c + 1 - j
place ShortLast c j = j

in_order_length : (s : Stub) (xs : List ℕ) → length (in_order s xs) ≡ length xs
in_order_length ShortFirst xs = length-reverse xs
in_order_length ShortLast xs = refl

in_order_at :
    (s : Stub) (f : ℕ → ℕ) (c j : ℕ) → j < c →
    get_or (in_order s (map f (range_with_len 1 c))) j 0 ≡ f (place s c (j + 1))
in_order_at ShortFirst f c j h =
    let long = length-map-range_with_len f 1 c in
    get_or-reverse (map f (range_with_len 1 c)) j 0 (omega arith)
    ∙ rw long (get_or-map-range_with_len f 1 c (c - 1 - j) (c + 1 - (j + 1)) 0 (omega arith) (omega arith))
in_order_at ShortLast f c j h = get_or-map-range_with_len f 1 c j (j + 1) 0 h (omega arith)

-- how many dates lie inside
unfoldable pub inside : Deal → ℕ
inside deal = kept_count (is_inside deal) (counted deal) (steps deal)

module _ (deal : Deal) (sound : Sound deal) where
  inside_all : (k : ℕ) → 1 ≤ k → k < steps deal → is_inside deal (counted deal k) ≡ true
  unfolding counted
  inside_all k some few =
      let both = inside_by deal sound deal.stub k some few in
      and_from _ _ (lt-ltb _ _ both.0) (lt-ltb _ _ both.1)

  inner_is : inner deal ≡ in_order deal.stub (map (counted deal) (range_with_len 1 (inside deal)))
  unfolding inner inside
  inner_is = ap (in_order deal.stub) (kept_front (is_inside deal) (counted deal) (steps deal) inside_all)

  pub inner_length : length (inner deal) ≡ inside deal
  inner_length =
      ap length inner_is ∙ in_order_length deal.stub (map (counted deal) (range_with_len 1 (inside deal)))
      ∙ length-map-range_with_len (counted deal) 1 (inside deal)

  pub dates_length : length (dates deal) ≡ inside deal + 2
  unfolding dates
  dates_length = simp length-append (omega (arith, inner_length))

  pub date_first : get_or (dates deal) 0 0 ≡ deal.start
  unfolding dates
  date_first = refl

  date_later : (j : ℕ) → get_or (dates deal) (suc j) 0 ≡ get_or (inner deal ++ deal.end ∷ []) j 0
  unfolding dates
  date_later j = refl

  pub date_inner : (j : ℕ) → 1 ≤ j → j ≤ inside deal → get_or (dates deal) j 0 ≡ counted deal (place deal.stub (inside deal) j)
  date_inner j some few =
      let e : j ≡ suc (j - 1) = omega arith in
      let f : j - 1 + 1 ≡ j = omega arith in
      let at = in_order_at deal.stub (counted deal) (inside deal) (j - 1) (omega arith) in
      ap (λ i. get_or (dates deal) i 0) e ∙ date_later (j - 1)
      ∙ get_or_append_left (inner deal) (deal.end ∷ []) 0 (j - 1) (omega (arith, inner_length))
      ∙ ap (λ xs. get_or xs (j - 1) 0) inner_is ∙ (rw f at at)

  pub date_last : get_or (dates deal) (inside deal + 1) 0 ≡ deal.end
  date_last =
      let e : inside deal + 1 ≡ suc (inside deal) = omega arith in
      ap (λ i. get_or (dates deal) i 0) e ∙ date_later (inside deal)
      ∙ get_or_at (inner deal) deal.end [] 0 (inside deal) inner_length

  pub inside_few : inside deal ≤ steps deal
  unfolding inside
  inside_few =
      ⊎_elim (λ e. omega arith) (λ e. omega arith) (kept_ends (is_inside deal) (counted deal) (steps deal))

  pub inside_passes :
      (k : ℕ) → 1 ≤ k → k ≤ inside deal → (deal.start < counted deal k) × (counted deal k < deal.end)
  unfolding inside
  inside_passes k some few =
      let both =
      and_parts _ _ (kept_passes (is_inside deal) (counted deal) (steps deal) inside_all k some few)
      in
      (ltb-true _ _ both.0, ltb-true _ _ both.1)

-- the code's answers, in the words of the definitions
pub counted_back :
    (deal : Deal) (times i d r : ℕ) → deal.stub ≡ ShortFirst → i ≡ month_number deal.end - times * deal.months →
    d ≡ day_of deal.end → r ≡ on_day i d → r ≡ counted deal times
unfolding counted
counted_back deal times i d r is month day e =
    e ∙ ap (λ j. on_day j d) month ∙ ap (on_day _) day ∙ ap (λ s. counted_by s deal times) (sym is)

pub counted_forward :
    (deal : Deal) (times i d r : ℕ) → deal.stub ≡ ShortLast → i ≡ month_number deal.start + times * deal.months →
    d ≡ day_of deal.start → r ≡ on_day i d → r ≡ counted deal times
unfolding counted
counted_forward deal times i d r is month day e =
    e ∙ ap (λ j. on_day j d) month ∙ ap (on_day _) day ∙ ap (λ s. counted_by s deal times) (sym is)

pub date_placed :
    (deal : Deal) (sound : Sound deal) (s : Stub) (j r : ℕ) → deal.stub ≡ s → 1 ≤ j → j ≤ inside deal →
    r ≡ counted deal (place s (inside deal) j) → r ≡ get_or (dates deal) j 0
date_placed deal sound s j r is some few e =
    e ∙ ap (λ t. counted deal (place t (inside deal) j)) (sym is) ∙ sym (date_inner deal sound j some few)

pub inside_less :
    (deal : Deal) (sound : Sound deal) (s x : ℕ) → s ≡ steps deal → 0 < s → x ≡ counted deal s →
    is_inside deal x ≡ false → s - 1 ≡ length (inner deal)
unfolding inside
inside_less deal sound s x is some at out =
    let out' : is_inside deal (counted deal (steps deal)) ≡ false = rw (at, is) at out in
    let less = kept_less (is_inside deal) (counted deal) (steps deal) (omega arith) out' in
    omega (arith, inner_length deal sound)

pub inside_none : (deal : Deal) (sound : Sound deal) (s : ℕ) → s ≡ steps deal → s ≤ 0 → s ≡ length (inner deal)
unfolding inside
inside_none deal sound s is none =
    let same = kept_same (is_inside deal) (counted deal) (steps deal) (inl (omega arith)) in
    omega (arith, inner_length deal sound)

pub inside_whole :
    (deal : Deal) (sound : Sound deal) (s x : ℕ) → s ≡ steps deal → x ≡ counted deal s →
    is_inside deal x ≡ true → s ≡ length (inner deal)
unfolding inside
inside_whole deal sound s x is at within =
    let within' : is_inside deal (counted deal (steps deal)) ≡ true = rw (at, is) at within in
    let same = kept_same (is_inside deal) (counted deal) (steps deal) (inr within') in
    omega (arith, inner_length deal sound)
