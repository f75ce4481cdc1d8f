-- The rolled day is the least or the greatest open day, and there is one such day.
-- Assumes nothing.
use Rattle.std.proofs.Common.{◌≡◌, ℕ, zero, suc, ◌+◌, ◌-◌, ◌<◌, ◌≤◌, Bool, true, false, leb, ◌≢◌, ◌⊎◌, Some, None, Option, sym, refl, ap, ◌∙◌, inl, inr, ⊎_elim, le_antisymm, arith, MatchOption}
use Rattle.std.proofs.lemmas.Bool.{both_ways, cases_Bool, cases_eq, cases_lt, cases_order, cond_both, le-leb, lt-leb, leb-true}
use Rattle.days.specs.Calendar.{last_day, month_end}
use Rattle.days.proofs.Ends.{end_mono}
use Rattle.calendar.specs.declared.rolling.Convention.{Convention}
use Rattle.calendar.specs.declared.rolling.Convention.TheVariants.{Following, ModifiedFollowing, Preceding, Unadjusted}
use Rattle.calendar.specs.Rolling.{reach, first_open, last_open, or_else, roll_forward, roll_back, roll_within, rolled}
use Rattle.calendar.specs.Relations.{NoneOpen, Least, Greatest, LeastOrNone, GreatestOrNone, RollsWithin, KeepsOrder, EndsOpen}

cases_map :
    {A : Type 0} (o : Option A) {P P' : Type 0} {Q Q' : A → Type 0} →
    (P → P') → ((x : A) → Q x → Q' x) → MatchOption o P Q → MatchOption o P' Q'
cases_map None none some c = none c
cases_map (Some x) none some c = some x c

module _ (closed : ℕ → Bool) where
  -- a closed day, and a day that is closed unless it is that one
  closed_too : (k n : ℕ) → closed k ≡ true → (n ≢ k → closed n ≡ true) → closed n ≡ true
  closed_too k n t other = ⊎_elim (λ e. rw e t) other (cases_eq n k)

  first_open_least :
      (count low high : ℕ) → suc high - low ≡ count → LeastOrNone closed low high (first_open closed low count)
  unfolding first_open
  first_open_least zero low high e = λ n l u. absurd (omega arith)
  first_open_least (suc count) low high e =
      cond_both (closed low) (first_open closed (suc low) count) (Some low) (LeastOrNone closed low high)
      (λ t.
      cases_map (first_open closed (suc low) count)
      (λ none n l u. closed_too low n t (λ other. none n (omega arith) u))
      (λ x least.
      record {
        from = omega arith;
        to = least.to;
        is_open = least.is_open;
        before = λ n l u. closed_too low n t (λ other. least.before n (omega arith) u);
      })
      (first_open_least count (suc low) high (omega arith)))
      (λ f. record { from = omega arith; to = omega arith; is_open = f; before = λ n l u. absurd (omega arith) })

  -- the days from low on, `count` of them
  record LastOf (low count x : ℕ) : Type 0 where
    from : low ≤ x
    to : x < low + count
    is_open : closed x ≡ false
    after : (n : ℕ) → x < n → n < low + count → closed n ≡ true

  last_open_last :
      (count low high : ℕ) → (count ≡ 0) ⊎ (low + count ≡ suc high) →
      MatchOption (last_open closed high count) ((n : ℕ) → low ≤ n → n < low + count → closed n ≡ true) (LastOf low count)
  unfolding last_open
  last_open_last zero low high e = λ n l u. absurd (omega arith)
  last_open_last (suc count) low high e =
      let here : low + count ≡ high = omega arith in
      cond_both (closed high) (last_open closed (high - 1) count) (Some high)
      (λ o. MatchOption o ((n : ℕ) → low ≤ n → n < low + suc count → closed n ≡ true) (LastOf low (suc count)))
      (λ t.
      cases_map (last_open closed (high - 1) count)
      (λ none n l u. closed_too high n t (λ other. none n l (omega arith)))
      (λ x last.
      record {
        from = last.from;
        to = omega arith;
        is_open = last.is_open;
        after = λ n l u. closed_too high n t (λ other. last.after n l (omega arith));
      })
      (last_open_last count low (high - 1)
      (⊎_elim (λ (none : count ≡ 0). inl none)
      (⊎_elim (λ (some : count < 0). absurd (omega arith)) (λ (some : 0 < count). inr (omega arith)))
      (cases_order count 0))))
      (λ f. record { from = omega arith; to = omega arith; is_open = f; after = λ n l u. absurd (omega arith) })

  last_open_greatest :
      (low high : ℕ) → low ≤ high → GreatestOrNone closed low high (last_open closed high (suc high - low))
  last_open_greatest low high h =
      let all : low + (suc high - low) ≡ suc high = omega arith in
      cases_map (last_open closed high (suc high - low))
      (λ none n l u. none n l (omega arith))
      (λ x last.
      record {
        from = last.from;
        to = omega (arith, last.to);
        is_open = last.is_open;
        after = λ n l u. last.after n l (omega arith);
      })
      (last_open_last (suc high - low) low high (inr all))

  -- two least open days of a stretch are one, and so are two greatest
  least_below : (low high x y : ℕ) → Least closed low high x → closed y ≡ false → low ≤ y → x ≤ y
  least_below low high x y least f l =
      ⊎_elim (λ (h : x < suc y). omega arith) (λ (h : suc y ≤ x). absurd (both_ways (closed y) f (least.before y l h)))
      (cases_lt x (suc y))

  greatest_above : (low high x y : ℕ) → Greatest closed low high x → closed y ≡ false → y ≤ high → y ≤ x
  greatest_above low high x y greatest f u =
      ⊎_elim (λ (h : y < suc x). omega arith)
      (λ (h : suc x ≤ y). absurd (both_ways (closed y) f (greatest.after y h u))) (cases_lt y (suc x))

  least_same : (low high : ℕ) (r s : Option ℕ) → LeastOrNone closed low high r → LeastOrNone closed low high s → r ≡ s
  least_same low high None None p q = refl
  least_same low high None (Some y) p q = absurd (both_ways (closed y) q.is_open (p y q.from q.to))
  least_same low high (Some x) None p q = absurd (both_ways (closed x) p.is_open (q x p.from p.to))
  least_same low high (Some x) (Some y) p q =
      ap Some
      (le_antisymm (least_below low high x y p q.is_open q.from) (least_below low high y x q p.is_open p.from))

  greatest_same :
      (low high : ℕ) (r s : Option ℕ) → GreatestOrNone closed low high r → GreatestOrNone closed low high s → r ≡ s
  greatest_same low high None None p q = refl
  greatest_same low high None (Some y) p q = absurd (both_ways (closed y) q.is_open (p y q.from q.to))
  greatest_same low high (Some x) None p q = absurd (both_ways (closed x) p.is_open (q x p.from p.to))
  greatest_same low high (Some x) (Some y) p q =
      ap Some
      (le_antisymm (greatest_above low high y x q p.is_open p.to) (greatest_above low high x y p q.is_open q.to))

  -- the rule keeps the relation
  modified_within :
      (n : ℕ) (r s : Option ℕ) → LeastOrNone closed n (month_end n) r → GreatestOrNone closed (n - reach) n s →
      RollsWithin closed ModifiedFollowing n (or_else r s)
  modified_within n None s p q = inr (p, q)
  modified_within n (Some x) s p q = inl p

  pub rolls_within :
      (convention : Convention) (n : ℕ) → RollsWithin closed convention n (roll_within closed convention n)
  rolls_within Following n = first_open_least (suc (n + reach) - n) n (n + reach) refl
  rolls_within Preceding n = last_open_greatest (n - reach) n (omega arith)
  rolls_within Unadjusted n = refl
  rolls_within ModifiedFollowing n =
      modified_within n (roll_forward closed n (month_end n)) (roll_back closed n)
      (first_open_least (suc (month_end n) - n) n (month_end n) refl)
      (last_open_greatest (n - reach) n (omega arith))

  -- and the relation leads to no other day
  found_forward :
      (n : ℕ) (o : Option ℕ) → MatchOption o ⊥ (Least closed n (month_end n)) →
      LeastOrNone closed n (month_end n) o × (NoneOpen closed n (month_end n) → ⊥)
  found_forward n None c = absurd c
  found_forward n (Some x) c = (c, λ none. both_ways (closed x) c.is_open (none x c.from c.to))

  within_same :
      (convention : Convention) (n : ℕ) (r s : Option ℕ) →
      RollsWithin closed convention n r → RollsWithin closed convention n s → r ≡ s
  within_same Following n r s p q = least_same n (n + reach) r s p q
  within_same Preceding n r s p q = greatest_same (n - reach) n r s p q
  within_same Unadjusted n r s p q = p ∙ sym q
  within_same ModifiedFollowing n r s p q =
      ⊎_elim
      (λ p₁.
      let f = found_forward n r p₁ in
      ⊎_elim (λ q₁. least_same n (month_end n) r s f.0 (found_forward n s q₁).0) (λ q₂. absurd (f.1 q₂.0)) q)
      (λ p₂.
      ⊎_elim (λ q₁. absurd ((found_forward n s q₁).1 p₂.0))
      (λ q₂. greatest_same (n - reach) n r s p₂.1 q₂.1) q)
      p

  pub rolled_is :
      (convention : Convention) (n : ℕ) (r : Option ℕ) → n ≤ last_day → RollsWithin closed convention n r →
      r ≡ rolled closed convention n
  rolled_is convention n r h p =
      let test = le-leb n last_day h in
      rw test (within_same convention n r (roll_within closed convention n) p (rolls_within convention n))

  pub not_rolled : (convention : Convention) (n : ℕ) → last_day < n → None ≡ rolled closed convention n
  not_rolled convention n h = let test = lt-leb n last_day h in rw test refl

  -- a day that rolls is one of the range, and rolls by the relation
  pub rolled_tells :
      (convention : Convention) (n x : ℕ) → rolled closed convention n ≡ Some x →
      (n ≤ last_day) × RollsWithin closed convention n (Some x)
  rolled_tells convention n x e =
      ⊎_elim
      (λ t.
      let is : roll_within closed convention n ≡ Some x = rw t at e in
      (leb-true _ _ t, rw is at (rolls_within convention n)))
      (λ f. let is = rw f at e in absurd (let z : ◌≡◌ {A = ℕ} 0 1 = cc in omega arith)) (cases_Bool (leb n last_day))

  open_within :
      (convention : Convention) (n x : ℕ) → (convention ≡ Unadjusted → ⊥) → RollsWithin closed convention n (Some x) →
      closed x ≡ false
  open_within Following n x c p = p.is_open
  open_within Preceding n x c p = p.is_open
  open_within Unadjusted n x c p = absurd (c refl)
  open_within ModifiedFollowing n x c p = ⊎_elim (λ p₁. p₁.is_open) (λ p₂. p₂.1.is_open) p

  pub ends_open : (convention : Convention) → EndsOpen closed convention
  ends_open convention n x c e = open_within convention n x c (rolled_tells convention n x e).1

  order_modified :
      (a b x y : ℕ) → a ≤ b → b ≤ last_day → RollsWithin closed ModifiedFollowing a (Some x) →
      RollsWithin closed ModifiedFollowing b (Some y) → x ≤ y
  order_modified a b x y h range p q =
      ⊎_elim
      (λ (q₁ : Least closed b (month_end b) y).
      ⊎_elim
      (λ (p₁ : Least closed a (month_end a) x).
      least_below a (month_end a) x y p₁ q₁.is_open (omega (arith, q₁.from)))
      (λ (p₂ : NoneOpen closed a (month_end a) × Greatest closed (a - reach) a x). omega (arith, p₂.1.to, q₁.from)) p)
      (λ (q₂ : NoneOpen closed b (month_end b) × Greatest closed (b - reach) b y).
      ⊎_elim
      (λ (p₁ : Least closed a (month_end a) x).
      ⊎_elim
      (λ (early : x < suc b). greatest_above (b - reach) b y x q₂.1 p₁.is_open (omega arith))
      (λ (late : suc b ≤ x).
      absurd
      (both_ways (closed x) p₁.is_open
      (q₂.0 x (omega arith) (omega (arith, p₁.to, end_mono a b h range)))))
      (cases_lt x (suc b)))
      (λ (p₂ : NoneOpen closed a (month_end a) × Greatest closed (a - reach) a x).
      greatest_above (b - reach) b y x q₂.1 p₂.1.is_open (omega (arith, p₂.1.to)))
      p)
      q

  order_within :
      (convention : Convention) (a b x y : ℕ) → a ≤ b → b ≤ last_day → RollsWithin closed convention a (Some x) →
      RollsWithin closed convention b (Some y) → x ≤ y
  order_within Following a b x y h range p q =
      least_below a (a + reach) x y p q.is_open (omega (arith, q.from))
  order_within Preceding a b x y h range p q =
      greatest_above (b - reach) b y x q p.is_open (omega (arith, p.to))
  order_within Unadjusted a b x y h range p q =
      let e : a ≡ x = cc in let f : b ≡ y = cc in omega arith
  order_within ModifiedFollowing a b x y h range p q = order_modified a b x y h range p q

  pub keeps_order : (convention : Convention) → KeepsOrder closed convention
  keeps_order convention a b x y h e f =
      let q = rolled_tells convention b y f in
      order_within convention a b x y h q.0 (rolled_tells convention a x e).1 q.1
