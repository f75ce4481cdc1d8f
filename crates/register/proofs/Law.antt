-- The law of interest: an accepted call keeps a register and its journal together.
-- Assumes nothing.
use Rattle.std.proofs.Common.{◌≡◌, ℕ, ◌+◌, ◌-◌, ◌*◌, ◌<◌, ◌≤◌, Bool, true, false, cond, eqb, List, ◌++◌, map, length, get_or, take, set, None, sum_by, sym, refl, ap, ◌∙◌, zero-mul, arith, length-set}
use lib.ListN.{length-map}
use Rattle.std.specs.List.{range_with_len}
use Rattle.std.proofs.lemmas.List.{length-take, set-get_or}
use Rattle.std.proofs.lemmas.List.Sums.{sum_by-append}
use Rattle.std.proofs.lemmas.Bool.{leb-false, eqb-true}
use Rattle.counts.specs.Counting.{asked, Lawful}
use Rattle.register.specs.declared.row.Row.{Row}
use Rattle.register.specs.Calls.{Call, opening, advance, transfer, redemption, posting, payment, State, closed, unknown, end_of, judge}
use Rattle.register.specs.Journal.{Journal, Evening, state_of, evenings_to, taken, given, change}
use Rattle.register.specs.Interest.{step}
use Rattle.register.specs.Mirrors.{Mirrors}
use Rattle.register.specs.Rows.{accrued, posted, settled, gained, lost, worth, total_worth, total_holding, at, moved, redeemed, paid_out, opened_row}
use Rattle.register.specs.Rules.{View, seen_state, unit, first, days_on, with_rows, begun, ruled}
use Rattle.register.proofs.Accepted.{payment_known, redemption_known, transfer_known, posting_open, advance_within, opening_good}
use Rattle.register.proofs.Bounds.{changed_twice, lost_changes, gained_changes, settled_changes, sum_by_map, sum_by_same, sum_accrued, sum_opened, sum_none}
use Rattle.register.proofs.Carry.{at_map, accrued_none, posted_none, posted_worth, held_set, set_holdings, set_worths, held_map, held_opened, at_opened}
use Rattle.register.proofs.Counts.{asked_same, asked_rises}
use Rattle.register.proofs.Dates.{date_in_range}
use Rattle.register.proofs.Seen.{held}
use Rattle.register.proofs.Sound.{Sound}
use Rattle.register.proofs.Telescope.{steps_add, sum_by_times}

same_state :
    (s t : State) → s.dates ≡ t.dates → s.holdings ≡ t.holdings → s.today ≡ t.today → s.period ≡ t.period → s ≡ t
same_state s t d h n p = λ i. record { dates = d i; holdings = h i; today = n i; period = p i }

module _ (c0 : ℕ → ℕ → ℕ) (per : ℕ) (lawful : Lawful c0 per) (j : Journal) (sound : Sound j) (v : View) (m : Mirrors (asked c0) per j v) where
  same_dates : v.dates ≡ j.dates
  same_dates = ap (λ s. s.dates) m.state

  same_holdings : held v.holders v.rows ≡ j.holdings
  same_holdings = ap (λ s. s.holdings) m.state

  same_today : v.today ≡ j.today
  same_today = ap (λ s. s.today) m.state

  same_period : v.period ≡ j.period
  same_period = ap (λ s. s.period) m.state

  -- a known holder has a row
  has_row : (i : ℕ) → unknown (state_of j) i ≡ false → (i < length j.holdings) × (i < length v.rows)
  has_row i f =
      let known = leb-false (length j.holdings) i f in
      let long = ap length same_holdings in
      let seen = length-map (take v.holders v.rows) (λ r. r.holding) in
      let cut = length-take v.holders v.rows in
      (known, omega arith)

  -- rows changed in their holdings or in the parts of their interest: no evening is noted, and none is worth more
  kept :
      (rows : List Row) (holdings : List ℕ) (nominal : ℕ) → held v.holders rows ≡ holdings →
      total_holding rows ≡ nominal → ((i : ℕ) → (at rows i).holding ≡ get_or holdings i 0) →
      ((i : ℕ) → worth (unit per) (at rows i) ≡ worth (unit per) (at v.rows i)) →
      total_worth (unit per) rows ≡ total_worth (unit per) v.rows →
      Mirrors (asked c0) per
      (record {
        dates = j.dates;
        rate = j.rate;
        holdings = holdings;
        nominal = nominal;
        today = j.today;
        period = j.period;
        evenings = j.evenings;
      })
      (with_rows v rows)
  kept rows holdings nominal seen all each worths total =
      record {
        state = same_state _ _ same_dates seen same_today same_period;
        rate = m.rate;
        nominal = all;
        holding = each;
        each_holder = λ i. worths i ∙ m.each_holder i;
        all_holders = total ∙ m.all_holders;
        tally = m.tally;
      }

  pay_law : (i : ℕ) → judge (state_of j) (payment i) ≡ None → Mirrors (asked c0) per j (ruled (asked c0) per v (payment i))
  pay_law i e =
      let row = has_row i (payment_known (state_of j) i e) in
      let r = settled (at v.rows i) in
      let changed = settled_changes v.rows i r row.1 refl in
      let same : set j.holdings i r.holding ≡ j.holdings = ap (set j.holdings i) (m.holding i) ∙ set-get_or j.holdings i 0 in
      let seen : held v.holders (paid_out i v.rows) ≡ set j.holdings i r.holding =
      held_set v.holders v.rows i r ∙ ap (λ hs. set hs i r.holding) same_holdings
      in
      let zeros : r.paid + r.due ≡ (at v.rows i).paid + (at v.rows i).due = omega arith in
      kept (paid_out i v.rows) j.holdings j.nominal (seen ∙ same) (omega (arith, changed.holding, m.nominal))
      (λ k. set_holdings v.rows j.holdings i r row.1 row.0 m.holding k ∙ ap (λ hs. get_or hs k 0) same)
      (set_worths (unit per) v.rows i r row.1 (ap (λ n. n * unit per + r.ticks) zeros)) (changed.money (unit per))

  redeem_law :
      (i amount : ℕ) → judge (state_of j) (redemption i amount) ≡ None →
      Mirrors (asked c0) per (change j (redemption i amount)) (ruled (asked c0) per v (redemption i amount))
  redeem_law i amount e =
      let known = redemption_known (state_of j) i amount e in
      let row = has_row i known.0 in
      let r = lost amount (at v.rows i) in
      let covered : amount ≤ (at v.rows i).holding = omega (arith, known.1, m.holding i) in
      let changed = lost_changes v.rows i amount r row.1 covered refl in
      let less : set j.holdings i r.holding ≡ taken i amount j.holdings = ap (λ h. set j.holdings i (h - amount)) (m.holding i) in
      kept (redeemed i amount v.rows) (taken i amount j.holdings) (j.nominal - amount)
      (held_set v.holders v.rows i r ∙ ap (λ hs. set hs i r.holding) same_holdings ∙ less)
      (omega (arith, changed.holding, m.nominal))
      (λ k. set_holdings v.rows j.holdings i r row.1 row.0 m.holding k ∙ ap (λ hs. get_or hs k 0) less)
      (set_worths (unit per) v.rows i r row.1 refl) (changed.money (unit per))

  transfer_law :
      (from to amount : ℕ) → judge (state_of j) (transfer from to amount) ≡ None →
      Mirrors (asked c0) per (change j (transfer from to amount)) (ruled (asked c0) per v (transfer from to amount))
  transfer_law from to amount e =
      let known = transfer_known (state_of j) from to amount e in
      let giver = has_row from known.0 in
      let taker = has_row to known.1 in
      let r = lost amount (at v.rows from) in
      let covered : amount ≤ (at v.rows from).holding = omega (arith, known.3, m.holding from) in
      let first_change = lost_changes v.rows from amount r giver.1 covered refl in
      let mid = redeemed from amount v.rows in
      let left = taken from amount j.holdings in
      let less : set j.holdings from r.holding ≡ left = ap (λ h. set j.holdings from (h - amount)) (m.holding from) in
      let mid_holding : (k : ℕ) → (at mid k).holding ≡ get_or left k 0 =
      λ k. set_holdings v.rows j.holdings from r giver.1 giver.0 m.holding k ∙ ap (λ hs. get_or hs k 0) less
      in
      let mid_seen : held v.holders mid ≡ left =
      held_set v.holders v.rows from r ∙ ap (λ hs. set hs from r.holding) same_holdings ∙ less
      in
      let q = gained amount (at mid to) in
      let inside : to < length mid = omega (arith, length-set v.rows from r, taker.1) in
      let within : to < length left = omega (arith, length-set j.holdings from (get_or j.holdings from 0 - amount), taker.0) in
      let second_change = gained_changes mid to amount q inside refl in
      let more : set left to q.holding ≡ given to amount left = ap (λ h. set left to (h + amount)) (mid_holding to) in
      let both = changed_twice v.rows mid (moved from to amount v.rows) amount 0 0 amount first_change second_change in
      kept (moved from to amount v.rows) (given to amount left) j.nominal
      (held_set v.holders mid to q ∙ ap (λ hs. set hs to q.holding) mid_seen ∙ more)
      (omega (arith, both.holding, m.nominal))
      (λ k. set_holdings mid left to q inside within mid_holding k ∙ ap (λ hs. get_or hs k 0) more)
      (λ k. set_worths (unit per) mid to q inside refl k ∙ set_worths (unit per) v.rows from r giver.1 refl k)
      (both.money (unit per))

  abbrev noted : ℕ → Evening
  noted x = record { day = x; holdings = j.holdings; nominal = j.nominal }

  -- the evenings that an advance notes add the count over them
  advance_adds :
      (day h : ℕ) (f : Evening → ℕ) → closed (state_of j) ≡ false → j.today ≤ day → day ≤ end_of (state_of j) →
      ((x : ℕ) → f (noted x) ≡ h * j.rate * step (asked c0) j.dates x) →
      sum_by f (j.evenings ++ evenings_to j day)
      ≡ sum_by f j.evenings + h * j.rate * (asked c0 (get_or j.dates j.period 0) day - asked c0 (get_or j.dates j.period 0) j.today)
  advance_adds day h f running from to each =
      let inside : j.period + 1 < length j.dates = leb-false _ _ running in
      let range = date_in_range j.dates sound.steadily (j.period + 1) inside in
      let e : j.today + (day - j.today) ≡ day = omega arith in
      let steps =
      rw e at
      (steps_add c0 per lawful j.dates sound.steadily j.period inside (day - j.today) j.today (sound.begun running) (omega arith) range)
      in
      let days = range_with_len j.today (day - j.today) in
      sum_by-append f j.evenings (evenings_to j day)
      ∙ ap (λ n. sum_by f j.evenings + n)
      (sum_by_map f noted days ∙ sum_by_same (λ x. f (noted x)) (λ x. h * j.rate * step (asked c0) j.dates x) each days
      ∙ sum_by_times (h * j.rate) (step (asked c0) j.dates) days ∙ ap (λ n. h * j.rate * n) steps)

  -- the counted days of an advance, as the journal has them
  same_first : first v ≡ get_or j.dates j.period 0
  same_first = ap (λ s. get_or s.dates s.period 0) m.state

  same_tally : v.tally ≡ asked c0 (get_or j.dates j.period 0) j.today
  same_tally =
      m.tally ∙ ap (λ a. asked c0 a v.today) same_first ∙ ap (λ b. asked c0 (get_or j.dates j.period 0) b) same_today

  counted_on :
      (day : ℕ) → days_on (asked c0) v day
      ≡ asked c0 (get_or j.dates j.period 0) day - asked c0 (get_or j.dates j.period 0) j.today
  counted_on day =
      ap (λ a. asked c0 a day - v.tally) same_first
      ∙ ap (λ n. asked c0 (get_or j.dates j.period 0) day - n) same_tally

  advance_law :
      (day : ℕ) → judge (state_of j) (advance day) ≡ None →
      Mirrors (asked c0) per (change j (advance day)) (ruled (asked c0) per v (advance day))
  advance_law day e =
      let within = advance_within (state_of j) day e in
      let n = days_on (asked c0) v day in
      let from = get_or j.dates j.period 0 in
      let f = accrued v.rate n in
      let inside : j.period + 1 < length j.dates = leb-false _ _ within.0 in
      let range = date_in_range j.dates sound.steadily (j.period + 1) inside in
      let rises = asked_rises c0 per lawful from j.today day (sound.begun within.0) within.1 (omega (arith, within.2)) in
      let product : (a h : ℕ) → a ≡ h → a * v.rate * n ≡ h * j.rate * (asked c0 from day - asked c0 from j.today) =
      λ a h same. ap (λ k. k * v.rate * n) same ∙ ap (λ r. h * r * n) m.rate ∙ ap (λ k. h * j.rate * k) (counted_on day)
      in
      record {
        state = same_state _ _ same_dates (held_map v.holders f (λ r. refl) v.rows ∙ same_holdings) refl same_period;
        rate = m.rate;
        nominal = sum_by_map (λ r. r.holding) f v.rows ∙ m.nominal;
        holding = λ k. ap (λ r. r.holding) (at_map f (accrued_none v.rate n) v.rows k) ∙ m.holding k;
        each_holder = λ k.
            let h = get_or j.holdings k 0 in
            let row = at v.rows k in
            let more : worth (unit per) (f row) ≡ worth (unit per) row + row.holding * v.rate * n = omega arith in
            let adds =
            advance_adds day h (λ ev. get_or ev.holdings k 0 * j.rate * step (asked c0) j.dates ev.day) within.0 within.1
            within.2 (λ x. refl)
            in
            ap (worth (unit per)) (at_map f (accrued_none v.rate n) v.rows k)
            ∙ more ∙ omega (arith, m.each_holder k, product row.holding h (m.holding k)) ∙ sym adds;
        all_holders =
            let adds =
            advance_adds day j.nominal (λ ev. ev.nominal * j.rate * step (asked c0) j.dates ev.day) within.0 within.1
            within.2 (λ x. refl)
            in
            sum_by_map (worth (unit per)) f v.rows
            ∙ sum_by_same (λ r. worth (unit per) (f r)) (λ r. worth (unit per) r + r.holding * v.rate * n) (λ r. omega arith) v.rows
            ∙ sum_accrued (worth (unit per)) v.rate n v.rows
            ∙ omega (arith, m.all_holders, product (total_holding v.rows) j.nominal m.nominal) ∙ sym adds;
        tally =
            let now : asked c0 (first v) day ≡ asked c0 from day = ap (λ a. asked c0 a day) same_first in
            omega (arith, now, same_tally, counted_on day, rises);
      }

  -- a posting: the rows, and then the period
  posting_kept :
      Mirrors (asked c0) per
      (record {
        dates = j.dates;
        rate = j.rate;
        holdings = j.holdings;
        nominal = j.nominal;
        today = j.today;
        period = j.period;
        evenings = j.evenings;
      })
      (with_rows v (map (posted (unit per)) v.rows))
  posting_kept =
      let f = posted (unit per) in
      kept (map f v.rows) j.holdings j.nominal (held_map v.holders f (λ r. refl) v.rows ∙ same_holdings)
      (sum_by_map (λ r. r.holding) f v.rows ∙ m.nominal)
      (λ k. ap (λ r. r.holding) (at_map f (posted_none (unit per)) v.rows k) ∙ m.holding k)
      (λ k. ap (worth (unit per)) (at_map f (posted_none (unit per)) v.rows k) ∙ posted_worth (unit per) (at v.rows k))
      (sum_by_map (worth (unit per)) f v.rows
      ∙ sum_by_same (λ r. worth (unit per) (f r)) (worth (unit per)) (λ r. posted_worth (unit per) r) v.rows)

  posting_ends :
      (ends : Bool) → eqb j.today (end_of (state_of j)) ≡ ends → closed (state_of j) ≡ false →
      Mirrors (asked c0) per
      (record {
        dates = j.dates;
        rate = j.rate;
        holdings = j.holdings;
        nominal = j.nominal;
        today = j.today;
        period = cond ends (j.period + 1) j.period;
        evenings = j.evenings;
      })
      (cond ends (begun (with_rows v (map (posted (unit per)) v.rows))) (with_rows v (map (posted (unit per)) v.rows)))
  posting_ends false e running = posting_kept
  posting_ends true e running =
      let p = posting_kept in
      let next : v.period + 1 ≡ j.period + 1 = ap (λ k. k + 1) same_period in
      let inside : j.period + 1 < length j.dates = leb-false _ _ running in
      let range = date_in_range j.dates sound.steadily (j.period + 1) inside in
      let today : v.today ≡ get_or j.dates (j.period + 1) 0 = same_today ∙ eqb-true _ _ e in
      let first_is : get_or v.dates (v.period + 1) 0 ≡ get_or j.dates (j.period + 1) 0 =
      ap (λ ds. get_or ds (v.period + 1) 0) same_dates ∙ ap (λ k. get_or j.dates k 0) next
      in
      record {
        state = same_state _ _ same_dates (ap (λ s. s.holdings) p.state) same_today next;
        rate = p.rate;
        nominal = p.nominal;
        holding = p.holding;
        each_holder = p.each_holder;
        all_holders = p.all_holders;
        tally =
            sym
            (ap (λ a. asked c0 a v.today) first_is ∙ ap (λ b. asked c0 (get_or j.dates (j.period + 1) 0) b) today
            ∙ asked_same c0 per lawful (get_or j.dates (j.period + 1) 0) range);
      }

  post_law :
      judge (state_of j) posting ≡ None → Mirrors (asked c0) per (change j posting) (ruled (asked c0) per v posting)
  post_law e =
      let same : eqb v.today (end_of (seen_state v)) ≡ eqb j.today (end_of (state_of j)) =
      ap (λ s. eqb s.today (end_of s)) m.state
      in
      rw same (posting_ends (eqb j.today (end_of (state_of j))) refl (posting_open (state_of j) e))

  open_law :
      (dates : List ℕ) (rate : ℕ) (holdings : List ℕ) → judge (state_of j) (opening dates rate holdings) ≡ None →
      Mirrors (asked c0) per (change j (opening dates rate holdings)) (ruled (asked c0) per v (opening dates rate holdings))
  open_law dates rate holdings e =
      let good = opening_good (state_of j) dates rate holdings e in
      let none = sound.unopened good.0 in
      let nothing : (h : ℕ) → worth (unit per) (opened_row h) ≡ 0 = λ h. omega (arith, zero-mul (unit per)) in
      record {
        state = same_state _ _ refl (held_opened holdings) refl refl;
        rate = refl;
        nominal = sum_opened (λ r. r.holding) (λ h. h) refl (λ h. refl) holdings;
        holding = λ k. ap (λ r. r.holding) (at_opened holdings k);
        each_holder = λ k. ap (worth (unit per)) (at_opened holdings k) ∙ nothing (get_or holdings k 0) ∙ rw none refl;
        all_holders =
            sum_opened (worth (unit per)) (λ h. 0) (nothing 0) nothing holdings ∙ sum_none holdings ∙ rw none refl;
        tally = sym (asked_same c0 per lawful (get_or dates 0 0) (date_in_range dates good.3 0 (omega (arith, good.1))));
      }

  -- every accepted call
  pub call_law :
      (call : Call) → judge (state_of j) call ≡ None →
      Mirrors (asked c0) per (change j call) (ruled (asked c0) per v call)
  call_law (opening dates rate holdings) e = open_law dates rate holdings e
  call_law (advance day) e = advance_law day e
  call_law (transfer from to amount) e = transfer_law from to amount e
  call_law (redemption holder amount) e = redeem_law holder amount e
  call_law posting e = post_law e
  call_law (payment holder) e = pay_law holder e
