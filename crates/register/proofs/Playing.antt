-- The loop that plays a list of calls.
-- Assumes nothing.
use Rattle.std.proofs.Common.{◌≡◌, ℕ, Result, Ok, Err, ◌+◌, ◌<◌, ◌≤◌, min, List, [], ◌∷◌, ◌++◌, map, length, get_or, take, drop, set, sym, refl, ap, ◌∙◌, ⊎_elim, append_assoc, append-nil, arith}
use lib.ListN.{length-map}
use Rattle.std.proofs.lemmas.List.{at_drop_more, take_more_set, map-append, drop-set-lt, drop-drop, drop_all, drop-map, take-append-drop, length-take, get_or-take, get_or-map}
use Rattle.register.specs.declared.call.Call.TheVariants.{Post}
use Rattle.std.proofs.lemmas.Bool.{cases_lt}
use Rattle.days.specs.declared.refusal.Refusal.{Refusal}
use Rattle.register.specs.declared.call.Call.{Call as Made}
use Rattle.register.specs.Calls.{Call, posting}
use Rattle.register.specs.Plain.{plain, played}
use Rattle.register.specs.Rules.{View}
use Rattle.register.specs.Runs.{left_by, said_by, stepped, outcome, run, outcomes, seen_answer}
use Rattle.register.specs.Mirrors.{Follows}

-- a call that follows its rule leaves and answers what the rules say
pub by_rule :
    (count : ℕ → ℕ → ℕ) (per : ℕ) (v v' : View) (call : Call) (r : Result ℕ Refusal) → Follows count per v call v' r →
    (v' ≡ stepped count per v call) × (seen_answer r ≡ outcome count per v call)
by_rule count per v v' call (Ok n) (judged, left, said) = (
  left ∙ sym (ap (left_by count per v call) judged),
  ap Ok said ∙ sym (ap (said_by count per v call) judged),
)
by_rule count per v v' call (Err e) (judged, same) = (
  same ∙ sym (ap (left_by count per v call) judged),
  sym (ap (said_by count per v call) judged),
)

module _ (count : ℕ → ℕ → ℕ) (per : ℕ) (cs : List Call) where
  run_more : (v : View) (i : ℕ) → i < length cs →
      run count per v (drop i cs) ≡ run count per (stepped count per v (get_or cs i posting)) (drop (i + 1) cs)
  unfolding run
  run_more v i less = at_drop_more (run count per v) cs i posting less

  outcomes_more : (v : View) (i : ℕ) → i < length cs →
      outcomes count per v (drop i cs)
      ≡ outcome count per v (get_or cs i posting) ∷ outcomes count per (stepped count per v (get_or cs i posting)) (drop (i + 1) cs)
  unfolding outcomes
  outcomes_more v i less = at_drop_more (outcomes count per v) cs i posting less

  -- one call more
  pub played_more :
      (start v v' : View) (i : ℕ) (call : Call) (before answers : List (Result ℕ Refusal)) (answer : Result ℕ Refusal) → i < length cs → i < length answers →
      call ≡ get_or cs i posting → Follows count per v call v' answer →
      run count per v (drop i cs) ≡ run count per start cs →
      map seen_answer (take i answers) ++ outcomes count per v (drop i cs) ≡ outcomes count per start cs →
      drop i answers ≡ drop i before →
      (run count per v' (drop (i + 1) cs) ≡ run count per start cs)
      × (map seen_answer (take (i + 1) (set answers i answer)) ++ outcomes count per v' (drop (i + 1) cs) ≡ outcomes count per start cs)
      × (drop (i + 1) (set answers i answer) ≡ drop (i + 1) before)
  played_more start v v' i call before answers answer less room is follows runs answered rest =
      let by = by_rule count per v v' call answer follows in
      let there : stepped count per v (get_or cs i posting) ≡ v' = ap (stepped count per v) (sym is) ∙ sym by.0 in
      let told : outcome count per v (get_or cs i posting) ≡ seen_answer answer = ap (outcome count per v) (sym is) ∙ sym by.1 in
      let view : run count per v (drop i cs) ≡ run count per v' (drop (i + 1) cs) = rw there at (run_more v i less) in
      let list : outcomes count per v (drop i cs) ≡ seen_answer answer ∷ outcomes count per v' (drop (i + 1) cs) =
      rw (told, there) at (outcomes_more v i less)
      in
      let front : map seen_answer (take (i + 1) (set answers i answer)) ≡ map seen_answer (take i answers) ++ seen_answer answer ∷ [] =
      ap (map seen_answer) (take_more_set answers i answer room) ∙ map-append seen_answer (take i answers) (answer ∷ [])
      in (
        sym view ∙ runs,
        ap (λ xs. xs ++ outcomes count per v' (drop (i + 1) cs)) front
            ∙ append_assoc (map seen_answer (take i answers)) (seen_answer answer ∷ []) (outcomes count per v' (drop (i + 1) cs))
            ∙ ap (λ xs. map seen_answer (take i answers) ++ xs) (sym list) ∙ answered,
        drop-set-lt (i + 1) answers i answer (omega arith) ∙ sym (drop-drop 1 i answers) ∙ ap (drop 1) rest ∙ drop-drop 1 i before,
      )

  -- and the last
  pub played_all :
      (start v : View) (i : ℕ) (before answers : List (Result ℕ Refusal)) (n : ℕ) → length cs ≤ i → run count per v (drop i cs) ≡ run count per start cs →
      map seen_answer (take i answers) ++ outcomes count per v (drop i cs) ≡ outcomes count per start cs →
      drop i answers ≡ drop i before → drop i before ≡ drop n before →
      (v ≡ run count per start cs)
      × (map seen_answer answers ≡ outcomes count per start cs ++ drop n (map seen_answer before))
  unfolding run outcomes
  played_all start v i before answers n past runs answered rest cut =
      let none = drop_all i cs past in
      let front : map seen_answer (take i answers) ≡ outcomes count per start cs =
      sym (append-nil (map seen_answer (take i answers))) ∙ (rw none at answered)
      in
      let split : map seen_answer answers ≡ map seen_answer (take i answers) ++ map seen_answer (drop i answers) =
      ap (map seen_answer) (sym (take-append-drop i answers)) ∙ map-append seen_answer (take i answers) (drop i answers)
      in (
        rw none at runs,
        split ∙ ap (λ xs. xs ++ map seen_answer (drop i answers)) front
            ∙ ap (λ xs. outcomes count per start cs ++ xs) (ap (map seen_answer) (rest ∙ cut) ∙ sym (drop-map seen_answer n before)),
      )

-- as many calls are played as there is room for
pub played_long : (calls : List Made) (answers : List (Result ℕ Refusal)) → length (played calls answers) ≡ min (length calls) (length answers)
played_long calls answers =
    length-take (length answers) (map plain calls) ∙ omega (arith, length-map calls plain)

pub beyond : {X : Type 0} (n : ℕ) (xs : List X) (i : ℕ) → i ≡ min n (length xs) → drop i xs ≡ drop n xs
beyond n xs i e =
    ⊎_elim (λ (less : n < length xs). let same : i ≡ n = omega arith in rw same refl)
    (λ (past : length xs ≤ n). drop_all i xs (omega arith) ∙ sym (drop_all n xs past)) (cases_lt n (length xs))

pub call_at :
    (calls : List Made) (answers : List (Result ℕ Refusal)) (i : ℕ) → i < length calls → i < length answers →
    plain (get_or calls i Post) ≡ get_or (played calls answers) i posting
call_at calls answers i less room =
    sym (get_or-take (length answers) (map plain calls) i posting room ∙ get_or-map plain calls i Post posting less)
