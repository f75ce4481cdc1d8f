use Rattle.std.proofs.Common.{◌≡◌, ℕ, ◌+◌, ◌<◌, List, ◌∷◌, ◌++◌, length, get_or, take, drop, sym, ap, ◌∙◌, arith}
use Rattle.std.proofs.lemmas.List.{take-append-drop, take_rest, drop_more, get_or-take, length-take-le}
use Rattle.text.specs.Cuts.{Splits}
use Rattle.text.proofs.LineCuts.{without_from}
use Rattle.text.proofs.finding.split_once.Goals as goal

first_found :
    (b : ℕ) (xs : List ℕ) (i : ℕ) → i < length xs → get_or xs i 0 ≡ b → ((k : ℕ) → k < i → get_or xs k 0 ≡ b → ⊥) →
    Splits b xs (take i xs) (drop (i + 1) xs)
first_found b xs i inside found before =
    record {
      joins = sym (take-append-drop i xs) ∙ ap (λ ys. take i xs ++ ys) (drop_more xs i 0 inside ∙ ap (λ c. c ∷ drop (i + 1) xs) found);
      clean = without_from b (take i xs) (λ k less e.
          let near : k < i = omega (arith, length-take-le i xs (omega arith)) in
          before k near (sym (get_or-take i xs k 0 near) ∙ e));
    }

pub returns : goal.returns
returns c =
    let found = c.first_place-end.ensures in
    let inside : c.first_place-end.result < length c.args.bytes.now = omega arith in
    rw take_rest (first_found c.args.byte c.args.bytes.now c.first_place-end.result inside (found.found inside) found.before)

pub returns-then-end-bytes : goal.returns-then-end-bytes
returns-then-end-bytes c =
    let before = c.first_place-end.ensures.before in
    without_from c.args.byte c.args.bytes.now (λ k less. before k (omega (arith, c.if-end-bytes.true)))
