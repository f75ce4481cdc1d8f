use Rattle.std.proofs.Common.{◌≡◌, [], ◌∷◌, ◌++◌, ◌+◌, ◌%◌, take, sym, ap, ◌∙◌, arith}
use Rattle.std.proofs.lemmas.Fmt.{decimal_digit}
use Rattle.writing.proofs.Numerals.{number_last}
use Rattle.writing.proofs.draft.Draft.+digits.Goals as goal
use Rattle.writing.proofs.draft.Draft.+digits.Goals.{then-n-gt9, else-n-gt9}

pub returns : goal.returns
returns t c =
    let n = c.args.n in
    let text = c.args.self.now in
    elim c.if-n-gt9.branch [
      | then-n-gt9 w ↦
          c.push.ensures ∙ ap (λ s. take 128 (s ++ ((48 + n % 10) ∷ []))) w.self-is
          ∙ number_last n text w.digits.new.self (omega arith) c.ranges.n.fits w.digits.ensures
      | else-n-gt9 w ↦
          let digit : n % 10 ≡ n = omega arith in
          c.push.ensures ∙ ap (λ s. take 128 (s ++ ((48 + n % 10) ∷ []))) w.self-is
          ∙ ap (λ k. take 128 (text ++ ((48 + k) ∷ []))) digit
          ∙ ap (λ l. take 128 (text ++ l)) (sym (decimal_digit n (omega arith)))
    ]
