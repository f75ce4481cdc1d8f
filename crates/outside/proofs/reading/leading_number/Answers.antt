use Rattle.outside.proofs.Cuts.{not_led, led_by}
use Rattle.outside.proofs.reading.leading_number.Goals as goal

pub returns-in_err-word-clause-found : goal.returns-in_err-word-clause-found
returns-in_err-word-clause-found c = rw c.from_residual.ensures (not_led c.args.text.now c.in_err-word.ensures.cases)

pub returns-in_err-number-clause-found : goal.returns-in_err-number-clause-found
returns-in_err-number-clause-found c =
    rw c.from_residual-in_err-number.ensures
    (λ n rest l. c.in_err-number.ensures n (led_by c.args.text.now (c.in_ok-word.word, c.in_ok-word.rest) c.in_ok-word.ensures.cases n rest l).0)

pub returns-clause-found : goal.returns-clause-found
returns-clause-found c = λ n rest l.
    let led = led_by c.args.text.now (c.in_ok-word.word, c.in_ok-word.rest) c.in_ok-word.ensures.cases n rest l in
    (c.in_ok-number.ensures.1 n led.0, led.1)
