use Rattle.std.proofs.Common.{◌+◌, arith}
use Rattle.text.proofs.Digits.{grown, below_eleven}
use Rattle.text.proofs.words.digits_value.Goals as goal

pub overflow_mul-value : goal.overflow_mul-value
overflow_mul-value c =
    let i = c.loop-byte.byte-index in
    let more = grown c.args.radix c.loop-byte.value i 0 c.loop-byte.invariant.1 (omega (arith, c.requires.two)) in
    rw c.from-in-loop-byte.ensures
    (omega (arith, more, below_eleven c.args.radix (i + 1) c.requires.ten (omega (arith, c.requires.few))))

pub overflow_add-value : goal.overflow_add-value
overflow_add-value c =
    let i = c.loop-byte.byte-index in
    let digit = c.in_ok-digit.ensures.value in
    let more = grown c.args.radix c.loop-byte.value i c.in_ok-digit.digit c.loop-byte.invariant.1 (omega (arith, digit)) in
    rw (c.from-in-loop-byte.ensures, c.from-in-loop-byte-2.ensures)
    (omega (arith, more, below_eleven c.args.radix (i + 1) c.requires.ten (omega (arith, c.requires.few))))
