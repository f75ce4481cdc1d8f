use Rattle.std.proofs.Common.{◌≡◌, ◌+◌, ◌-◌, ◌++◌, length, take, drop, refl, ap, ◌∙◌, arith}
use Rattle.writing.proofs.Fitting.{fitting_longest}
use Rattle.writing.proofs.Lays.{placed, laid_line, laid_too_long}
use Rattle.writing.proofs.laying.lay.Goals as goal

pub returns-then-text-out-clause-laid : goal.returns-then-text-out-clause-laid
returns-then-text-out-clause-laid c =
    let long = ap length c.bytes-text.ensures.value in
    laid_too_long c.args.line.now c.args.out.now c.args.out.now c.args.at _ (omega arith) refl refl

pub returns-then-text-out-clause-longest : goal.returns-then-text-out-clause-longest
returns-then-text-out-clause-longest c = fitting_longest

pub returns-clause-laid : goal.returns-clause-laid
returns-clause-laid c =
    let text = c.args.line.now in
    let out = c.args.out.now in
    let at = c.args.at in
    let start = c.min-start.result in
    let is = c.bytes-text.ensures.value in
    let len = length c.bytes-text.result.now in
    let long : len ≡ length text = ap length is in
    let many : start + len - start ≡ length text = omega arith in
    laid_line text out _ at (at + len) (omega arith)
    (ap (λ t. take start out ++ (t ++ drop (start + len - start) (drop start out))) (c.copy_from_slice.ensures.after ∙ is)
    ∙ ap (λ n. take start out ++ (text ++ drop n (drop start out))) many
    ∙ placed out text at start c.min-start.ensures (omega arith))
    (omega arith)

pub returns-clause-longest : goal.returns-clause-longest
returns-clause-longest c = fitting_longest
