use Rattle.std.proofs.Common.{◌≡◌, ◌+◌, ◌-◌, get_or, sym, ap, ◌∙◌, arith}
use Rattle.schedules.specs.Dates.{counted, dates}
use Rattle.schedules.specs.declared.deal.Stub.TheVariants.{ShortFirst, ShortLast}
use Rattle.schedules.proofs.Inners.{inside, inner_length, inside_few, date_first, date_last, date_placed}
use Rattle.schedules.proofs.Gaps.{inside_most}
use Rattle.schedules.proofs.dates.SoundDeal.date_at.Goals as goal

pub returns-then-index-eq0 : goal.returns-then-index-eq0
returns-then-index-eq0 c =
    let deal = c.args.self.now.deal in
    sym (ap (λ j. get_or (dates deal) j 0) (omega arith) ∙ date_first deal c.args.self.now.sound)

pub returns-then-index-inside : goal.returns-then-index-inside
returns-then-index-inside c =
    let deal = c.args.self.now.deal in
    let long = inner_length deal c.args.self.now.sound in
    sym (ap (λ j. get_or (dates deal) j 0) (omega arith) ∙ date_last deal c.args.self.now.sound)

pub overflow_add-inside : goal.overflow_add-inside
overflow_add-inside c =
    let deal = c.args.self.now.deal in omega (arith, inner_length deal c.args.self.now.sound, inside_most deal c.args.self.now.sound)

pub counted-requires : goal.counted-requires
counted-requires c =
    let deal = c.args.self.now.deal in
    omega (arith, inner_length deal c.args.self.now.sound, inside_few deal c.args.self.now.sound)

pub counted-requires-in-ShortLast : goal.counted-requires-in-ShortLast
counted-requires-in-ShortLast c =
    let deal = c.args.self.now.deal in
    omega (arith, inner_length deal c.args.self.now.sound, inside_few deal c.args.self.now.sound)

pub returns-in-ShortFirst : goal.returns-in-ShortFirst
returns-in-ShortFirst c =
    let deal = c.args.self.now.deal in
    let long = inner_length deal c.args.self.now.sound in
    let same : c.args.inside ≡ inside deal = omega arith in
    date_placed deal c.args.self.now.sound ShortFirst c.args.index _ c.in-ShortFirst.is (omega arith) (omega arith)
    (c.counted.ensures ∙ ap (λ i. counted deal (i + 1 - c.args.index)) same)

pub returns-in-ShortLast : goal.returns-in-ShortLast
returns-in-ShortLast c =
    let deal = c.args.self.now.deal in
    let long = inner_length deal c.args.self.now.sound in
    date_placed deal c.args.self.now.sound ShortLast c.args.index _ c.in-ShortLast.is (omega arith) (omega arith)
    c.counted-in-ShortLast.ensures
