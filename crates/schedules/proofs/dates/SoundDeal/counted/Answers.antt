use Rattle.std.proofs.Common.{ℕ, ◌+◌, ◌*◌, ◌<◌, ◌≤◌, arith}
use Rattle.schedules.specs.declared.deal.Deal.{Deal}
use Rattle.schedules.specs.Dates.{Sound, month_number, steps}
use Rattle.schedules.proofs.Counts.{months_rise, step_within}
use Rattle.schedules.proofs.MonthStarts.{month_below}
use Rattle.schedules.proofs.Inners.{counted_back, counted_forward}
use Rattle.schedules.proofs.dates.SoundDeal.counted.Goals as goal

-- the steps stay between the months of start and end
stays :
    (deal : Deal) → Sound deal → (times : ℕ) → times ≤ steps deal →
    (month_number deal.start + times * deal.months ≤ month_number deal.end) × (month_number deal.end < 3600)
stays deal sound times h = (
  omega (arith, step_within deal sound times h, months_rise deal sound),
  month_below deal.end sound.in_range,
)

pub overflow_mul-distance : goal.overflow_mul-distance
overflow_mul-distance c = omega (arith, stays c.args.self.now.deal c.args.self.now.sound c.args.times c.requires)

pub overflow_sub-month : goal.overflow_sub-month
overflow_sub-month c = omega (arith, stays c.args.self.now.deal c.args.self.now.sound c.args.times c.requires)

pub overflow_add-month : goal.overflow_add-month
overflow_add-month c = omega (arith, stays c.args.self.now.deal c.args.self.now.sound c.args.times c.requires)

pub on_day-requires-in-ShortLast : goal.on_day-requires-in-ShortLast
on_day-requires-in-ShortLast c =
    record {
      some = omega arith;
      within = omega (arith, stays c.args.self.now.deal c.args.self.now.sound c.args.times c.requires);
    }

pub returns-in-ShortFirst : goal.returns-in-ShortFirst
returns-in-ShortFirst c =
    counted_back c.args.self.now.deal c.args.times _ _ _ c.in-ShortFirst.is (omega arith)
    c.month_and_day-month.ensures.day c.on_day.ensures

pub returns-in-ShortLast : goal.returns-in-ShortLast
returns-in-ShortLast c =
    counted_forward c.args.self.now.deal c.args.times _ _ _ c.in-ShortLast.is (omega arith)
    c.month_and_day-month-in-ShortLast.ensures.day c.on_day-in-ShortLast.ensures
