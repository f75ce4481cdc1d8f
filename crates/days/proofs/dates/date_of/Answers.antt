use Rattle.std.proofs.Common.{arith}
use Rattle.days.specs.Calendar.{year_span}
use Rattle.days.proofs.Spans.{start_suc}
use Rattle.days.proofs.Round.{lossless, no_date, date_found}
use Rattle.days.proofs.dates.date_of.Goals as goal

pub returns-then-day-gt-LAST_DAY : goal.returns-then-day-gt-LAST_DAY
returns-then-day-gt-LAST_DAY c =
    record { value = no_date c.args.day c.if-day-gt-LAST_DAY.true; lossless = lossless }

pub month_index-month-requires : goal.month_index-month-requires
month_index-month-requires c =
    rw c.is_leap-leaps.ensures (omega (arith, start_suc year_span c.year_index-index.result))

pub returns : goal.returns
returns c =
    record {
      value =
          date_found c.args.day c.year_index-index.result c.month_index-month.result c.is_leap-leaps.result
          c.days_before_year.result c.days_before_month.result _ _ _ c.if-day-gt-LAST_DAY.false
          c.is_leap-leaps.ensures c.year_index-index.ensures c.days_before_year.ensures
          c.month_index-month.ensures c.days_before_month.ensures (omega arith) (omega arith) (omega arith);
      lossless = lossless;
    }
