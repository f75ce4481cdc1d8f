use Rattle.outside.proofs.Cuts.{leads_at, spells_at, two_led}
use Rattle.outside.proofs.Dates.{date_is}
use Rattle.outside.proofs.reading.read_date.Goals as goal

pub returns-in_err-year : goal.returns-in_err-year
returns-in_err-year c = rw c.from_residual.ensures (λ date l. c.in_err-year.ensures.found _ _ l.year)

pub returns-in_err-month : goal.returns-in_err-month
returns-in_err-month c =
    rw c.from_residual-in_err-month.ensures
    (λ date l.
    let led = c.in_ok-year.ensures.found _ _ l.year in
    c.in_err-month.ensures.found _ _ (leads_at led.1 l.month))

pub returns-in_err-day : goal.returns-in_err-day
returns-in_err-day c =
    rw c.from_residual-in_err-day.ensures
    (λ date l.
    let led = two_led c.in_ok-year.ensures.found c.in_ok-month.ensures.found l.year l.month in
    c.in_err-day.ensures _ (spells_at led.2 l.day))

pub returns : goal.returns
returns c = (
  record {
    after_year = c.in_ok-year.rest.now;
    after_month = c.in_ok-month.rest.now;
    year = c.in_ok-year.ensures.only;
    month = c.in_ok-month.ensures.only;
    day = c.in_ok-day.ensures.0;
  },
  λ date l.
      let led = two_led c.in_ok-year.ensures.found c.in_ok-month.ensures.found l.year l.month in
      date_is date _ _ _ led.0 led.1 (c.in_ok-day.ensures.1 _ (spells_at led.2 l.day)),
)
