use Rattle.outside.proofs.Cuts.{leads_at, spells_at, two_led, three_led, four_led}
use Rattle.outside.proofs.Dates.{date_is, dated_day_is}
use Rattle.outside.proofs.reading.read_dated_day.Goals as goal

pub returns-in_err-number : goal.returns-in_err-number
returns-in_err-number c = rw c.from_residual.ensures (λ x l. c.in_err-number.ensures.found _ _ l.number)

pub returns-in_err-year : goal.returns-in_err-year
returns-in_err-year c =
    rw c.from_residual-in_err-year.ensures
    (λ x l.
    let led = c.in_ok-number.ensures.found _ _ l.number in
    c.in_err-year.ensures.found _ _ (leads_at led.1 l.year))

pub returns-in_err-month : goal.returns-in_err-month
returns-in_err-month c =
    rw c.from_residual-in_err-month.ensures
    (λ x l.
    let led = two_led c.in_ok-number.ensures.found c.in_ok-year.ensures.found l.number l.year in
    c.in_err-month.ensures.found _ _ (leads_at led.2 l.month))

pub returns-in_err-day : goal.returns-in_err-day
returns-in_err-day c =
    rw c.from_residual-in_err-day.ensures
    (λ x l.
    let led = three_led c.in_ok-number.ensures.found c.in_ok-year.ensures.found c.in_ok-month.ensures.found l.number l.year l.month in
    c.in_err-day.ensures.found _ _ (leads_at led.3 l.day))

pub returns-in_err-weekday : goal.returns-in_err-weekday
returns-in_err-weekday c =
    rw c.from_residual-in_err-weekday.ensures
    (λ x l.
    let led = four_led c.in_ok-number.ensures.found c.in_ok-year.ensures.found c.in_ok-month.ensures.found c.in_ok-day.ensures.found l.number l.year l.month l.day in
    c.in_err-weekday.ensures _ (spells_at led.4 l.weekday))

pub returns : goal.returns
returns c = (
  record {
    after_number = c.in_ok-number.rest.now;
    after_year = c.in_ok-year.rest.now;
    after_month = c.in_ok-month.rest.now;
    after_day = c.in_ok-day.rest.now;
    number = c.in_ok-number.ensures.only;
    year = c.in_ok-year.ensures.only;
    month = c.in_ok-month.ensures.only;
    day = c.in_ok-day.ensures.only;
    weekday = c.in_ok-weekday.ensures.0;
  },
  λ x l.
      let led = four_led c.in_ok-number.ensures.found c.in_ok-year.ensures.found c.in_ok-month.ensures.found c.in_ok-day.ensures.found l.number l.year l.month l.day in
      dated_day_is x _ _ _ led.0 (date_is x.date _ _ _ led.1 led.2 led.3) (c.in_ok-weekday.ensures.1 _ (spells_at led.4 l.weekday)),
)
