use Rattle.outside.proofs.Judged.{judged}
use Rattle.outside.proofs.source.Source.judge.Goals as goal

pub returns-in-Easter : goal.returns-in-Easter
returns-in-Easter c =
    rw c.in-Easter.is (judged c.read_date.result _ c.read_date.ensures c.judge_figure.ensures)

pub returns-in-Dates : goal.returns-in-Dates
returns-in-Dates c = rw c.in-Dates.is (judged c.read_dated_day.result _ c.read_dated_day.ensures c.judge_figure-in-Dates.ensures)

pub returns-in-NoDates : goal.returns-in-NoDates
returns-in-NoDates c = rw c.in-NoDates.is (judged c.read_date-in-NoDates.result _ c.read_date-in-NoDates.ensures c.judge_figure-in-NoDates.ensures)
