use Rattle.report.specs.Parts.{closed_by}
use Rattle.report.proofs.ReportLaws.{report_law}
use Rattle.report.proofs.Reporting.{of_the_lines}
use Rattle.report.proofs.ledger.Ledger.report.Goals as goal

pub returns-in-Some-clause-law : goal.returns-in-Some-clause-law
returns-in-Some-clause-law c = λ ls deal is there. report_law (closed_by ls) deal

pub returns-in-None-clause-rule : goal.returns-in-None-clause-rule
returns-in-None-clause-rule c =
    of_the_lines c.args.self.now.refused c.args.self.now.lines.now c.args.deal c.args.out.now _ _ c.in-None.is
    c.report_if_any.ensures.rule

pub returns-in-None-clause-law : goal.returns-in-None-clause-law
returns-in-None-clause-law c = λ ls deal is there. report_law (closed_by ls) deal
