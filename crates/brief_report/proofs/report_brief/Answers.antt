-- `report_brief` meets its contract: a refused script is printed as its refusal. Assumes nothing.
use borrow.Author.Rules.{rules}
use Rattle.brief_report.proofs.Trying.{report-refused}
use Rattle.brief_report.proofs.report_brief.Goals as goal

pub returns-in-Err : goal.returns-in-Err
returns-in-Err c =
    search (rules, report-refused)
