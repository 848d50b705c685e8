-- `report` meets its contract: the text of a small table where that is enough, and else that of the large one.
-- Assumes nothing.
use Rattle.report.proofs.Answers.{brief-reported, large-reported}
use Rattle.report.proofs.report.Goals as goal

pub returns-in-Answered-clause-line_two : goal.returns-in-Answered-clause-line_two
returns-in-Answered-clause-line_two c =
    (brief-reported c.args.script.now c.args.text.now _ c.in-Answered.is c.report_brief.ensures).1.1

pub returns-in-Larger-clause-line_two : goal.returns-in-Larger-clause-line_two
returns-in-Larger-clause-line_two c =
    (large-reported c.args.script.now c.args.text.now _ c.in-Larger.is c.report_brief.ensures
    c.report_admitted.ensures).1.1
