-- `judge_both` meets its contract: a fault of the records, or what the marks come to. Assumes nothing.
use mathlib.Core.Path.{sym}
use Rattle.records.proofs.Lists.{records-length}
use Rattle.judging_records.proofs.Each.{records-good}
use Rattle.judging_records.proofs.judge_both.Goals as goal

pub returns : goal.returns
returns c =
    let a = c.args in
    records-good a.p a.q a.records.now a.marks.now c.judge_each.ensures c.in_ok-judge_each.was
    (sym (records-length a.records.now)) c.judge_marks.ensures
