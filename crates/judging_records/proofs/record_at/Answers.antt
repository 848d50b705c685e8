-- `record_at` meets its contract: the record has its four numbers in the list. Assumes nothing.
use mathlib.Core.Path.{sym}
use Rattle.records.proofs.Lists.{record-held}
use borrow.Author.Rules.{rules}
use Rattle.judging_records.proofs.record_at.Goals as goal

pub returns : goal.returns
returns c =
    sym (record-held _ _ (search rules))
