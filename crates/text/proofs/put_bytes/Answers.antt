-- `put_bytes` meets its contract: the loop has stored the first k bytes. Assumes nothing.
use Rattle.text.proofs.Stores.{stored_next}
use borrow.Author.Rules.{rules}
use Rattle.text.proofs.put_bytes.Goals as goal

pub loop-k-preserved : goal.loop-k-preserved
loop-k-preserved c =
    search (rules, stored_next)
