-- `put_entry` meets its contract: the number stands behind the word. Assumes nothing.
use borrow.Author.Rules.{rules}
use Rattle.text.proofs.Stores.{put_then}
use Rattle.lines.proofs.put_entry.Goals as goal

pub returns : goal.returns
returns c =
    search (rules, put_then)
