-- `put_number` meets its contract: the digits that `io::decimal` writes are the fewest. Assumes nothing.
use borrow.Author.Rules.{rules}
use Rattle.text.proofs.Digits.{fewest-decimal}
use Rattle.text.proofs.Stores.{put_same}
use Rattle.text.proofs.put_number.Goals as goal

pub returns : goal.returns
returns c =
    search (rules, put_same, fewest-decimal)
