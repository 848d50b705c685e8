-- `put_field` meets its contract: the byte stands behind the number's digits. Assumes nothing.
use native.Mathlib.Omega.{arith}
use borrow.Author.Rules.{rules}
use Rattle.text.proofs.Digits.{decimal-short}
use Rattle.text.proofs.Stores.{put_then}
use Rattle.row_lines.proofs.put_field.Goals as goal

pub put_byte-requires : goal.put_byte-requires
put_byte-requires c =
    omega (arith, decimal-short c.args.number)

pub returns-clause-put : goal.returns-clause-put
returns-clause-put c =
    search (rules, put_then)

pub returns-clause-upper_bound : goal.returns-clause-upper_bound
returns-clause-upper_bound c =
    omega (arith, decimal-short c.args.number)
