-- `put_entry` meets its contract. Assumes nothing.
use native.Mathlib.Omega.{arith}
use Rattle.text.proofs.Digits.{decimal-short}
use Rattle.text.proofs.Stores.{put_then}
use Rattle.edge_answers.proofs.put_entry.Goals as goal

pub returns-clause-put : goal.returns-clause-put
returns-clause-put c =
    put_then c.put_bytes-next.ensures c.put_number.ensures

pub returns-clause-upper_bound : goal.returns-clause-upper_bound
returns-clause-upper_bound c =
    omega (arith, c.put_bytes-next.ensures, decimal-short c.args.number)
