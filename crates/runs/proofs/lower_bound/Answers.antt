-- `runs::lower_bound` meets its contract. The invariant: all numbers before `at` are less than x, and all
-- from `at + size` on are not. The measure is `size`.
-- Assumes nothing.
use native.Mathlib.Omega.{arith}
use Rattle.runs.proofs.Searching.{bracket-quarters}
use borrow.Author.Rules.{rules}
use Rattle.runs.proofs.lower_bound.Goals as goal

pub loop-size-preserved : goal.loop-size-preserved
loop-size-preserved c =
    bracket-quarters (search rules) c.loop-size.invariant (omega arith) (omega arith) c.stride-first.ensures
    c.stride-second.ensures c.stride-third.ensures
