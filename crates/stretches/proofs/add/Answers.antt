-- What is left of the stretch has letters.
-- Assumes nothing.
use native.Mathlib.Omega.{arith}
use Rattle.stretches.proofs.Adding.{added-one}
use Rattle.stretches.proofs.add.Goals as goal

pub returns : goal.returns
returns c =
    added-one c.requires.held c.args.stretch c.max-low.ensures c.min-high.ensures c.requires.used_in_bounds
    (omega arith)
