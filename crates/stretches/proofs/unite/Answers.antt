-- A stretch that touches the last one makes it longer, and another is written behind it.
-- Assumes nothing.
use mathlib.Core.Path.{refl}
use native.Mathlib.Omega.{arith}
use Rattle.stretches.proofs.Uniting.{uniting-joined, uniting-apart}
use Rattle.stretches.proofs.unite.Goals as goal
use Rattle.stretches.proofs.unite.Goals.{then-low-highs, else-low-highs}

pub loop-k-preserved : goal.loop-k-preserved
loop-k-preserved c =
    elim c.if-low-highs.branch [
      | then-low-highs w ↦
          rw (w.lows-is, w.highs-is, w.used-is)
          (uniting-joined c.requires.paired c.loop-k.invariant (omega arith) refl (omega arith))
      | else-low-highs w ↦
          rw (w.lows-is, w.highs-is, w.used-is)
          (uniting-apart c.requires.paired c.loop-k.invariant (omega arith) refl refl (omega arith))
    ]
