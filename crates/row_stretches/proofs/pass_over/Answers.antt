-- The arrays keep their lengths, and each row is taken in.
-- Assumes nothing.
use mathlib.Core.Path.{refl, ◌∙◌}
use native.Mathlib.Omega.{arith}
use Rattle.row_stretches.proofs.Gathering.{passing-starts}
use Rattle.row_stretches.proofs.Gathering.{passing-more}
use Rattle.row_stretches.proofs.pass_over.Goals as goal

pub loop-k-init : goal.loop-k-init
loop-k-init c =
    let passing = passing-starts _ _ _ _ c.requires.rooms.as_many c.requires.from_lt_to.0 c.requires.from_lt_to.1 in
    (record { low = refl; high = refl }, passing)

pub loop-k-preserved : goal.loop-k-preserved
loop-k-preserved c =
    let room = c.loop-k.invariant.0 in
    let kept = c.take_in-pass.auto in (
      record { low = kept.lows ∙ room.low; high = kept.highs ∙ room.high },
      passing-more c.loop-k.invariant.1 (omega arith) c.stretch_at-next.ensures c.take_in-pass.ensures,
    )
