-- `sliding::spread` meets its contract: one set more moves up to those behind it. Assumes nothing.
use Prim.Native.Nat.{◌-◌}
use Rattle.sliding.proofs.Sliding.{spreading-step}
use borrow.Author.Rules.{rules}
use Rattle.sliding.proofs.spread.Goals as goal

pub loop-u-preserved : goal.loop-u-preserved
loop-u-preserved c =
    spreading-step (c.loop-u.u - 1) (search rules) c.loop-u.invariant c.load-s.ensures
    c.leave.ensures (search rules) c.move_to.ensures
