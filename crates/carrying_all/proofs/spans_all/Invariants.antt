-- What is left decides, and the remainder is what is behind its last whole block.
use mathlib.Core.Path.{◌≡◌}
use Rattle.std.specs.Slice.Iter.{chunks_exact_rest, chunks_exact_size, chunks_exact_remainder}
use Rattle.refinement.specs.Match.{between}
use Rattle.positions.specs.CarryingAll.{every}
use Rattle.carrying_all.proofs.Loops.{behind_blocks}
use Rattle.carrying_all.proofs.spans_all.Given as goal

abbrev pub invariant-loop-block : goal.invariant-loop-block
invariant-loop-block l = record {
  sized : chunks_exact_size l.block-iterator ≡ 64;
  decides : every (between l.left l.right) l.positions
      ≡ every (between l.left l.right) (chunks_exact_rest l.block-iterator);
  behind : chunks_exact_remainder l.block-iterator ≡ behind_blocks (chunks_exact_rest l.block-iterator);
  kept : l.rest ≡ chunks_exact_remainder l.block-iterator;
}
