-- The letters under the first k stretches are summed up.
-- Assumes nothing.
use Rattle.stretches.proofs.Summing.{Summing}
use Rattle.stretches.proofs.count.Given as goal

abbrev pub invariant-loop-k : goal.invariant-loop-k
invariant-loop-k l = Summing l.lows l.highs l.letters l.reach l.k
