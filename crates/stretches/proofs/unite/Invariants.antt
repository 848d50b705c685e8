-- The first k stretches are united.
-- Assumes nothing.
use Rattle.stretches.proofs.Uniting.{Uniting}
use Rattle.stretches.proofs.unite.Given as goal

abbrev pub invariant-loop-k : goal.invariant-loop-k
invariant-loop-k l = Uniting l.initial.lows l.initial.highs l.lows l.highs l.used l.k
