-- The loop keeps `CutsPassed`. Assumes nothing.
use Rattle.match_columns.specs.Held.{columns_in}
use Rattle.carrying_few.proofs.CutByCut.{CutsPassed}
use Rattle.carrying_few.proofs.carry_few.Given as goal

abbrev pub invariant-loop-at : goal.invariant-loop-at
invariant-loop-at l = CutsPassed (columns_in l.matches) l.initial.work l.from l.initial.held.to l.hits l.most l.at-end l.work l.held.to l.held.hits l.at
