-- What is written of one match and what remains.
use Prim.Native.Nat.{◌-◌}
use Rattle.refinement.specs.Match.{match_ab}
use Rattle.writing_rows.proofs.Placing.{Remaining}
use Rattle.writing_rows.proofs.write_match.Given as goal

abbrev pub invariant-loop-at : goal.invariant-loop-at
invariant-loop-at l =
    Remaining (match_ab l.number l.left_a l.left_b (l.right_b - l.left_b) l.reversed) l.right_b l.work l.first l.last l.row l.initial.table l.table l.at
    l.next
