-- The loop over the matches keeps `Done`: the rows of the matches so far are written. The cuts that a match spans stand
-- between the lower bounds of its ends. Assumes nothing.
use Rattle.writing_rows.proofs.Placing.{done-start, done-cuts, done-room}
use Rattle.writing_rows.proofs.Placing.{done-step}
use Rattle.writing_rows.proofs.write_rows.Goals as goal

pub loop-k-init : goal.loop-k-init
loop-k-init c =
    done-start c.args.matches.now.fit c.requires

pub write_match-row-requires-clause-cutting : goal.write_match-row-requires-clause-cutting
write_match-row-requires-clause-cutting c =
    done-cuts c.loop-k.invariant c.loop-k-test.true c.lower_bound-first.ensures c.lower_bound-last.ensures

pub loop-k-preserved : goal.loop-k-preserved
loop-k-preserved c =
    done-step c.loop-k.invariant c.loop-k-test.true c.lower_bound-first.ensures
    c.lower_bound-last.ensures c.write_match-row.ensures

pub write_match-row-requires-clause-work_in_bounds : goal.write_match-row-requires-clause-work_in_bounds
write_match-row-requires-clause-work_in_bounds c =
    done-room c.loop-k.invariant c.loop-k-test.true c.lower_bound-first.ensures c.lower_bound-last.ensures
