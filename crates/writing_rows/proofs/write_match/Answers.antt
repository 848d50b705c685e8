-- The loop over the cuts of one match keeps `Remaining`: what is written and what remains make the rows of the match.
-- Assumes nothing.
use Rattle.writing_rows.proofs.Placing.{remaining-stretch, remaining-room}
use Rattle.writing_rows.proofs.Placing.{remaining-step, remaining-end}
use Rattle.writing_rows.proofs.write_match.Goals as goal

pub write_piece-requires-clause-stretch : goal.write_piece-requires-clause-stretch
write_piece-requires-clause-stretch c =
    remaining-stretch c.loop-at.invariant c.loop-at-test.true

pub loop-at-preserved : goal.loop-at-preserved
loop-at-preserved c =
    remaining-step c.loop-at.invariant c.loop-at-test.true c.write_piece.ensures

pub returns : goal.returns
returns c =
    remaining-end c.loop-at.invariant c.loop-at-test.false

pub write_piece-requires-clause-row_width_in_bounds : goal.write_piece-requires-clause-row_width_in_bounds
write_piece-requires-clause-row_width_in_bounds c =
    remaining-room c.loop-at.invariant c.loop-at-test.true
