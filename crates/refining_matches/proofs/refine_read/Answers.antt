-- `refine_read` meets its contract: with the right ends worked out the columns are Fit, and they hold the matches that
-- were read. Assumes nothing.
use Rattle.refining_matches.proofs.Tabling.{worked-refined}
use Rattle.refining_matches.proofs.refine_read.Goals as goal

pub returns-clause-refined : goal.returns-clause-refined
returns-clause-refined c =
    let a = c.args in
    let ends = c.work_out.ensures in
    worked-refined a.left_a.now a.left_b.now _ a.reversed.now c.requires.fit_read ends.on_a ends.on_b _ a.table.now
    a.work.now c.refine_matches.ensures
