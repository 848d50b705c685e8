-- `begin` meets its contract: the first cuts are sown, and the first step begins with them. Assumes nothing.
use mathlib.Core.Path.{sym}
use Rattle.match_columns.specs.Held.{columns_in}
use Rattle.tracks.specs.Tracks.{marks_of}
use Rattle.driving.proofs.Drives.{going-driving}
use Rattle.beginning.proofs.Beginning.{sown-open, no-hits}
use Rattle.beginning.proofs.begin.Goals as goal

pub a_step-requires-clause-opened : goal.a_step-requires-clause-opened
a_step-requires-clause-opened c =
    let a = c.args in
    let begun = rw c.if-not-sow_all.false at c.sow_all.ensures in
    (marks_of a.mark_tracks.now a.mark_positions.now, rw (sym no-hits) begun)

pub returns : goal.returns
returns c =
    let a = c.args in
    let begun = sown-open _ _ _ _ _ _ _ c.if-not-sow_all.false c.sow_all.ensures in
    let marks = marks_of a.mark_tracks.now a.mark_positions.now in
    going-driving
    (columns_in a.grouped.now.matches) a.grouped.now.groups.now
    a.grouped.now.count a.grouped.now.sets a.capacity _ _ _ _ marks c.a_step.result
    (c.a_step.ensures marks (rw (sym no-hits) begun))
