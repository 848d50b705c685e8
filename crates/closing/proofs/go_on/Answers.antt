-- `go_on` meets its contract: `drive` does all, with indexes of the groups or with none. Assumes nothing.
use Rattle.tracks.specs.Tracks.{marks_of}
use Rattle.closing.proofs.go_on.Goals as goal

pub returns-then-indexable : goal.returns-then-indexable
returns-then-indexable c =
    let a = c.args in
    c.drive.ensures (marks_of a.mark_tracks.now a.mark_positions.now) c.requires.driving

pub returns : goal.returns
returns c =
    let a = c.args in
    c.drive-2.ensures (marks_of a.mark_tracks.now a.mark_positions.now) c.requires.driving

pub drive-requires-clause-driven : goal.drive-requires-clause-driven
drive-requires-clause-driven c =
    let a = c.args in
    (marks_of a.mark_tracks.now a.mark_positions.now, c.requires.driving)
