-- `fill` meets its contract. Whatever a sample has gathered are rows of the span, and so is what is left of it once the
-- span is cut; the last pass looks at every row, so that no piece of the span is missing. Assumes nothing.
use mathlib.Core.Path.{refl}
use Rattle.piece_windows.proofs.Gathering.{gathered-starts}
use Rattle.piece_windows.proofs.Parts.{cut-front}
use Rattle.piece_windows.proofs.fill.Goals as goal

pub gather-requires-clause-gathered : goal.gather-requires-clause-gathered
gather-requires-clause-gathered c =
    gathered-starts _ _ _ refl

pub gather-sample-requires-clause-gathered : goal.gather-sample-requires-clause-gathered
gather-sample-requires-clause-gathered c =
    gathered-starts _ _ _ refl

pub gather-requires-2-clause-gathered : goal.gather-requires-2-clause-gathered
gather-requires-2-clause-gathered c = cut-front c.gather-sample.ensures.gathered c.make_room-cut.ensures
