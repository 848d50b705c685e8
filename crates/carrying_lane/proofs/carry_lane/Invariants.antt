-- The loop keeps `Going`: the groups before g are done.
use Rattle.match_columns.specs.Held.{columns_in}
use Rattle.tracks.specs.Groups.{lane_by}
use Rattle.carrying_lane.proofs.Lanes.{Going}
use Rattle.carrying_lane.proofs.carry_lane.Given as goal

abbrev pub invariant-loop-g : goal.invariant-loop-g
invariant-loop-g l =
    Going (lane_by (columns_in l.matches) l.groups l.count l.from_at l.to_at) l.groups l.from_book l.count l.sets l.lo l.hi
    l.initial.work l.initial.book l.hits l.most l.g l.work l.book l.total
