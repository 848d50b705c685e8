-- `want` meets its contract. The loop keeps `Flagging`: the flags of the groups before g are set. Assumes nothing.
use Rattle.seeding.proofs.Wanting.{Flagging}
use Rattle.seeding.proofs.want.Given as goal

abbrev pub invariant-loop-g : goal.invariant-loop-g
invariant-loop-g l = Flagging l.groups l.count l.at l.initial.wanted l.g l.wanted
