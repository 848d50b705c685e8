-- The loop keeps `Looking`: no match of the groups before g spans x.
use Rattle.seeding.proofs.Planting.{Looking}
use Rattle.seeding.proofs.spanned.Given as goal

abbrev pub invariant-loop-g : goal.invariant-loop-g
invariant-loop-g l = Looking l.lefts l.rights l.groups l.count l.at l.j l.x l.g
