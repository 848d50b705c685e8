-- The loop keeps `Sowing`: the ends of the matches of the groups before g are added.
use Rattle.seeding.proofs.Sowing.{Sowing}
use Rattle.seeding.proofs.sow_groups.Given as goal

abbrev pub invariant-loop-g : goal.invariant-loop-g
invariant-loop-g l = Sowing l.lefts l.rights l.groups l.count l.at l.sets l.lo l.hi l.initial.work l.initial.book l.g l.work l.book
