-- The loop keeps `Planting`: the marks before q are planted.
use Rattle.seeding.proofs.Planting.{Planting}
use Rattle.seeding.proofs.plant.Given as goal

abbrev pub invariant-loop-q : goal.invariant-loop-q
invariant-loop-q l = Planting l.lefts l.rights l.groups l.count l.at l.mark_tracks l.mark_positions l.sets l.lo l.hi l.initial.work l.initial.book l.q l.work l.book
