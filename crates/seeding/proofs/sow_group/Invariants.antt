-- The loop keeps `Going`: only ends have come, to the set number `j`.
use lib.ListN as List
use Rattle.shelf.proofs.Filling.{Going, left}
use Rattle.seeding.specs.Seeds.{EndOf}
use Rattle.seeding.proofs.sow_group.Given as goal

abbrev pub invariant-loop-sets : goal.invariant-loop-sets
invariant-loop-sets l = Going (EndOf l.lefts l.rights (List.length l.lefts)) l.sets l.lo l.hi l.j l.initial.work l.initial.book l.work l.book

abbrev pub decreases-loop-sets : goal.decreases-loop-sets
decreases-loop-sets l = left l.sets l.lo l.hi l.j l.book
