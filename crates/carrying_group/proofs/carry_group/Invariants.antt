-- The loop keeps `Going`: only images have come, to the set number `j`. The measure, left: where the set had room, more
-- members are gathered when it is full; where it had none, it has room afterwards.
use lib.ListN as List
use Rattle.cut_set.specs.Store.{Found}
use Rattle.match_columns.specs.Held.{columns_in}
use Rattle.carrying_cuts.specs.Worker.{Images}
use Rattle.shelf.proofs.Filling.{Going, left}
use Rattle.carrying_group.proofs.carry_group.Given as goal

abbrev pub invariant-loop-count : goal.invariant-loop-count
invariant-loop-count l =
    Going (Images (columns_in l.matches) (List.length l.matches.reversed.now) (Found l.initial.work l.from))
    l.sets l.lo l.hi l.j l.initial.work l.initial.book l.work l.book

abbrev pub decreases-loop-count : goal.decreases-loop-count
decreases-loop-count l = left l.sets l.lo l.hi l.j l.book
