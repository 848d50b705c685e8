-- None of the matches looked at reaches into the stretch, unless `any` says that one does. Assumes nothing.
use Rattle.near_matches.proofs.Passable.{Sifted}
use Rattle.near_matches.proofs.any_near.Given as goal

abbrev pub invariant-loop-at : goal.invariant-loop-at
invariant-loop-at l = Sifted l.lefts l.rights l.lowest l.highest l.k l.any l.at
