-- The matches up to `near` are passed over. Assumes nothing.
use Rattle.near_matches.specs.Near.{Passable}
use Rattle.near_matches.proofs.next_near.Given as goal

abbrev pub invariant-loop-near : goal.invariant-loop-near
invariant-loop-near l = Passable l.lefts l.rights l.lowest l.highest l.k l.near
