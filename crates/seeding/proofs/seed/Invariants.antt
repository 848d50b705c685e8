-- The loop keeps `Sown`: the ends of the first k matches are added.
use Rattle.seeding.proofs.Seeds.{Sown}
use Rattle.seeding.proofs.seed.Given as goal

abbrev pub invariant-loop-k : goal.invariant-loop-k
invariant-loop-k l = Sown l.left_a l.right_a l.initial.work l.initial.a l.k l.work l.a
