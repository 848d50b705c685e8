-- The cycle of calls {raise} ends: the measure is how many numbers the level has, and the one above has fewer.
-- Assumes nothing.
use Rattle.indexing.proofs.+raise.Given as goal

abbrev pub decreases-raise : goal.decreases-raise
decreases-raise l = l.count
