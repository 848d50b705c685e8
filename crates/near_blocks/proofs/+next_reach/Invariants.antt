-- The cycle of calls {next_reach} ends: the measure is how many numbers the level has, and the one above has fewer.
-- Assumes nothing.
use Rattle.near_blocks.proofs.+next_reach.Given as goal

abbrev pub decreases-next_reach : goal.decreases-next_reach
decreases-next_reach l = l.count
