-- `link_cost` meets its contract: the other row's ends are at or past this one's, and the product is bounded. Assumes
-- nothing.
use Rattle.refinement.specs.declared.Side.TheVariants.{A, B}
use Rattle.linking.proofs.link_cost.Goals as goal

pub overflow_sub-skipped_a : goal.overflow_sub-skipped_a
overflow_sub-skipped_a c =
    c.requires.follows.at_or_past A

pub overflow_sub-skipped_b : goal.overflow_sub-skipped_b
overflow_sub-skipped_b c =
    c.requires.follows.at_or_past B
