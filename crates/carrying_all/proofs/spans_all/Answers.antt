-- A block on the match leaves what is behind it to decide.
-- Assumes nothing.
use mathlib.Core.Path.{sym, ◌∙◌}
use borrow.Author.Rules.{rules}
use Rattle.std.specs.Slice.Iter.{chunks_exact_rest}
use Rattle.refinement.specs.Match.{between}
use Rattle.carrying_all.proofs.Loops.{decided_behind, block_ends}
use Rattle.carrying_all.proofs.spans_all.Goals as goal

pub loop-block-preserved : goal.loop-block-preserved
loop-block-preserved c =
    let a = c.args in
    let inv = c.loop-block.invariant in
    let block = c.in-Some.block.now in
    let rest = chunks_exact_rest c.next.new.self in
    let step = c.in-Some.ensures.steps in
    let on = sym c.spans_block.ensures ∙ c.if-not-spans_block.false in
    record {
      sized = search rules;
      decides = decided_behind block rest step.1.0 (between a.left a.right) a.positions.now inv.decides on;
      behind = block_ends block rest step.1.0 inv.behind (search rules) (search rules);
      kept = search rules;
    }
