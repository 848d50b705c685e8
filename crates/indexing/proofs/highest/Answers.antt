-- `indexing::highest` meets its contract: the highest of the part, which may be empty. Assumes nothing.
use Rattle.std.proofs.Common.{rules, ◌≡◌, ◌≤◌, length, get_or}
use Rattle.std.specs.Prelude.{slice_range, MatchOption, EachIndex}
use Rattle.indexing.proofs.Raising.{bounding}
use Rattle.indexing.proofs.highest.Goals as goal

pub returns : goal.returns
returns c =
    let part = slice_range c.args.index.now c.args.first c.args.last in
    let high : MatchOption c.max.result (length part ≡ 0) (λ m. EachIndex part (λ k. get_or part k 0 ≤ m)) = search rules
    in
    rw c.unwrap_or.ensures (bounding c.max.result c.requires.last_in_bounds high)
