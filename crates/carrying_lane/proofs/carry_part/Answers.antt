-- `carry_part` meets its contract. Assumes nothing.
use Rattle.carrying_lane.proofs.Ranges.{read-to, read-start, read-end, read-clear, read-ranged, read-ends, none-taken}
use Rattle.carrying_lane.proofs.carry_part.Goals as goal

pub returns-then-none_found : goal.returns-then-none_found
returns-then-none_found c =
    let set = rw c.group_at-group.ensures.from_is at c.load-from.ensures in
    let nothing = rw set at (c.none_found.ensures.when c.if-none_found.true) in
    none-taken _ _ nothing c.requires.ready.shelf c.requires.hits_le_most

pub index_place-low-requires : goal.index_place-low-requires
index_place-low-requires c = read-start c.requires.ready c.requires.g_lt_count c.group_at-group.ensures

pub index_place-high-requires : goal.index_place-high-requires
index_place-high-requires c = read-end c.requires.ready c.requires.g_lt_count c.group_at-group.ensures

pub carry_range-requires-clause-ranged : goal.carry_range-requires-clause-ranged
carry_range-requires-clause-ranged c =
    read-ranged c.requires.ready c.requires.g_lt_count c.group_at-group.ensures c.index_place-low.ensures
    c.index_place-high.ensures

pub carry_range-requires-clause-clear : goal.carry_range-requires-clause-clear
carry_range-requires-clause-clear c =
    read-clear c.requires.ready c.requires.g_lt_count c.group_at-group.ensures c.load-from.ensures

pub carry_range-requires-clause-to_lt_sets : goal.carry_range-requires-clause-to_lt_sets
carry_range-requires-clause-to_lt_sets c = read-to c.requires.ready c.requires.g_lt_count c.group_at-group.ensures

pub carry_range-requires-clause-ends_known : goal.carry_range-requires-clause-ends_known
carry_range-requires-clause-ends_known c =
    λ e. read-ends c.requires.ready c.requires.g_lt_count c.group_at-group.ensures (c.requires.ends_kept e)
