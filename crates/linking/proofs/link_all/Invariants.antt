-- The first t rows are linked. Assumes nothing.
use mathlib.Core.Path.{◌≡◌}
use lib.ListN.{length}
use Rattle.rows.specs.Rows.{rows_of}
use Rattle.linking.specs.Linking.{Linked}
use Rattle.linking.proofs.link_all.Given as goal

abbrev pub invariant-loop-t : goal.invariant-loop-t
invariant-loop-t l =
    (length l.work ≡ length l.initial.work) × (length l.scores ≡ length l.initial.scores)
    × Linked l.price (rows_of l.table) l.count l.t l.work l.scores l.first
