-- `rows_of` meets its contract: the part of the table that `span_of` names. Assumes nothing.
use mathlib.Core.Path.{ap}
use native.Mathlib.Omega.{arith}
use Rattle.table.specs.declared.finding.Span.{Span}
use Rattle.table.proofs.Runs.{part-inside}
use Rattle.match_rows.proofs.rows_of.Goals as goal

pub offset_bounds-table-span : goal.offset_bounds-table-span
offset_bounds-table-span c =
    omega (arith, (ap (λ (s : Span). s.start) c.span_of-span.ensures), (part-inside c.args.number c.args.table.now))

pub slice_bounds-result-end : goal.slice_bounds-result-end
slice_bounds-result-end c =
    omega (arith, (ap (λ (s : Span). s.end) c.span_of-span.ensures), (part-inside c.args.number c.args.table.now))
