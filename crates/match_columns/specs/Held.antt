-- The columns that five lent slices hold, as the definitions speak of them.
-- Assumes nothing.
use Rattle.refining.specs.Columns.{Columns, columns_of}
use Rattle.match_columns.specs.declared.MatchColumns.{MatchColumns}

abbrev pub columns_in : MatchColumns → Columns
columns_in m = columns_of m.lefts.now m.rights.now m.other_lefts.now m.other_rights.now m.reversed.now
