-- What an attempt to count the distinct pieces says. Only private functions promise anything by it.
--     Attempt rs r       a count of all pieces of rs, unless it was given up
-- Assumes nothing.
use Rattle.std.specs.Prelude.{◌≡◌, List, length, Result, Ok, Err}
use Rattle.table.specs.Distinct.{first_of_each}
use Rattle.rows.specs.declared.Row.{Row}
use Rattle.distinct_store.specs.declared.Counted.{Counted}
use Rattle.distinct_store.specs.declared.GaveUp.{GaveUp}

abbrev pub Attempt : List Row → Result Counted GaveUp → Type 0
Attempt rs (Ok counted) = counted.found ≡ length (first_of_each rs)
Attempt rs (Err gave_up) = Unit {0}
