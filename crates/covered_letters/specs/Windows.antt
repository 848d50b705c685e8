-- Letters counted in windows. Only private functions promise anything by it.
--     Counted s rs from w            so many letters are covered in the window w, which starts at `from`
--     Begun s rs w                   so many letters are covered before the end of w
-- Assumes nothing.
use Rattle.std.specs.Prelude.{ℕ, ◌+◌, ◌≤◌, ◌<◌, ◌≡◌, List}
use Rattle.refinement.specs.declared.Side.{Side}
use Rattle.table.specs.Tally.{is_covered, tally}
use Rattle.row_stretches.specs.Passes.{end}
use Rattle.rows.specs.declared.Row.{Row}
use Rattle.covered_letters.specs.declared.Window.{Window}

pub record Counted (s : Side) (rs : List Row) (from : ℕ) (w : Window) : Type 0 where
  pub onward : from < w.to
  pub shorter : w.to ≤ end
  pub counted : tally (is_covered s rs) w.to ≡ tally (is_covered s rs) from + w.letters

pub record Begun (s : Side) (rs : List Row) (w : Window) : Type 0 where
  pub shorter : w.to ≤ end
  pub counted : w.letters ≡ tally (is_covered s rs) w.to
