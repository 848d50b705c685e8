-- The small table. No promise speaks of it: its readers may leave it out.
--     few_rows     so many rows are tried first
-- Assumes nothing.
use Rattle.std.specs.Prelude.{ℕ}

abbrev pub few_rows : ℕ
few_rows = 64
