-- What refining leaves in the table, as rows: those of the least table's pieces.
--     LeastRows, least_rows   after a success, the rows counted are those of the least table
--     report-crowded          the text of matches whose least table has no room ..
--     report-rows             .. and of those whose least table has
-- Assumes nothing.
use Prim.Native.Nat.{ℕ, ◌*◌, ◌≤◌, ◌<◌}
use mathlib.Core.Path.{◌≡◌, refl, ap, ◌∙◌}
use mathlib.Core.List.{List, map}
use native.Mathlib.Omega.{arith}
use lib.ListN.{length, drop, take}
use lib.Seq.{take_at}
use Rattle.std.specs.Prelude.{Result, Ok, Err}
use Rattle.script.specs.declared.refusal.Refusal.{Refusal}
use Rattle.script.specs.declared.refusal.Refusal.TheVariants.{TooManyPieces}
use Rattle.refinement.specs.Match.{Match}
use Rattle.rows.specs.Rows.{row_width, rows_of}
use Rattle.rows.proofs.Numbers.{rows_whole}
use Rattle.refining.specs.Rows.{row_of_piece, piece_numbers}
use Rattle.refining.specs.Refining.{Given, least_of, capacity_of, work_needed, refining_of_matches, refining_of}
use Rattle.refining.specs.Demands.{Admitted}
use Rattle.refining.proofs.Standing.{length-numbers}
use Rattle.refining.proofs.Numbered.{admitted-unique}
use Rattle.refining.proofs.RefiningCases.{written, matches-crowded, matches-written, short, crowded, writing}
use Rattle.refining.proofs.RefiningCases.{MatchesCase, Case, refusing, matched, case}
use Rattle.reporting.specs.Lines.{refusal_text, table_text}
use Rattle.reporting.specs.Reporting.{report_of_refining}

rows_written : (rs : List Match) (table : List ℕ)
    → rows_of (take (row_width * length rs) (written rs table)) ≡ map row_of_piece rs
rows_written rs table =
    let rows = piece_numbers rs in
    ap rows_of (take_at rows (drop (length rows) table) (row_width * length rs) (length-numbers rs))
    ∙ rows_whole (map row_of_piece rs)

-- the first n rows of the table are the least table's, and all of them
pub record LeastRows (g : Given) (n : ℕ) (table : List ℕ) : Type 0 where
  pub count : n ≡ length (least_of g)
  pub rows : rows_of (take (row_width * n) table) ≡ map row_of_piece (least_of g)

refused-rows : {r : Refusal} {n : ℕ} → ◌≡◌ {A = Result ℕ Refusal} (Err r) (Ok n) → ⊥
refused-rows e = let z : ◌≡◌ {A = ℕ} 0 1 = cc in omega arith

pub least_rows : (script table work : List ℕ) {n : ℕ} {g : Given} → Admitted script g
    → (refining_of script table work).reply ≡ Ok n → LeastRows g n (refining_of script table work).table
least_rows script table work {n} {g} a e = go (case script table work) e
  where
    matched-rows : (g' : Given) → Admitted script g' → {reply : Result ℕ Refusal} {table' work' : List ℕ}
        → MatchesCase g' table work reply table' work' → reply ≡ Ok n → LeastRows g n table'
    matched-rows g' a' (short _) e = absurd (refused-rows e)
    matched-rows g' a' (crowded _ _) e = absurd (refused-rows e)
    matched-rows g' a' (writing _ _) e =
        let count : n ≡ length (least_of g') = cc in
        rw (admitted-unique a a', count)
        (record { count = refl; rows = rows_written (least_of g') table })

    go : {reply : Result ℕ Refusal} {table' work' : List ℕ} → Case script table work reply table' work' → reply ≡ Ok n
        → LeastRows g n table'
    go (refusing _) e = absurd (refused-rows e)
    go (matched {g = g'} a' c) e = matched-rows g' a' c e

-- matches and enough work: the text is 12's refusal or the table's
module _ (p q count : ℕ) (g : Given) (table work : List ℕ) (enough : work_needed table ≤ length work) where
  pub report-crowded : capacity_of table < length (least_of g)
      → report_of_refining p q count (refining_of_matches g table work) ≡ refusal_text TooManyPieces
  report-crowded many = ap (report_of_refining p q count) (matches-crowded g table work enough many)

  pub report-rows : length (least_of g) ≤ capacity_of table
      → report_of_refining p q count (refining_of_matches g table work)
      ≡ table_text p q count (map row_of_piece (least_of g))
  report-rows room =
      ap (report_of_refining p q count) (matches-written g table work enough room)
      ∙ ap (table_text p q count) (rows_written (least_of g) table)
