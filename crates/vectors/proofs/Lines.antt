-- The definitions yield 01's lines marked M and those beside them, by one computation over the whole table.
-- Assumes nothing.
use mathlib.Core.Path.{◌≡◌, refl}
use mathlib.Core.Logic.Dec
use mathlib.Core.List.{map, flat_map}
use native.Mathlib.Decide.{dec_le, dec_lt, ℕ_discrete}
use Rattle.script.specs.Reading.{read_from, read_script}
use Rattle.refinement.specs.Order.{insert_by, sort_by}
use Rattle.refinement.specs.Least as Least
use Rattle.records.specs.Records.{records_of}
use Rattle.records.specs.Records as Records
use Rattle.records.specs.Bytes.{bytes_of}
use Rattle.records.specs.Writing.{judged_from}
use Rattle.rows.specs.Rows.{first_rows, rows_of, numbers_of}
use Rattle.table.specs.Distinct.{occurs, firsts_after}
use Rattle.table.specs.Covering.{letters_from}
use Rattle.table.specs.Summing.{total, classes_from}
use Rattle.table.specs.Finding.{leading}
use Rattle.refining.specs.Refining.{refining_of_matches, refining_of}
use Rattle.refining.specs.Carrying.{carrying_of}
use Rattle.positions.specs.CarryingAll.{carrying_all_of}
use Rattle.backbone.specs.Chains.{letters_in, skipped_in, score_of}
use Rattle.backbone.specs.Backbone.{direct_from, followers_of, chains_from, chains_of, betters, best_of, backbone_of}
use Rattle.backbone.specs.Backbone.{points_of}
use Rattle.backbone.specs.Chaining.{chaining_of_matches, chaining_of}
use Rattle.text.specs.Decimal.{places_within}
use Rattle.reporting.specs.Lines.{row_lines, class_lines}
use Rattle.reporting.specs.Reporting.{report_of}
use Rattle.vectors.specs.Kinds.{Line}
use Rattle.vectors.specs.Lines.{lines}

pub lines-hold : map (λ (l : Line). l.comes) lines ≡ map (λ (l : Line). l.leaves) lines
unfolding read_from read_script insert_by sort_by flat_map Dec.and dec_le dec_lt ℕ_discrete first_rows rows_of occurs
    firsts_after numbers_of refining_of_matches refining_of Least.spans? Least.spans_place? Least.same? Least.in?
    Least.ends Least.spanning Least.images Least.spanned_marks Least.add_new Least.grow Least.span_count
    Least.least_cuts Least.cuts_within Least.piece_of Least.pieces_between Least.pieces_of Least.table_from
    Least.least_table total classes_from letters_from places_within row_lines class_lines report_of
    carrying_of carrying_all_of leading records_of Records.points_of bytes_of judged_from letters_in skipped_in score_of direct_from
    followers_of chains_from chains_of betters best_of backbone_of points_of chaining_of_matches chaining_of
lines-hold = refl
