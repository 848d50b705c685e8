-- `read_columns` meets its contract: a refusal comes before any store, and the columns of an admitted script are filled
-- command by command. The demands follow from the equations. Assumes nothing.
use mathlib.Core.Path.{sym, ap, ◌∙◌}
use Rattle.std.proofs.Common.{◌≡◌, Err}
use Rattle.std.proofs.lemmas.Result.{err_from_is_err_and}
use Rattle.script.specs.Reading.{read_script, verdict_of}
use Rattle.script.proofs.Columns.{columns-demand, marks-demand}
use Rattle.script.proofs.Demands.{reading-demand}
use Rattle.reader.proofs.Filled.{kept-columns}
use Rattle.reader.proofs.columns.read_columns.Goals as goal

pub returns-in_err-admitted : goal.returns-in_err-admitted
returns-in_err-admitted c =
    let p = err_from_is_err_and c.from_residual.result c.from_residual.ensures.1 in
    let is : c.from_residual.result ≡ verdict_of (read_script c.args.script.now) =
    p.1 ∙ ap Err p.2 ∙ sym c.in_err-admitted.was ∙ c.read.ensures.value in
    let kept = kept-columns _ is (p.1 ∙ ap Err p.2) c.args.left_a.now c.args.left_b.now c.args.lengths.now
    c.args.reversed.now c.args.sides.now c.args.positions.now in
    record {
      reply = is;
      columns = kept.0;
      marks = kept.1;
      demand = reading-demand _ is;
      columns_demand = columns-demand kept.0;
      marks_demand = marks-demand kept.1;
    }

pub returns-clause-columns_demand : goal.returns-clause-columns_demand
returns-clause-columns_demand c = columns-demand c.fill_columns.ensures.columns

pub returns-clause-marks_demand : goal.returns-clause-marks_demand
returns-clause-marks_demand c = marks-demand c.fill_columns.ensures.marks
