-- `refine_in` meets its contract: a refused script is refused; the columns of an admitted one begin with the fields of
-- its matches and of its marks, and `refine_read` does the rest. Assumes nothing.
use borrow.Author.Rules.{rules}
use Rattle.refine.proofs.Calls.{columns-fit, read-refused, read-refined}
use Rattle.refine.proofs.refine_in.Goals as goal

pub refine_read-requires : goal.refine_read-requires
refine_read-requires c =
    let told = c.read_columns.ensures in
    let fit = columns-fit c.args.script.now told.reply c.in_ok-read.was c.requires.roomy told.columns
    c.requires.straight c.requires.roomy_marks told.marks
    in
    record {
      fit_read = fit.0;
      reversed_len_bound = fit.1.0;
      straight_value = fit.1.1.0;
      mark_sides_len = fit.1.1.1.0;
      left_a_in_bounds = fit.1.1.1.1.0;
      left_a_in_bounds_2 = fit.1.1.1.1.1;
    }

pub returns-in_err-read : goal.returns-in_err-read
returns-in_err-read c =
    let a = c.args in
    read-refused a.script.now a.table.now a.work.now c.read_columns.ensures.reply c.in_err-read.was (search rules)

pub returns : goal.returns
returns c =
    let told = c.read_columns.ensures in
    let a = c.args in
    read-refined a.script.now told.reply c.in_ok-read.was c.requires.roomy told.columns c.requires.roomy_marks
    told.marks a.table.now a.work.now c.refine_read.ensures.refined
