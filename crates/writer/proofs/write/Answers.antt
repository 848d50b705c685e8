-- `write` meets its contract: a fault of the lists, a buffer that is too short, or the whole script. The demand follows
-- from the equations. Assumes nothing.
use mathlib.Core.Path.{refl, sym, ◌∙◌}
use Rattle.std.proofs.lemmas.Result.{err_from_is_err_and}
use Rattle.records.proofs.Lists.{records-length, points-length}
use Rattle.records.proofs.WritingOutcome.{sound-directed, sound-sided}
use Rattle.writer.proofs.Stored.{faulty-written, short-written, whole-written}
use borrow.Author.Rules.{rules}
use Rattle.writer.proofs.write.Goals as goal

pub returns-then-out-length : goal.returns-then-out-length
returns-then-out-length c =
    let a = c.args in
    let w = short-written a.p a.q a.records.now a.marks.now a.out.now c.judge_records.ensures
    c.in_ok-judge_records.was refl refl c.if-out-length.true in
    record { reply = w.0; script = w.1.0; demand = w.1.1 }

pub put_script-requires : goal.put_script-requires
put_script-requires c =
    let sound = sym c.judge_records.ensures ∙ c.in_ok-judge_records.was in
    let a = c.args in
    let directed = sound-directed a.p a.q a.records.now a.marks.now sound in
    let sided = sound-sided a.p a.q a.records.now a.marks.now sound in
    record {
      count_value = (sym (records-length _), sym (points-length _));
      marked_in_bounds = search rules;
      directed = (record { few = directed }, record { few = sided });
    }

pub returns-in_err-judge_records : goal.returns-in_err-judge_records
returns-in_err-judge_records c =
    let a = c.args in
    let w = faulty-written a.p a.q a.records.now a.marks.now a.out.now c.judge_records.ensures
    c.in_err-judge_records.was in
    let e = err_from_is_err_and c.from_residual.result c.from_residual.ensures.1 in
    rw (e.1, e.2) (record { reply = w.0; script = w.1.0; demand = w.1.1 })

pub returns : goal.returns
returns c =
    let a = c.args in
    let w = whole-written a.p a.q a.records.now a.marks.now a.out.now c.judge_records.ensures
    c.in_ok-judge_records.was refl refl c.if-out-length.false c.put_script.ensures in
    record { reply = w.0; script = w.1.0; demand = w.1.1 }
