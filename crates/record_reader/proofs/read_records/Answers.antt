-- `read_records` meets its contract: the script is refused, a buffer is too short, or its records and marks are put.
-- The demand follows from the equations. Assumes nothing.
use Prim.Native.Nat.{◌*◌, ◌<◌}
use mathlib.Core.Logic.{◌⊎◌, inl, inr}
use native.Mathlib.Omega.{arith}
use lib.ListN.{length}
use Rattle.std.proofs.lemmas.Result.{err_from_is_err_and}
use Rattle.script.proofs.Holding.{holds-admitted}
use Rattle.records.specs.Records.{record_width, mark_numbers}
use Rattle.record_reader.proofs.Listed.{unread-listed, short-listed, whole-listed}
use Rattle.record_reader.proofs.read_records.Goals as goal
use Rattle.record_reader.proofs.read_records.Goals.{then-out-count-via-then-out-count, then-out-count-via-else-out-count+then-marks-marked}

pub returns-in_err-p : goal.returns-in_err-p
returns-in_err-p c =
    let a = c.args in
    let l = unread-listed a.script.now (λ k. omega (arith, c.type_inv.script k)) a.out.now a.marks.now c.read.ensures.value
    c.in_err-p.was in
    let e = err_from_is_err_and c.from_residual.result c.from_residual.ensures.1 in
    rw (e.1, e.2) (record { reply = l.0; records = l.1.0; marks = l.1.1.0; demand = l.1.1.1 })

pub overflow_mul-count : goal.overflow_mul-count
overflow_mul-count c =
    omega (arith, (holds-admitted _ c.read.ensures.value c.in_ok-p.was).few)

pub overflow_mul-marked : goal.overflow_mul-marked
overflow_mul-marked c =
    omega (arith, (holds-admitted _ c.read.ensures.value c.in_ok-p.was).few_marks)

pub returns-then-out-count : goal.returns-then-out-count
returns-then-out-count c =
    let a = c.args in
    let told = c.in_ok-p.field-0 in
    let short : (length a.out.now < record_width * told.count) ⊎ (length a.marks.now < mark_numbers * told.marks) =
    elim c.then-out-count.branch [
      | then-out-count-via-then-out-count w ↦ inl w.if-out-count.true
      | then-out-count-via-else-out-count+then-marks-marked w ↦ inr w.if-marks-marked.true
    ] in
    let l = short-listed a.script.now (λ k. omega (arith, c.type_inv.script k)) a.out.now a.marks.now c.read.ensures.value
    c.in_ok-p.was short in
    record { reply = l.0; records = l.1.0; marks = l.1.1.0; demand = l.1.1.1 }

pub returns : goal.returns
returns c =
    let a = c.args in
    let l = whole-listed a.script.now (λ k. omega (arith, c.type_inv.script k)) a.out.now a.marks.now c.read.ensures.value
    c.in_ok-p.was c.if-out-count.false c.if-marks-marked.false c.put_lists.ensures.records c.put_lists.ensures.marks in
    record { reply = l.0; records = l.1.0; marks = l.1.1.0; demand = l.1.1.1 }
