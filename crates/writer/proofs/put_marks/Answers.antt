-- `put_marks` meets its contract: the commands stored, and those still to come, make the buffer that is wanted.
-- Assumes nothing.
use mathlib.Core.Path.{refl, sym}
use native.Mathlib.Omega.{arith}
use borrow.Author.Rules.{rules}
use Rattle.records.specs.Records.{no_mark}
use Rattle.records.proofs.Lists.{point-held, point-inside}
use Rattle.writer.proofs.Stored.{putting-next, putting-ends, mark-sided}
use Rattle.writer.proofs.put_marks.Goals as goal

pub bounds-marks-at : goal.bounds-marks-at
bounds-marks-at c =
    let inside = point-inside _ c.requires.count_value.0 c.loop-k-test.true in
    omega arith

pub bounds-marks-at-in-loop-k : goal.bounds-marks-at-in-loop-k
bounds-marks-at-in-loop-k c =
    let inside = point-inside _ c.requires.count_value.0 c.loop-k-test.true in
    omega arith

pub put_mark-requires : goal.put_mark-requires
put_mark-requires c =
    search (rules, mark-sided)

pub loop-k-preserved : goal.loop-k-preserved
loop-k-preserved c =
    let counted = c.requires.count_value.0 in
    let below = c.loop-k-test.true in
    putting-next _ _ _ _ _ c.loop-k.invariant no_mark refl (omega arith)
    (sym (point-held _ _ (point-inside _ counted below))) c.put_mark.ensures

pub returns : goal.returns
returns c =
    putting-ends _ _ _ _ _ c.loop-k.invariant (search rules)
