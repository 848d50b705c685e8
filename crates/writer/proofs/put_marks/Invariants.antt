-- The commands stored, and those still to come, make the buffer that is wanted. Assumes nothing.
use Rattle.script.specs.Commands.{mark_width}
use Rattle.records.specs.Records.{points_of}
use Rattle.records.specs.Bytes.{mark_bytes}
use Rattle.writer.proofs.Stored.{Putting}
use Rattle.writer.proofs.put_marks.Given as goal

abbrev pub invariant-loop-k : goal.invariant-loop-k
invariant-loop-k l = Putting mark_bytes mark_width l.from (points_of l.marks) l.initial.out l.out l.k
