-- The loop has put the lines of the first classes. Assumes nothing.
use lib.ListN.{take}
use Rattle.text.specs.Putting.{Put}
use Rattle.reporting.specs.Lines.{class_lines}
use Rattle.lines.proofs.put_classes.Given as goal

abbrev pub invariant-loop-class : goal.invariant-loop-class
invariant-loop-class l = Put (class_lines 0 (take l.class l.counts)) l.initial.text l.at l.text l.next
