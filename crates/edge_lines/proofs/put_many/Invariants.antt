-- So many matches are put.
use Rattle.text.specs.Putting.{Put}
use Rattle.edge_lines.specs.Scripts.{directs}
use Rattle.edge_lines.proofs.put_many.Given as goal

abbrev pub invariant-loop : goal.invariant-loop
invariant-loop l = Put (directs l.counter) l.initial.script l.initial.at l.script l.at
