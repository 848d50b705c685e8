-- The commands stored, and those still to come, make the buffer that is wanted. Assumes nothing.
use Rattle.script.specs.Commands.{lengths_width, match_width}
use Rattle.records.specs.Records.{matches_of}
use Rattle.records.specs.Bytes.{match_bytes}
use Rattle.writer.proofs.Stored.{Putting}
use Rattle.writer.proofs.put_matches.Given as goal

abbrev pub invariant-loop-k : goal.invariant-loop-k
invariant-loop-k l = Putting match_bytes match_width lengths_width (matches_of l.records) l.initial.out l.out l.k
