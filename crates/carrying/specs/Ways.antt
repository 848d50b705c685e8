-- The way over a match: its ends on the side that positions come from and on the other.
--     way_over m side         the way over a match of a script
--     crossing_of f side      over the match that is found, or why there is none
-- Assumes nothing.
use Rattle.std.specs.Prelude.{◌+◌, Result, Ok, Err}
use Rattle.script.specs.declared.command.Match.{Match}
use Rattle.script.specs.declared.refusal.Refusal.{Refusal}
use Rattle.refinement.specs.declared.Side.{Side}
use Rattle.refinement.specs.Match.{other, on_side}
use Rattle.carrying.specs.declared.Way.{Way}

abbrev pub way_over : Match → Side → Way
way_over m side =
    let from = on_side side m.left_a m.left_b in
    let to = on_side (other side) m.left_a m.left_b in
    record {
      from = from;
      from_right = from + m.length;
      to = to;
      to_right = to + m.length;
      reversed = m.reversed;
    }

abbrev pub crossing_of : Result Match Refusal → Side → Result Way Refusal
crossing_of (Err r) side = Err r
crossing_of (Ok m) side = Ok (way_over m side)
