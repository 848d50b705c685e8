-- What the walks over the commands of an admitted script speak of; for functions that no user calls.
--     Admits s              the bytes s are an admitted script
--     match_seen, mark_seen   the match and the mark whose command stands at an offset
--     next_of s at           what the command there does, by its first byte alone: in an admitted script no other comes
--     MatchPut, MarkPut     a match and a mark stored behind k others
--     numbered_match s n     the match of the number n
-- Assumes nothing.
use Rattle.std.specs.Prelude.{ℕ, ◌+◌, ◌-◌, ◌≡◌, Bool, cond, false, List, eqb, get_or, set, Ok}
use Rattle.script.specs.Commands.{number_at}
use Rattle.script.specs.Reading.{read_script, verdict_of}
use Rattle.script.specs.Columns.{matches_read}
use Rattle.script.specs.declared.command.Match.{Match}
use Rattle.script.specs.declared.command.Mark.{Mark}
use Rattle.script.specs.declared.step.Step.{Step}
use Rattle.script.specs.declared.step.Step.TheVariants.{Finish, Take, Keep}
use Rattle.script.specs.declared.Admitted.{Admitted}

pub record Admits (s : List ℕ) : Type 0 where
  pub admitted : Admitted
  pub told : Ok admitted ≡ verdict_of (read_script s)

abbrev pub match_seen : List ℕ → ℕ → Match
match_seen s at =
    record {
      track_a = 0;
      track_b = 1;
      left_a = number_at s (at + 1);
      left_b = number_at s (at + 5);
      length = number_at s (at + 9);
      reversed = eqb (get_or s at 0) 0x52;
    }

abbrev pub mark_seen : List ℕ → ℕ → Mark
mark_seen s at = record { side = get_or s (at + 1) 0; position = number_at s (at + 2) }

abbrev pub next_of : List ℕ → ℕ → Step
next_of s at =
    cond (eqb (get_or s at 0) 0x45) Finish
    (cond (eqb (get_or s at 0) 0x4D) (Keep (mark_seen s at)) (Take (match_seen s at)))

-- each column before and after; a store past a column's end changes nothing
pub record MatchPut (m : Match) (k : ℕ) (a b d : List ℕ) (r : List Bool) (a' b' d' : List ℕ)
    (r' : List Bool) : Type 0 where
  pub left_a : a' ≡ set a k m.left_a
  pub left_b : b' ≡ set b k m.left_b
  pub letters : d' ≡ set d k m.length
  pub reversed : r' ≡ set r k m.reversed

pub record MarkPut (point : Mark) (k : ℕ) (sides positions sides' positions' : List ℕ) : Type 0 where
  pub side : sides' ≡ set sides k point.side
  pub position : positions' ≡ set positions k point.position

-- a match for places where there is none
abbrev pub no_match : Match
no_match = record { track_a = 0; track_b = 1; left_a = 0; left_b = 0; length = 0; reversed = false }

-- SCOPE, "Numbering": from 1, in the order of the script
abbrev pub numbered_match : List ℕ → ℕ → Match
numbered_match s number = get_or (matches_read (read_script s)) (number - 1) no_match
