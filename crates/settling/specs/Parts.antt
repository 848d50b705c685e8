-- A set all of whose members are finished.
--     parts s long mid     the members of s, with the long run up to long and the short one from mid on
--     with_notes s top      the same set with notes from top on
--     Begins s r           notes may stand from r on
-- Assumes nothing.
use Rattle.std.specs.Prelude.{ℕ, ◌+◌, ◌≤◌}
use Rattle.cut_set.specs.declared.CutSet.{CutSet}

abbrev pub parts : CutSet → ℕ → ℕ → CutSet
parts s long mid = record {
  base = s.base;
  long = long;
  mid = mid;
  done = s.used;
  fresh = s.used;
  used = s.used;
  top = s.top;
  limit = s.limit;
}

pub record Begins (s : CutSet) (r : ℕ) : Type 0 where
  pub from : s.used ≤ r
  pub to : r ≤ s.limit
  pub few : s.limit ≤ r + 134217728

abbrev pub with_notes : CutSet → ℕ → CutSet
with_notes s r = record {
  base = s.base;
  long = s.long;
  mid = s.mid;
  done = s.done;
  fresh = s.fresh;
  used = s.used;
  top = r;
  limit = s.limit;
}
