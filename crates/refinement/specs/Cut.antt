-- The least set of cuts, as 01 finds it. TO READ: contracts mean what stands here.
--     End m p           the place p is one of the four ends of m
--     Cut ms marks p    p is an end of a match, a spanned mark, or carried from a cut by a match that spans it
-- 01, "Resolved refinement"; SCOPE, "Least cuts". Marks are those of request #106.
-- Assumes nothing.
use Rattle.std.specs.Prelude.{ℕ, List}
use Rattle.refinement.specs.declared.Side.{Side}
use Rattle.refinement.specs.Order.{◌∈◌}
use Rattle.refinement.specs.Match.{Match, other, left, right, Place, place, Spans, carry}

pub data End (m : Match) : Place → Type 0 where
  left_end : (s : Side) → End m (place m s (left m s))
  right_end : (s : Side) → End m (place m s (right m s))

-- SCOPE, "Least cuts": the ends of all matches, and what a match carries a cut to that it spans, from A or from B.
-- #106: a mark that some match spans is a cut too.
pub data Cut (ms : List Match) (marks : List Place) : Place → Type 0 where
  end : {m : Match} {p : Place} → m ∈ ms → End m p → Cut ms marks p
  mark : {m : Match} {s : Side} {h : ℕ} → m ∈ ms → place m s h ∈ marks → Spans m s h → Cut ms marks (place m s h)
  carried :
      {m : Match} {s : Side} {h : ℕ} → m ∈ ms → Spans m s h → Cut ms marks (place m s h)
      → Cut ms marks (place m (other s) (carry m s h))
