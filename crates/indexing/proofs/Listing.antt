-- Listing the ends of the matches in their order, over plain lists.
--     ListedFrom                          the invariant: the ends of the matches from place k on are listed
--     listing-ends                        where it ends
--     arranged                            an order made in a part that was lent is one of the whole
-- Assumes nothing.
use Prim.Native.Nat.{ℕ, ◌+◌, ◌≤◌, ◌<◌}
use native.Mathlib.Omega.{arith}
use mathlib.Core.Path.{◌≡◌}
use mathlib.Core.List.{List, ◌++◌}
use lib.ListN.{length, get_or, get_or-append}
use Rattle.runs.specs.Runs.{Same}
use Rattle.arrangement.specs.Index.{Order, starts_at, ends_at, index_room}
use Rattle.arranging.proofs.Ordering.{order_same}
use Rattle.indexing.specs.Bounds.{Arranged, Listed}

-- `low` is no more than the left end of any of these matches
pub record ListedFrom (xs f g ys : List ℕ) (low k : ℕ) : Type 0 where
  pub to : k ≤ length f
  pub long : length ys ≡ length xs
  pub kept : Same xs ys 0 (length f)
  pub lowest : (j : ℕ) → k ≤ j → j < length f → low ≤ get_or f (get_or ys j 0) 0
  pub starts : (i j : ℕ) → k ≤ i → i ≤ j → j < length f
      → get_or ys (starts_at (length f) + i) 0 ≤ get_or f (get_or ys j 0) 0
  pub ends : (j : ℕ) → k ≤ j → j < length f → get_or g (get_or ys j 0) 0 ≤ get_or ys (ends_at (length f) + j) 0

pub listing-ends : {xs f g ys : List ℕ} {low k : ℕ} → ListedFrom xs f g ys low k → k ≤ 0 → Order xs (length f)
    → Listed ys f g
listing-ends h l o = record {
  order = order_same h.kept o;
  listed = record {
    starts = λ k j v u. h.starts k j (omega arith) v u;
    ends = λ j u. h.ends j (omega arith) u;
  };
}

pub arranged :
    (part rest : List ℕ) {f g : List ℕ} → Order part (length f) → length part ≡ length f → length f ≡ length g
    → index_room (length f) ≤ length (part ++ rest) → Arranged (part ++ rest) f g
arranged part rest o size same room = record {
  same_length = same;
  room = room;
  order = order_same (λ k l u. get_or-append part rest 0 k (omega arith)) o;
}
