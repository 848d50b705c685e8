-- Writing a set into the book.
--     saved               eight numbers written in two goes are a set
-- Assumes nothing.
use Prim.Native.Nat.{ℕ, ◌+◌, ◌*◌, ◌≤◌, ◌<◌}
use native.Mathlib.Omega.{arith}
use native.Mathlib.Decide.{dec_lt}
use mathlib.Core.Path.{◌≡◌, ◌∙◌}
use mathlib.Core.List.{List}
use mathlib.Core.Logic.{inl, inr, ◌≢◌}
use lib.ListN.{length, set, get_or}
use lib.Seq.{get_or-set_same, get_or-set_other}
use Rattle.cut_set.specs.declared.CutSet.{CutSet}
use Rattle.shelf.specs.Shelf.{Saved}
use Rattle.shelf.specs.Writing.{FourPut}

-- a store, as a hypothesis that shows its lists
record Put (xs : List ℕ) (at a : ℕ) (ys : List ℕ) : Type 0 where
  here : get_or ys at 0 ≡ a
  others : (k : ℕ) → k ≢ at → get_or ys k 0 ≡ get_or xs k 0

put : (xs : List ℕ) (at a : ℕ) → at < length xs → Put xs at a (set xs at a)
put xs at a w = record { here = get_or-set_same xs at a 0 w; others = λ k n. get_or-set_other xs at k a 0 n }

-- the same place, told otherwise
at_place : (xs : List ℕ) (i k : ℕ) {v : ℕ} → i ≡ k → get_or xs i 0 ≡ v → get_or xs k 0 ≡ v
at_place xs i k e h = rw (← e) h

pub saved : {xs ys zs : List ℕ} {j : ℕ} {s : CutSet} → FourPut xs (8 * j) s.base s.long s.mid s.done ys →
    FourPut ys (8 * j + 4) s.fresh s.used s.top s.limit zs → Saved xs j s zs
saved {xs} {ys} {zs} {j} {s} p q = record {
  here = rw (
    low (8 * j) (omega arith) ∙ p.first,
    low (8 * j + 1) (omega arith) ∙ p.second,
    low (8 * j + 2) (omega arith) ∙ p.third,
    low (8 * j + 3) (omega arith) ∙ p.fourth,
    q.first,
    at_place zs (8 * j + 4 + 1) (8 * j + 5) (omega arith) q.second,
    at_place zs (8 * j + 4 + 2) (8 * j + 6) (omega arith) q.third,
    at_place zs (8 * j + 4 + 3) (8 * j + 7) (omega arith) q.fourth,
  );
  others = λ i n. rw (
    same i n (8 * i) (omega arith) (omega arith),
    same i n (8 * i + 1) (omega arith) (omega arith),
    same i n (8 * i + 2) (omega arith) (omega arith),
    same i n (8 * i + 3) (omega arith) (omega arith),
    same i n (8 * i + 4) (omega arith) (omega arith),
    same i n (8 * i + 5) (omega arith) (omega arith),
    same i n (8 * i + 6) (omega arith) (omega arith),
    same i n (8 * i + 7) (omega arith) (omega arith),
  );
}
  where
    low : (k : ℕ) → k < 8 * j + 4 → get_or zs k 0 ≡ get_or ys k 0
    low k l = q.others k (inl l)

    same : (i : ℕ) → i ≢ j → (k : ℕ) → 8 * i ≤ k → k < 8 * i + 8 → get_or zs k 0 ≡ get_or xs k 0
    same i n k l u = go (dec_lt i j)
      where
        go : Dec (i < j) → get_or zs k 0 ≡ get_or xs k 0
        go (yes h) = low k (omega arith) ∙ p.others k (inl (omega arith))
        go (no h) = q.others k (inr (omega arith)) ∙ p.others k (inr (omega arith))
