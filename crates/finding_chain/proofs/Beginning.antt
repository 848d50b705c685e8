-- The direct rows are arranged in a work buffer that was zero.
--     begun     the order of A in the first part, the places of B in the second, and no row in the third
-- Assumes nothing.
use Prim.Native.Nat.{ℕ, ◌+◌, ◌-◌, ◌*◌, ◌≤◌, ◌<◌}
use mathlib.Core.Path.{◌≡◌, sym, ◌∙◌}
use mathlib.Core.List.{List, ◌++◌}
use native.Mathlib.Omega.{arith}
use native.Mathlib.Decide.{dec_lt}
use lib.ListN.{length, get_or, take, drop, length-take, length-replicate, get_or-replicate, get_or-eq_default}
use lib.Seq.{length-take-le, get_or-take, get_or-drop}
use borrow.Rule.Slice.PartMut.{mid_of}
use Rattle.rows.specs.declared.Row.{Row}
use Rattle.refinement.specs.declared.Side.TheVariants.{A, B}
use Rattle.refining.specs.Refining.{zeroed}
use Rattle.direct_rows.specs.Direct.{Placed}
use Rattle.finding_chain.specs.Finding.{DirectBy, Begun}
use Rattle.finding_chain.proofs.Ordering.{arranged-by}
use Rattle.finding_chain.proofs.Parts.{spare_lent, places_lent, order-room, order-part, places-part, held-part}

-- a buffer that is zero has nothing but 0 anywhere
zero-at : (work : List ℕ) (i : ℕ) → Dec (i < length work) → get_or (zeroed work) i 0 ≡ 0
zero-at work i (yes h) = get_or-replicate (length work) i 0 0 h
zero-at work i (no h) =
    get_or-eq_default (zeroed work) 0 (rw length-replicate (omega arith))

-- and so has each part of it
zero-part : (work : List ℕ) (a n i : ℕ) → Dec (i < n) → get_or (take n (drop a (zeroed work))) i 0 ≡ 0
zero-part work a n i (yes h) =
    get_or-take n (drop a (zeroed work)) i 0 h
    ∙ get_or-drop a (zeroed work) i 0
    ∙ zero-at work (a + i) (dec_lt (a + i) (length work))
zero-part work a n i (no h) =
    get_or-eq_default (take n (drop a (zeroed work))) 0 (omega (arith, length-take n (drop a (zeroed work))))

module _ {rs : List Row} {n : ℕ} (count : n ≡ length rs) {work : List ℕ} (room : 4 * n ≤ length work)
    (clear : work ≡ zeroed work) where
  pub begun :
      {d e : ℕ} (spare : List ℕ) {places order numbers : List ℕ}
      → length spare ≡ length (mid_of (3 * n) (4 * n - 3 * n) work)
      → length places ≡ length (mid_of n (2 * n - n) (spare_lent n work spare))
      → length order ≡ length (take n (places_lent n (spare_lent n work spare) places))
      → DirectBy rs B numbers e → Placed (take e numbers) places → DirectBy rs A order d
      → Begun rs (order ++ drop n (places_lent n (spare_lent n work spare) places)) d
  begun {d} spare {places} {order} s p o b q a =
      let few : d ≤ n = omega (arith, a.few) in
      let orders = order-part n work room spare s places p order o few in
      let here = places-part n work room spare s places p order o in
      let held = held-part n work room spare s places p order o in
      let long : d ≤ length order = omega (arith, o, order-room n work room spare s places p) in
      record {
        arranged = rw (sym count, orders, here) (arranged-by a b q long);
        counted = rw orders (length-take-le d order long);
        none_held = λ i. rw (sym count, held, clear) (zero-part work (2 * n) n i (dec_lt i n));
      }
