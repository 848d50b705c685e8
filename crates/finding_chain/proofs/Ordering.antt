-- The direct rows in the orders of A and of B.
--     sorted-direct        sorted, they are the direct rows in order
--     direct-placeable     so their places can be noted
--     arranged-by          the order of A with the places of B is what linking starts from
-- Assumes nothing.
use Prim.Native.Nat.{ℕ, ◌^◌, ◌≤◌, ◌<◌}
use mathlib.Core.Path.{◌≡◌, ap, sym, ◌∙◌}
use mathlib.Core.Logic.{◌≢◌}
use mathlib.Core.List.{List, ◌++◌}
use native.Mathlib.Omega.{arith}
use native.Mathlib.Decide.{dec_lt, ℕ_discrete}
use lib.ListN.{length, get_or, take, drop}
use lib.Seq.{length-take-le, get_or-take, take_at}
use Rattle.rows.specs.declared.Row.{Row}
use Rattle.refinement.specs.declared.Side.{Side}
use Rattle.refinement.specs.declared.Side.TheVariants.{A, B}
use Rattle.refinement.specs.Order.{◌∈◌}
use Rattle.refinement.proofs.Lists.{rising-weaken, pigeonhole}
use Rattle.backbone.specs.Chains.{Direct}
use Rattle.row_order.specs.Order.{Ahead, Sorted}
use Rattle.backbone.proofs.Places.{at-∈, ∈-at}
use Rattle.row_order.proofs.Order.{ahead-not, in-order-rising}
use Rattle.direct_rows.specs.Direct.{Collected, place_at, Placeable, Placed}
use Rattle.linking.specs.Linking.{Arranged}
use Rattle.finding_chain.specs.Finding.{DirectBy}

module _ {rs : List Row} {out : List ℕ} {d : ℕ} (c : Collected rs out d) (h : d ≤ length out) where
  -- they are the front of the buffer
  long : length (take d out) ≡ d
  long = length-take-le d out h

  -- nothing but direct rows is collected
  collected-direct : {k : ℕ} → k ∈ take d out → Direct rs k
  collected-direct m =
      let p = ∈-at m in
      let l : p.0 < d = omega (arith, long, p.1) in
      rw (sym (get_or-take d out p.0 0 l) ∙ p.2) at (c.direct p.0 l)

  pub sorted-direct :
      {s : Side} (ys : List ℕ) → Sorted rs s (take d out) ys → length ys ≡ d → DirectBy rs s (ys ++ drop d out) d
  sorted-direct ys o e =
      let front : take d (ys ++ drop d out) ≡ ys = take_at ys (drop d out) d e in
      record {
        few = c.few;
        in_order = rw front o.in_order;
        direct = rw front (λ k. (λ m. collected-direct ((o.members k).1 m), λ q. (o.members k).0 (c.all k q)));
      }

module _ {rs : List Row} {s : Side} {xs : List ℕ} {d : ℕ} (b : DirectBy rs s xs d) where
  -- what stands at a place is a direct row
  at-direct : (i : ℕ) → i < length (take d xs) → Direct rs (get_or (take d xs) i 0)
  at-direct i l = (b.direct (get_or (take d xs) i 0)).0 (at-∈ (take d xs) i l)

  -- no row is ahead of itself
  apart : {j k : ℕ} → Ahead rs s j k → j ≢ k
  apart {k} a e = let here : Ahead rs s k k = rw e at a in ahead-not rs s k k here here

  pub direct-placeable :
      {places : List ℕ} → length places ≡ length rs → length rs < 2 ^ 32 → d ≤ length xs
      → Placeable (take d xs) places
  direct-placeable e f h =
      record {
        from_one = λ i l. (at-direct i l).from_one;
        to_last = λ i l. omega (arith, (at-direct i l).to_last);
        once = λ i j l m. apart (b.in_order.ahead i j l m);
        counted = omega (arith, length-take-le d xs h, b.few);
      }

  -- no order of the direct rows is longer than another
  no_longer : {t : Side} {ys : List ℕ} {e : ℕ} → DirectBy rs t ys e → length (take d xs) ≤ length (take e ys)
  no_longer {ys} {e} o =
      let up = in-order-rising rs s (take d xs) b.in_order in
      pigeonhole (take d xs) (take e ys) (rising-weaken (Ahead rs s) ◌≢◌ (take d xs) (λ j k m n a. apart a) up)
      (λ k m. (o.direct k).1 ((b.direct k).0 m))

-- k stands at the place that is noted for it
record Stands (order places : List ℕ) (k : ℕ) : Type 0 where
  within : place_at places k < length order
  it : get_or order (place_at places k) 0 ≡ k

-- a number of the order stands there
stands : {order places : List ℕ} {k : ℕ} → Placed order places → k ∈ order → Stands order places k
stands {order} {places} {k} p m =
    let o = ∈-at m in
    let e : place_at places k ≡ o.0 = rw o.2 at (p.placed o.0 o.1) in
    record { within = omega (arith, o.1); it = rw e o.2 }

module _ {rs : List Row} {xs ys places : List ℕ} {d e : ℕ} (a : DirectBy rs A xs d) (b : DirectBy rs B ys e)
    (p : Placed (take e ys) places) where
  -- each row of the order of A stands in that of B
  at : {k : ℕ} → k ∈ take d xs → Stands (take e ys) places k
  at {k} m = stands p ((b.direct k).1 ((a.direct k).0 m))

  module _ {j k : ℕ} (m : j ∈ take d xs) (n : k ∈ take d xs) where
    -- the row at the lower place is ahead
    place-ahead : place_at places j < place_at places k → Ahead rs B j k
    place-ahead l =
        rw ((at m).it, (at n).it) at (b.in_order.ahead (place_at places j) (place_at places k) l (at n).within)

    -- at one place stands one row
    same_place : place_at places j ≡ place_at places k → j ≡ k
    same_place o = sym (at m).it ∙ ap (λ i. get_or (take e ys) i 0) o ∙ (at n).it

  -- the row that is ahead has the lower place
  ahead-place :
      {j k : ℕ} → j ∈ take d xs → k ∈ take d xs → Ahead rs B j k → Dec (place_at places j < place_at places k)
      → Dec (place_at places j ≡ place_at places k) → place_at places j < place_at places k
  ahead-place m n f (yes l) same = l
  ahead-place {j} {k} m n f (no l) (yes o) =
      let g : Ahead rs B k k = rw (same_place m n o) at f in absurd (ahead-not rs B k k g g)
  ahead-place {j} {k} m n f (no l) (no o) = absurd (ahead-not rs B j k f (place-ahead n m (omega arith)))

  pub arranged-by : d ≤ length xs → Arranged rs (take d xs) places
  arranged-by h =
      record {
        in_order = a.in_order;
        direct = a.direct;
        few = omega (arith, length-take-le d xs h, a.few);
        below = λ k m. omega (arith, (at m).within, no_longer b a);
        by_b = λ j k m n. (
          place-ahead m n,
          λ f.
              let q = place_at places in ahead-place m n f (dec_lt (q j) (q k)) (ℕ_discrete (q j) (q k)),
        );
      }
