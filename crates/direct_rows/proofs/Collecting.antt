-- The numbers of the direct rows, collected row by row.
--     PlaceOf                  a number stands at a place before d
--     CollectedTo              those of the first k rows are collected
--     collected-more           the next row is direct, and its number is written behind the others
--     collected-none           the next row is not direct
--     all-collected            at the end all are collected
-- Assumes nothing.
use Prim.Native.Nat.{ℕ, ◌+◌, ◌-◌, ◌≤◌, ◌<◌}
use mathlib.Core.Path.{◌≡◌, ap, sym, ◌∙◌}
use mathlib.Core.Logic.{◌≢◌}
use mathlib.Core.List.{List}
use native.Mathlib.Omega.{arith}
use native.Mathlib.Decide.{ℕ_discrete}
use lib.ListN.{length, get_or, set, take, length-set}
use lib.Seq.{length-take-le, get_or-set_same, get_or-set_other, get_or-take}
use borrow.Author.Count.{below_more}
use Rattle.rows.specs.declared.Row.{Row}
use Rattle.rows.specs.Rows.{row_at}
use Rattle.backbone.specs.Chains.{Direct}
use Rattle.backbone.proofs.Places.{at-∈}
use Rattle.direct_rows.specs.Direct.{Collected}

pub record PlaceOf (xs : List ℕ) (d k : ℕ) : Type 0 where
  pub place : ℕ
  pub within : place < d
  pub it : get_or xs place 0 ≡ k

pub record CollectedTo (rs : List Row) (out out' : List ℕ) (d k : ℕ) : Type 0 where
  pub long : length out' ≡ length out
  pub within : k ≤ length rs
  pub few : d ≤ k
  pub direct : (i : ℕ) → i < d → Direct rs (get_or out' i 0)
  pub low : (i : ℕ) → i < d → get_or out' i 0 ≤ k
  pub rising : (i j : ℕ) → i < j → j < d → get_or out' i 0 < get_or out' j 0
  pub all : (j : ℕ) → Direct rs j → j ≤ k → PlaceOf out' d j

module _ {rs : List Row} {out out' : List ℕ} {d k : ℕ} (c : CollectedTo rs out out' d k) (room : length rs ≤ length out)
  where
    module _ (h : k < length rs) where
      -- the number of the next row
      next : k + 1 - 1 ≡ k
      next = omega arith

      pub collected-none : (row_at rs k).direction ≢ 0 → CollectedTo rs out out' d (k + 1)
      collected-none n =
          record {
            long = c.long;
            within = omega arith;
            few = omega (arith, c.few);
            direct = c.direct;
            low = λ i l. omega (arith, c.low i l);
            rising = c.rising;
            all = λ j q l. c.all j q (omega (arith, other j q));
          }
        where
          other : (j : ℕ) → Direct rs j → j ≢ k + 1
          other j q e = n (ap (λ i. (row_at rs i).direction) (omega arith) ∙ q.direct)

      pub collected-more : (row_at rs k).direction ≡ 0 → CollectedTo rs out (set out' d (k + 1)) (d + 1) (k + 1)
      collected-more e =
          record {
            long = length-set out' d (k + 1) ∙ c.long;
            within = omega arith;
            few = omega (arith, c.few);
            direct = below_more _ d (λ i l. rw (old i l) (c.direct i l)) (rw new it);
            low = below_more _ d (λ i l. omega (arith, old i l, c.low i l)) (omega (arith, new));
            rising = λ i j l m. rises i j l m (ℕ_discrete j d);
            all = λ j q l. found j q l (ℕ_discrete j (k + 1));
          }
        where
          old : (i : ℕ) → i < d → get_or (set out' d (k + 1)) i 0 ≡ get_or out' i 0
          old i l = get_or-set_other out' d i (k + 1) 0 (λ z. omega arith)

          new : get_or (set out' d (k + 1)) d 0 ≡ k + 1
          new = get_or-set_same out' d (k + 1) 0 (omega (arith, c.few, c.long))

          it : Direct rs (k + 1)
          it = record { from_one = omega arith; to_last = omega arith; direct = rw next e }

          rises :
              (i j : ℕ) → i < j → j < d + 1 → Dec (j ≡ d)
              → get_or (set out' d (k + 1)) i 0 < get_or (set out' d (k + 1)) j 0
          rises i j l m (yes z) =
              let o : i < d = omega arith in rw z (omega (arith, old i o, c.low i o, new))
          rises i j l m (no z) =
              let o : j < d = omega arith in omega (arith, old i (omega arith), old j o, c.rising i j l o)

          found : (j : ℕ) → Direct rs j → j ≤ k + 1 → Dec (j ≡ k + 1) → PlaceOf (set out' d (k + 1)) (d + 1) j
          found j q l (yes z) = record { place = d; within = omega arith; it = new ∙ sym z }
          found j q l (no z) =
              let p = c.all j q (omega arith) in
              record { place = p.place; within = omega (arith, p.within); it = old p.place p.within ∙ p.it }

    pub all-collected : length rs ≤ k → Collected rs out' d
    all-collected h =
        record {
          few = omega (arith, c.few, c.within);
          direct = c.direct;
          rising = c.rising;
          all = λ j q.
              let p = c.all j q (omega (arith, q.to_last)) in
              let l = p.within in
              let long : length (take d out') ≡ d = length-take-le d out' (omega (arith, c.few, c.within, c.long)) in
              rw (get_or-take d out' p.place 0 l, p.it) at (at-∈ (take d out') p.place (omega arith));
        }
