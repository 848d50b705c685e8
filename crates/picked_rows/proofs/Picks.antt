-- Rows of one share picked out of a run, one row after the other.
--     Picking                the rows of the share from `from` to k are picked, and are no more than the rows passed
--     picking-on             after one more row, whose number is written down in any case and kept if it is picked
-- Assumes nothing.
use Prim.Native.Nat.{ℕ, ◌+◌, ◌≤◌, ◌<◌}
use mir.Val.{bool_byte}
use mathlib.Core.Path.{◌≡◌, sym, ◌∙◌}
use mathlib.Core.List.{List}
use native.Mathlib.Omega.{arith}
use native.Mathlib.Decide.{ℕ_discrete}
use borrow.Author.Tests.{eq-eqb, ne_eqb}
use lib.ListN.{length, get_or, set, length-set}
use lib.Dec.{eqb}
use lib.Seq.{get_or-set_same, get_or-set_other}
use Rattle.rows.specs.Rows.{row_at}
use Rattle.distinct_store.specs.Store.{share_of}
use Rattle.picked_rows.specs.Picking.{Picked}
use Rattle.rows.specs.declared.Row.{Row}
use Rattle.distinct_store.specs.declared.Dealing.{Dealing}

pub record Picking (by : Dealing) (share : ℕ) (rs : List Row) (from k : ℕ) (ns : List ℕ) (used : ℕ) : Type 0 where
  pub few : from + used ≤ k
  pub picked : Picked by share rs from k ns used

module _ {by : Dealing} {share : ℕ} {rs : List Row} {from k : ℕ} {ns : List ℕ} {used : ℕ}
    (p : Picking by share rs from k ns used) (room : used < length ns) where
  here : get_or (set ns used k) used 0 ≡ k
  here = get_or-set_same ns used k 0 room

  there : (i : ℕ) → i < used → get_or (set ns used k) i 0 ≡ get_or ns i 0
  there i l = get_or-set_other ns used i k 0 (λ e. omega arith)

  other : (share_of by (row_at rs k) ≡ share → ⊥) → Picked by share rs from (k + 1) (set ns used k) used
  other apart =
      record {
        room = omega (arith, length-set ns used k);
        above = λ i l. rw (there i l) (p.picked.above i l);
        below = λ i l. omega (arith, there i l, p.picked.below i l);
        mine = λ i l. rw (there i l) (p.picked.mine i l);
        rising = λ i j l l'. rw (there i (omega arith), there j l') (p.picked.rising i j l l');
        all = λ n l l' m.
            elim (ℕ_discrete n k) [
              | yes e ↦ absurd (apart (rw e at m))
              | no before ↦
                  let (i, inside, it) = p.picked.all n l (omega arith) m in
                  (i, inside, there i inside ∙ it)
            ];
      }

  one : share_of by (row_at rs k) ≡ share → Picked by share rs from (k + 1) (set ns used k) (used + 1)
  one it =
      record {
        room = omega (arith, length-set ns used k);
        above = λ i l.
            elim (ℕ_discrete i used) [
              | yes e ↦ rw (e, here) (omega (arith, p.few))
              | no before ↦ rw (there i (omega arith)) (p.picked.above i (omega arith))
            ];
        below = λ i l.
            elim (ℕ_discrete i used) [
              | yes e ↦ rw (e, here) (omega arith)
              | no before ↦ omega (arith, there i (omega arith), p.picked.below i (omega arith))
            ];
        mine = λ i l.
            elim (ℕ_discrete i used) [
              | yes e ↦ rw (e, here) it
              | no before ↦ rw (there i (omega arith)) (p.picked.mine i (omega arith))
            ];
        rising = λ i j l l'.
            elim (ℕ_discrete j used) [
              | yes e ↦ rw (e, here, there i (omega arith)) (p.picked.below i (omega arith))
              | no before ↦
                  rw (there i (omega arith), there j (omega arith)) (p.picked.rising i j l (omega arith))
            ];
        all = λ n l l' m.
            elim (ℕ_discrete n k) [
              | yes e ↦ (used, omega arith, here ∙ sym e)
              | no before ↦
                  let (i, inside, at) = p.picked.all n l (omega arith) m in
                  (i, omega arith, there i inside ∙ at)
            ];
      }

  pub picking-on : (dealt more : ℕ) → dealt ≡ share_of by (row_at rs k) → more ≡ bool_byte (eqb dealt share)
      → Picking by share rs from (k + 1) (set ns used k) (used + more)
  picking-on dealt more it told =
      elim (ℕ_discrete dealt share) [
        | yes e ↦ rw (told, eq-eqb dealt share e) (record { few = omega (arith, p.few); picked = one (sym it ∙ e) })
        | no apart ↦
            let none : more ≡ 0 = rw (told, ne_eqb dealt share apart) in
            let kept : used + more ≡ used = omega arith in
            rw kept (record { few = omega (arith, p.few); picked = other (λ e. apart (it ∙ e)) })
      ]
