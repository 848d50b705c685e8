-- The slots of the store: how a piece is looked for, and how a row is taken in.
--     same-share                                rows of the same piece are in one share
--     Passing                                   looking for a piece: what was passed is taken and another piece
--     known-held, fresh-gap                     what that says of the rows passed
--     kept_more                                 the store after one more row that it lacks no piece of
--     enrolled-known, enrolled-fresh            after a row whose piece it holds, and after one that it takes
-- Assumes nothing.
use Rattle.std.proofs.Common.{◌≡◌, ℕ, ◌+◌, ◌-◌, ◌<◌, ◌≤◌, true, false, List, length, get_or, take, set, refl, ⊎_elim, arith, get_or-set_other, get_or-set_same}
use native.Mathlib.Decide.{dec_lt, ℕ_discrete}
use Rattle.rows.specs.Rows.{row_at}
use Rattle.table.specs.Distinct.{same, occurs}
use Rattle.distinct_store.specs.Store.{summed, mixed, spot, share_of, home_of, stored_at, Inside, Held, Kept}
use Rattle.distinct_store.specs.Store.{Gap, Entered}
use Rattle.rows.specs.declared.Row.{Row}
use Rattle.distinct_store.specs.declared.Dealing.{Dealing}
use Rattle.table.proofs.Pieces.{false_of, never_both, same-fields, occurs-before, occurs-same, occurs-passed}

-- ---- dealing

same_spot : (by : Dealing) (r s : Row) → same r s ≡ true → spot by r ≡ spot by s
unfolding spot mixed summed
same_spot by r s e =
    let f = same-fields r s e in
    rw (f.left_a, f.left_b, f.letters, f.direction)

pub same-share : (by : Dealing) (r s : Row) → same r s ≡ true → share_of by r ≡ share_of by s
same-share by r s e = rw (same_spot by r s e)

same_home : (by : Dealing) (r s : Row) → same r s ≡ true → home_of by r ≡ home_of by s
same_home by r s e = rw (same_spot by r s e)

-- ---- looking for a piece

pub record Passing (rs : List Row) (slots : List ℕ) (from : ℕ) (r : Row) (at : ℕ) : Type 0 where
  pub stored : Inside rs slots
  pub start : from ≤ at
  pub taken : (i : ℕ) → from ≤ i → i < at → 0 < get_or slots i 0
  pub others : (i : ℕ) → from ≤ i → i < at → same (stored_at rs slots i) r ≡ false

-- ---- what the store says of the rows passed

module _ {by : Dealing} {share : ℕ} {rs : List Row} {k : ℕ} {slots : List ℕ} (h : Kept by share rs k slots)
    (r : Row) where
  pub known-held : k ≤ length rs → Held rs slots r → occurs r (take k rs) ≡ true
  known-held inside found =
      let j = found.slot in
      occurs-before rs k inside r (get_or slots j 0 - 1) (omega (arith, found.taken, h.earlier j)) found.it

  gap-none : {at : ℕ} → Gap rs slots (home_of by r) r at → Held rs slots r → ⊥
  gap-none {at} g found =
      let j = found.slot in
      let home : home_of by (stored_at rs slots j) ≡ home_of by r = same_home by (stored_at rs slots j) r found.it in
      let near : home_of by r ≤ j = rw home at (h.behind j found.taken) in
      elim (dec_lt j at) [
        | yes passed ↦ never_both found.it (g.others j near passed)
        | no behind ↦
            let kept : 0 < get_or slots at 0
            = h.unbroken j at found.taken (rw home g.start) (omega arith) in
            omega (arith, g.free)
      ]

  pub fresh-gap : {at : ℕ} → share_of by r ≡ share → Gap rs slots (home_of by r) r at → occurs r (take k rs) ≡ false
  fresh-gap mine g = false_of (occurs r (take k rs)) (λ o. gap-none g (h.complete r mine o))

-- ---- one more row

module _ {by : Dealing} {share : ℕ} {rs : List Row} {k : ℕ} {slots : List ℕ} (h : Kept by share rs k slots)
    (inside : k < length rs) where
  pub kept_more : ((r : Row) → share_of by r ≡ share → same (row_at rs k) r ≡ true → occurs r (take k rs) ≡ true)
      → Kept by share rs (k + 1) slots
  kept_more lacks-none =
      record {
        earlier = λ j. omega (arith, h.earlier j);
        behind = h.behind;
        unbroken = h.unbroken;
        complete = λ r mine o.
            h.complete r mine
            (⊎_elim (λ passed. passed) (λ now. lacks-none r mine now) (occurs-passed rs k inside r o));
      }

  module _ {at : ℕ} (g : Gap rs slots (home_of by (row_at rs k)) (row_at rs k) at) where
    here : get_or (set slots at (k + 1)) at 0 ≡ k + 1
    here = get_or-set_same slots at (k + 1) 0 g.within

    there : (j : ℕ) → (j ≡ at → ⊥) → get_or (set slots at (k + 1)) j 0 ≡ get_or slots j 0
    there j apart = get_or-set_other slots at j (k + 1) 0 apart

    stored_here : stored_at rs (set slots at (k + 1)) at ≡ row_at rs k
    stored_here = let back : k + 1 - 1 ≡ k = omega arith in rw (here, back)

    held_more : (r : Row) → Held rs slots r → Held rs (set slots at (k + 1)) r
    held_more r found =
        let j = found.slot in
        let apart : j ≡ at → ⊥ = λ e. omega (arith, rw e at found.taken, g.free) in
        record { slot = j; taken = rw (there j apart) found.taken; it = rw (there j apart) found.it }

    kept-stored : Kept by share rs (k + 1) (set slots at (k + 1))
    kept-stored =
        record {
          earlier = λ j.
              elim (ℕ_discrete j at) [
                | yes e ↦ rw (e, here) (omega arith)
                | no apart ↦ rw (there j apart) (omega (arith, h.earlier j))
              ];
          behind = λ j t.
              elim (ℕ_discrete j at) [
                | yes e ↦ rw (e, stored_here) g.start
                | no apart ↦ rw (there j apart) (h.behind j (rw (there j apart) at t))
              ];
          unbroken = λ j i t l l'.
              elim (ℕ_discrete i at) [
                | yes e ↦ rw (e, here) (omega arith)
                | no apart ↦
                    rw (there i apart)
                    (elim (ℕ_discrete j at) [
                      | yes e' ↦ g.taken i (rw (e', stored_here) at l) (omega arith)
                      | no apart' ↦
                          h.unbroken j i (rw (there j apart') at t) (rw (there j apart') at l) l'
                    ])
              ];
          complete = λ r mine o.
              ⊎_elim (λ passed. held_more r (h.complete r mine passed))
              (λ now.
              let some : 0 < k + 1 = omega arith in
              record { slot = at; taken = rw here some; it = rw stored_here now })
              (occurs-passed rs k inside r o);
        }

module _ {by : Dealing} {rs : List Row} {k : ℕ} {slots : List ℕ} {row : Row} (h : Kept by (share_of by row) rs k slots)
    (inside : k < length rs) (it : row ≡ row_at rs k) where
  pub enrolled-known : Held rs slots row → Entered by (share_of by row) rs k slots true
  enrolled-known found =
      let known : occurs (row_at rs k) (take k rs) ≡ true
      = rw it at (known-held h row (omega arith) found) in
      record {
        told = known;
        kept = kept_more h inside (λ r mine e. occurs-same (row_at rs k) r (take k rs) e known);
      }

  pub enrolled-fresh : {from at : ℕ} → from ≡ home_of by row → Gap rs slots from row at
      → Entered by (share_of by row) rs k (set slots at (k + 1)) false
  enrolled-fresh {from} {at} home g =
      let gap : Gap rs slots (home_of by row) row at = rw home at g in
      record { told = rw it at (fresh-gap h row refl gap); kept = kept-stored h inside (rw it at gap) }
