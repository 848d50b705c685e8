-- The picked rows of a run, enrolled one after the other.
--     dealt-passed              after rows of other shares
--     Gone                      the first i of them are enrolled, and the rows of the share from `at` on are the others
--     gone-next, gone-kept      the next is a row, and the store is kept up to it
--     gone-known, gone-fresh    after one whose piece has its first row, and after a first row
--     gone-bound, gone-all      no more counted than rows; behind the last the whole run is dealt
-- Assumes nothing.
use Prim.Native.Nat.{ℕ, zero, suc, ◌+◌, ◌-◌, ◌≤◌, ◌<◌}
use mathlib.Core.Bool.{true, false}
use mathlib.Core.Path.{◌≡◌}
use mathlib.Core.List.{List}
use native.Mathlib.Omega.{arith}
use native.Mathlib.Decide.{ℕ_discrete}
use lib.ListN.{length, get_or}
use Rattle.rows.specs.Rows.{row_at}
use Rattle.distinct_store.specs.Store.{share_of, Kept, Entered, Dealt}
use Rattle.picked_rows.specs.Picking.{Picked}
use Rattle.rows.specs.declared.Row.{Row}
use Rattle.distinct_store.specs.declared.Dealing.{Dealing}
use Rattle.distinct_store.proofs.Passes.{dealt-bound, dealt-other, dealt-known, dealt-fresh}

-- ---- rows of other shares

module _ {by : Dealing} {share : ℕ} {rs : List Row} {slots : List ℕ} {found k : ℕ}
    (d : Dealt by share rs slots found k) where
  passed : (n : ℕ) → k + n ≤ length rs
      → ((m : ℕ) → k ≤ m → m < k + n → share_of by (row_at rs m) ≡ share → ⊥) → Dealt by share rs slots found (k + n)
  passed zero inside others = let none : k + 0 ≡ k = omega arith in rw none d
  passed (suc n) inside others =
      let more : k + suc n ≡ k + n + 1 = omega arith in
      let before = passed n (omega arith) (λ m l l'. others m l (omega arith)) in
      rw more (dealt-other before (omega arith) (others (k + n) (omega arith) (omega arith)))

  dealt-passed : (to : ℕ) → k ≤ to → to ≤ length rs
      → ((m : ℕ) → k ≤ m → m < to → share_of by (row_at rs m) ≡ share → ⊥) → Dealt by share rs slots found to
  dealt-passed to l inside others =
      let there : k + (to - k) ≡ to = omega arith in
      rw there at (passed (to - k) (omega arith) (λ m l l'. others m l (omega arith)))

-- ---- the picked rows

pub record Gone (by : Dealing) (share : ℕ) (rs : List Row) (from to : ℕ) (ns : List ℕ) (c i : ℕ) (slots : List ℕ)
    (found : ℕ) : Type 0 where
  pub inside : to ≤ length rs
  pub picked : Picked by share rs from to ns c
  pub at : ℕ
  pub reached : at ≤ to
  pub dealt : Dealt by share rs slots found at
  pub next : (j : ℕ) → i ≤ j → j < c → at ≤ get_or ns j 0
  pub rest : (k : ℕ) → at ≤ k → k < to → share_of by (row_at rs k) ≡ share
      → (j : ℕ) × (i ≤ j) × (j < c) × (get_or ns j 0 ≡ k)

module _ {by : Dealing} {share : ℕ} {rs : List Row} {from to : ℕ} {ns : List ℕ} {c i : ℕ} {slots : List ℕ} {found : ℕ}
    (g : Gone by share rs from to ns c i slots found) where
  pub gone-bound : found ≤ length rs
  gone-bound = omega (arith, dealt-bound g.dealt, g.dealt.passed)

  pub gone-all : c ≤ i → Dealt by share rs slots found to
  gone-all ended =
      dealt-passed g.dealt to g.reached g.inside
      (λ m l l' mine. let (j, behind, before, it) = g.rest m l l' mine in omega arith)

  module _ (more : i < c) where
    pub gone-next : get_or ns i 0 < length rs
    gone-next = omega (arith, g.picked.below i more, g.inside)

    here : Dealt by share rs slots found (get_or ns i 0)
    here =
        dealt-passed g.dealt (get_or ns i 0) (g.next i (omega arith) more) (omega (arith, gone-next))
        (λ m l l' mine.
        let (j, behind, before, it) = g.rest m l (omega (arith, g.picked.below i more)) mine in
        elim (ℕ_discrete j i) [
          | yes e ↦ omega (arith, rw e at it)
          | no apart ↦ omega (arith, g.picked.rising i j (omega arith) before)
        ])

    on : {slots' : List ℕ} {found' : ℕ} → Dealt by share rs slots' found' (get_or ns i 0 + 1)
        → Gone by share rs from to ns c (i + 1) slots' found'
    on d =
        record {
          inside = g.inside;
          picked = g.picked;
          at = get_or ns i 0 + 1;
          reached = omega (arith, g.picked.below i more);
          dealt = d;
          next = λ j l l'. omega (arith, g.picked.rising i j (omega arith) l');
          rest = λ k l l' m.
              let (j, behind, before, it) = g.rest k (omega (arith, g.next i (omega arith) more)) l' m in
              elim (ℕ_discrete j i) [
                | yes e ↦ absurd (omega (arith, rw e at it))
                | no apart ↦ (j, omega arith, before, it)
              ];
        }

    module _ {row : Row} (is : row ≡ row_at rs (get_or ns i 0)) where
      mine : share_of by row ≡ share
      mine = rw is (g.picked.mine i more)

      pub gone-kept : Kept by (share_of by row) rs (get_or ns i 0) slots
      gone-kept = rw mine here.kept

      module _ {slots' : List ℕ} where
        pub gone-known : Entered by (share_of by row) rs (get_or ns i 0) slots' true
            → Gone by share rs from to ns c (i + 1) slots' found
        gone-known e = on (dealt-known here gone-next (rw mine at e))

        pub gone-fresh : Entered by (share_of by row) rs (get_or ns i 0) slots' false
            → Gone by share rs from to ns c (i + 1) slots' (found + 1)
        gone-fresh e = on (dealt-fresh here gone-next (g.picked.mine i more) (rw mine at e))
