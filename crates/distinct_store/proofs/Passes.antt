-- What a pass over the rows keeps, that counts the first rows of the pieces of one share.
--     dealt-starts, dealt-bound      before the first row; no more counted than passed
--     dealt-other                    after a row of another share
--     dealt-known, dealt-fresh       after a row whose piece has its first row, and after a first row
-- Assumes nothing.
use Rattle.std.proofs.Common.{◌≡◌, ℕ, ◌+◌, ◌<◌, ◌≤◌, Bool, true, false, cond, List, [], length, take, sym, refl, ap, ◌∙◌, zero-le, arith, length-take-le, eq-eqb, ne_eqb}
use Rattle.rows.specs.Rows.{row_at}
use Rattle.table.specs.Distinct.{occurs, firsts_after, first_of_each}
use Rattle.table.specs.Summing.{total, count}
use Rattle.distinct_store.specs.Store.{share_of, in_share, Empty, Entered, firsts_dealt, Dealt}
use Rattle.rows.specs.declared.Row.{Row}
use Rattle.distinct_store.specs.declared.Dealing.{Dealing}
use Rattle.table.proofs.Counting.{total-snoc, count-inside}
use Rattle.table.proofs.Pieces.{never_both, firsts-known, firsts-fresh, firsts-inside}
use Rattle.distinct_store.proofs.Slots.{same-share, kept_more}

pub dealt-starts : (by : Dealing) (share : ℕ) (rs : List Row) {slots : List ℕ} → Empty slots
    → Dealt by share rs slots 0 0
unfolding total firsts_after occurs
dealt-starts by share rs e =
    record {
      passed = zero-le;
      counted = refl;
      kept = record {
        earlier = λ j. omega (arith, e.empty j);
        behind = λ j t. absurd (omega (arith, e.empty j));
        unbroken = λ j i t l l'. absurd (omega (arith, e.empty j));
        complete = λ r mine o. absurd (never_both o refl);
      };
    }

module _ {by : Dealing} {share : ℕ} {rs : List Row} {slots : List ℕ} {found k : ℕ}
    (d : Dealt by share rs slots found k) where
  pub dealt-bound : found ≤ k
  dealt-bound =
      omega (
        arith,
        d.counted,
        count-inside (in_share by share) (first_of_each (take k rs)),
        firsts-inside [] (take k rs),
        length-take-le k rs d.passed,
      )

  module _ (inside : k < length rs) where
    none_more : occurs (row_at rs k) (take k rs) ≡ true → found ≡ firsts_dealt by share rs (k + 1)
    none_more o = d.counted ∙ sym (ap (count (in_share by share)) (firsts-known rs k inside o))

    one_more : occurs (row_at rs k) (take k rs) ≡ false
        → firsts_dealt by share rs (k + 1) ≡ found + cond (in_share by share (row_at rs k)) 1 0
    one_more o =
        let snoc = total-snoc (λ r. cond (in_share by share r) 1 0) (first_of_each (take k rs)) (row_at rs k) in
        rw (firsts-fresh rs k inside o, snoc, d.counted)

    pub dealt-other : (share_of by (row_at rs k) ≡ share → ⊥) → Dealt by share rs slots found (k + 1)
    dealt-other apart =
        record {
          passed = omega arith;
          counted = go (occurs (row_at rs k) (take k rs)) refl;
          kept = kept_more d.kept inside
              (λ r mine e. absurd (apart (same-share by (row_at rs k) r e ∙ mine)));
        }
      where
        go : (b : Bool) → occurs (row_at rs k) (take k rs) ≡ b → found ≡ firsts_dealt by share rs (k + 1)
        go true o = none_more o
        go false o = sym (one_more o ∙ rw (ne_eqb (share_of by (row_at rs k)) share apart) (omega arith))

    module _ {slots' : List ℕ} where
      pub dealt-known : Entered by share rs k slots' true → Dealt by share rs slots' found (k + 1)
      dealt-known e = record { passed = omega arith; counted = none_more e.told; kept = e.kept }

      pub dealt-fresh : share_of by (row_at rs k) ≡ share → Entered by share rs k slots' false
          → Dealt by share rs slots' (found + 1) (k + 1)
      dealt-fresh mine e =
          record {
            passed = omega arith;
            counted = sym (one_more e.told ∙ rw (eq-eqb (share_of by (row_at rs k)) share mine));
            kept = e.kept;
          }
