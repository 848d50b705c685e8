-- Numbers are noted one after the other.
--     noted_one       a number is noted by setting its bit
--     Clearing            the invariant of the loop that clears the notes place by place
--     noted-same      notes are kept where their places are
-- Assumes nothing.
use Prim.Native.Nat.{ℕ, ◌+◌, ◌-◌, ◌/◌, ◌%◌, ◌^◌, ◌≤◌}
use native.Mathlib.Omega.{arith}
use mathlib.Core.Path.{◌≡◌, sym, ap, ◌∙◌}
use mathlib.Core.List.{List}
use mathlib.Core.Logic.{◌⊎◌, inl, inr, ⊎_elim}
use lib.ListN.{length, get_or, set}
use lib.Seq.{get_or-set_same, get_or-set_other}
use lib.Bits.{bit_or}
use Rattle.runs.specs.Runs.{Same}
use Rattle.runs.proofs.Membership.{lt-or-le}
use Rattle.noting.specs.Notes.{Slot, Notes, Noted, Noting, OnlyNotes, slot_of, place_of}
use Rattle.noting.proofs.Bit.{or-sets, or-keeps, slot-place}

module _ {xs : List ℕ} {top limit x slot : ℕ} (n : Notes xs top limit) (s : Slot x (limit - top) slot) where
  abbrev pub at : ℕ
  at = top + slot / 32

  abbrev pub word : ℕ
  word = bit_or (get_or xs at 0) (2 ^ (slot % 32))

  here : get_or (set xs at word) at 0 ≡ word
  here = get_or-set_same xs at word 0 (omega (arith, s.place, n.some, n.within))

  same_place : (i j : ℕ) → (i ≡ j) ⊎ (i ≡ j → ⊥)
  same_place i j = ⊎_elim (λ h. inr (λ e. omega arith))
      (λ h. ⊎_elim (λ u. inr (λ e. omega arith)) (λ u. inl (omega arith)) (lt-or-le j i)) (lt-or-le i j)

  stays : (y : ℕ) → Noted xs top limit y → (place_of top limit y ≡ at) ⊎ (place_of top limit y ≡ at → ⊥)
      → Noted (set xs at word) top limit y
  stays y p (inl e) =
      rw (ap (λ (i : ℕ). get_or (set xs at word) i 0) e ∙ here
      ∙ ap (λ (i : ℕ). bit_or (get_or xs i 0) (2 ^ (slot % 32))) (sym e))
      (or-keeps (get_or xs (place_of top limit y) 0) (2 ^ (slot % 32)) (slot_of y (limit - top) % 32) p)
  stays y p (inr d) = rw (get_or-set_other xs at (place_of top limit y) word 0 d) p

  pub noted_one : Noting (λ y. y ≡ x) xs top limit (set xs at word)
  noted_one = record {
    only = λ k o. get_or-set_other xs at k word 0
        (λ e. ⊎_elim (λ h. omega arith) (λ h. omega (arith, s.place, n.some)) o);
    now = λ y e. rw e (rw (sym s.is) (rw here (or-sets (get_or xs at 0) (slot % 32))));
    still = λ y p. stays y p (same_place (place_of top limit y) at);
  }

-- the notes are cleared up to place k
pub record Clearing (xs : List ℕ) (top limit : ℕ) (ys : List ℕ) (k : ℕ) : Type 0 where
  pub only : OnlyNotes xs top limit ys
  pub from : top ≤ k
  pub size : length ys ≡ length xs

pub noted-same : {xs : List ℕ} (ys : List ℕ) {top limit : ℕ} → Notes xs top limit → Same xs ys top limit
    → (y : ℕ) → Noted xs top limit y → Noted ys top limit y
noted-same ys {top} {limit} n e y p =
    rw (e (place_of top limit y) (omega arith) (omega (arith, slot-place y (limit - top) (omega (arith, n.some))))) p
