-- Wrong programs of 02, #105, each with a table of which its count of distinct pieces is false.
--     direction-ignored-refused    a stretch and its mirror image, or any two directions, counted as one piece
--     zero-or-not-refused          directions told apart as zero and not zero: 2 and 3 counted as one piece
--     match-number-refused         the match number compared: one piece under two matches counted as two
-- Assumes nothing.
use Prim.Native.Nat.{ℕ}
use mathlib.Core.Bool.{Bool, true, false, cond}
use mathlib.Core.Path.{◌≡◌, refl, sym}
use mathlib.Core.Logic.{◌≢◌}
use mathlib.Core.List.{[], ◌∷◌}
use native.Mathlib.Omega.{arith}
use Rattle.table.specs.Distinct.{same, occurs, firsts_after, first_of_each, DistinctPieces}
use Rattle.rows.specs.declared.Row.{Row}
use Rattle.table.proofs.Pieces.{false_of, same-fields, fields-same}
use Rattle.table.proofs.OneOfEach.{firsts-each}

abbrev five : ℕ → ℕ → ℕ → ℕ → ℕ → Row
five n a b l d = record { number = n; left_a = a; left_b = b; length = l; direction = d }

-- of two rows
counted : (r s : Row) (told : Bool) → same r s ≡ told → {n : ℕ} → DistinctPieces (r ∷ s ∷ []) n → n ≡ cond told 1 2
unfolding firsts_after occurs
counted r s true e d = sym (rw e at (d.every (first_of_each (r ∷ s ∷ [])) (firsts-each (r ∷ s ∷ []))))
counted r s false e d = sym (rw e at (d.every (first_of_each (r ∷ s ∷ [])) (firsts-each (r ∷ s ∷ []))))

module _ (n m a b l : ℕ) where
  direction-ignored-refused : (d e : ℕ) → d ≢ e → ¬ DistinctPieces (five n a b l d ∷ five m a b l e ∷ []) 1
  direction-ignored-refused d e other c =
      let r = five n a b l d in
      let s = five m a b l e in
      let apart = false_of (same r s) (λ it. other (same-fields r s it).direction) in
      omega (arith, counted r s false apart c)

  zero-or-not-refused : ¬ DistinctPieces (five n a b l 2 ∷ five m a b l 3 ∷ []) 1
  zero-or-not-refused = direction-ignored-refused 2 3 (λ e. omega (arith, e))

  match-number-refused : (d : ℕ) → ¬ DistinctPieces (five n a b l d ∷ five m a b l d ∷ []) 2
  match-number-refused d c =
      let r = five n a b l d in
      let s = five m a b l d in
      let alike = fields-same r s (record { left_a = refl; left_b = refl; letters = refl; direction = refl }) in
      omega (arith, counted r s true alike c)
