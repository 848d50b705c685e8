-- The first cuts: the A ends of the matches.
--     two-added            both ends of one match are added, or there is no room
--     Sown                 the invariant of the loop: the ends of the first k matches are added
--     sown-step, sown-full, sown-end     one match more, no room for one, and its end
-- Assumes nothing.
use Prim.Native.Nat.{ℕ, ◌+◌, ◌≤◌, ◌<◌}
use mathlib.Core.Path.{◌≡◌, subst, ◌∙◌}
use mathlib.Core.Logic.{◌⊎◌, inl, inr, ⊎_elim}
use mathlib.Core.List.{List}
use native.Mathlib.Omega.{arith}
use native.Mathlib.Decide.{ℕ_discrete}
use lib.ListN.{length, get_or}
use Rattle.cut_set.specs.Store.{Stored, Cramped, Adding}
use Rattle.cut_set.specs.declared.CutSet.{CutSet}
use Rattle.cut_set.specs.declared.Added.{Added}
use Rattle.cut_set.proofs.Laws.{stored_same, stored-then, cramped-wide, cramped-then}
use Rattle.seeding.specs.Seeds.{EndAt, EndOf, Seeding}

pub two-added :
    (xs : List ℕ) (s : CutSet) {ys : List ℕ} {t : CutSet} (zs : List ℕ) (x z : ℕ) → Stored (λ y. y ≡ x) xs s ys t
    → (answer : Added) → Adding ys t z zs answer → Seeding (EndAt x z) xs s zs answer
two-added xs s zs x z h (Added.Held u) k = stored-then h k
two-added xs s zs x z h (Added.Full u) k = cramped-then h k

pub record Sown (f r xs : List ℕ) (s : CutSet) (k : ℕ) (ys : List ℕ) (t : CutSet) : Type 0 where
  pub to : k ≤ length f
  pub lengths : length ys ≡ length xs
  pub stored : Stored (EndOf f r k) xs s ys t

module _ {f r xs ys : List ℕ} {s t : CutSet} {k : ℕ} (w : Sown f r xs s k ys t) (l : k < length f) where
  pub sown-step :
      {zs : List ℕ} {u : CutSet} → length zs ≡ length ys → Stored (EndAt (get_or f k 0) (get_or r k 0)) ys t zs u
      → Sown f r xs s (k + 1) zs u
  sown-step e h = record {
    to = omega arith;
    lengths = e ∙ w.lengths;
    stored = stored_same (λ y. (
      ⊎_elim
          (λ p. record { index = p.index; below = omega (arith, p.below); is = p.is })
          (λ p. record { index = k; below = omega arith; is = p }),
      λ p. part y p (ℕ_discrete p.index k),
    ))
        (stored-then w.stored h);
  }
    where
      part :
          (y : ℕ) (p : EndOf f r (k + 1) y) → Dec (p.index ≡ k)
          → EndOf f r k y ⊎ EndAt (get_or f k 0) (get_or r k 0) y
      part y p (yes e) = inr (subst (λ (j : ℕ). EndAt (get_or f j 0) (get_or r j 0) y) e p.is)
      part y p (no e) = inl (record { index = p.index; below = omega (arith, p.below, e); is = p.is })

  pub sown-full :
      {zs : List ℕ} {u : CutSet} → Cramped (EndAt (get_or f k 0) (get_or r k 0)) ys t zs u
      → Cramped (EndOf f r (length f)) xs s zs u
  sown-full c = cramped-wide
      (λ y. ⊎_elim
      (λ p. record { index = p.index; below = omega (arith, p.below); is = p.is })
      (λ p. record { index = k; below = l; is = p }))
      (cramped-then w.stored c)

pub sown-end :
    {f r xs ys : List ℕ} {s t : CutSet} {k : ℕ} → Sown f r xs s k ys t → length f ≤ k
    → Stored (EndOf f r (length f)) xs s ys t
sown-end {f} {r} {xs} {ys} {s} {t} w l =
    subst (λ (n : ℕ). Stored (EndOf f r n) xs s ys t) (omega (arith, w.to)) w.stored
