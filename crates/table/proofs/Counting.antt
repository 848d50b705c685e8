-- Rows added up and counted.
--     total-snoc                      a sum with one more row
--     count-inside                    no more rows are counted than there are
--     count-agrees                    a test that always comes out the same
--     count-every, count-no-one       all rows, no row
--     count-joined                    two tests of which a row passes one if it passes a third, and else none
-- Assumes nothing.
use Prim.Native.Nat.{ℕ, suc, ◌+◌, ◌≤◌, zero-le}
use mathlib.Core.Bool.{Bool, true, false, cond}
use mathlib.Core.Path.{◌≡◌, refl}
use mathlib.Core.List.{List, [], ◌∷◌, ◌++◌}
use native.Mathlib.Omega.{arith}
use lib.ListN.{length}
use Rattle.table.specs.Summing.{total, count}
use Rattle.rows.specs.declared.Row.{Row}

pub total-snoc : (f : Row → ℕ) (rs : List Row) (r : Row) → total f (rs ++ r ∷ []) ≡ total f rs + f r
unfolding total
total-snoc f [] r = omega arith
total-snoc f (q ∷ rs) r = omega (arith, total-snoc f rs r)

pub count-inside : (p : Row → Bool) (rs : List Row) → count p rs ≤ length rs
unfolding total
count-inside p [] = zero-le
count-inside p (r ∷ rs) = go (p r) (count-inside p rs)
  where
    go : (b : Bool) → count p rs ≤ length rs → cond b 1 0 + count p rs ≤ suc (length rs)
    go true h = omega arith
    go false h = omega arith

pub count-agrees : (p : Row → Bool) (b : Bool) → ((r : Row) → p r ≡ b) → (rs : List Row)
    → count p rs ≡ count (λ r. b) rs
unfolding total
count-agrees p b h [] = refl
count-agrees p b h (r ∷ rs) = rw (h r, count-agrees p b h rs)

pub count-every : (rs : List Row) → count (λ r. true) rs ≡ length rs
unfolding total
count-every [] = refl
count-every (r ∷ rs) = omega (arith, count-every rs)

pub count-no-one : (rs : List Row) → count (λ r. false) rs ≡ 0
unfolding total
count-no-one [] = refl
count-no-one (r ∷ rs) = omega (arith, count-no-one rs)

pub count-joined : (p q u : Row → Bool) → ((r : Row) → cond (p r) 1 0 + cond (q r) 1 0 ≡ cond (u r) 1 0)
    → (rs : List Row) → count p rs + count q rs ≡ count u rs
unfolding total
count-joined p q u h [] = refl
count-joined p q u h (r ∷ rs) = omega (arith, h r, count-joined p q u h rs)
