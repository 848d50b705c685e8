-- Matches passed over, one after the other and 32 at a time.
--     passable-step, passable-then    one match more, and more of them
--     Sifted              what is known once some of 32 matches are looked at
-- Assumes nothing.
use Prim.Native.Nat.{ℕ, ◌+◌, ◌≤◌, ◌<◌}
use native.Mathlib.Omega.{arith}
use native.Mathlib.Decide.{ℕ_discrete, dec_lt}
use mathlib.Core.Path.{◌≡◌}
use mathlib.Core.Bool.{Bool, false}
use mathlib.Core.List.{List}
use lib.ListN.{length, get_or}
use Rattle.near_matches.specs.Near.{reaching, Passable}

module _ {f g : List ℕ} {lowest highest k : ℕ} where
  pub passable-step :
      {n : ℕ} → Passable f g lowest highest k n → n < length f
      → reaching (get_or f n 0) (get_or g n 0) lowest highest ≡ false → Passable f g lowest highest k (n + 1)
  passable-step {n} p h e = record {
    from = omega (arith, p.from);
    to = omega arith;
    past = λ j a b. go j a b (ℕ_discrete j n);
  }
    where
      go : (j : ℕ) → k ≤ j → j < n + 1 → Dec (j ≡ n) → reaching (get_or f j 0) (get_or g j 0) lowest highest ≡ false
      go j a b (yes q) = rw q e
      go j a b (no q) = p.past j a (omega arith)

  pub passable-then :
      {m n : ℕ} → Passable f g lowest highest k m → Passable f g lowest highest m n → Passable f g lowest highest k n
  passable-then {m} {n} p q = record {
    from = omega (arith, p.from, q.from);
    to = q.to;
    past = λ j a b. elim (dec_lt j m) [ yes h ↦ p.past j a h | no h ↦ q.past j (omega arith) b ];
  }

-- none of the matches from index k up to `at` reaches into the stretch, unless `any` says that one does
pub record Sifted (f g : List ℕ) (lowest highest k : ℕ) (any : Bool) (at : ℕ) : Type 0 where
  pub to : at ≤ k + 32
  pub past : any ≡ false → Passable f g lowest highest k at
