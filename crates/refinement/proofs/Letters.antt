-- Any refinement, resolved or not, has the letters of its matches, on both sides.
--     letter-of-row       a letter of a row is a letter of a match ..
--     letter-on-row       .. and a letter of a match is one of a row
-- Assumes nothing.
use Prim.Native.Nat.{ℕ}
use mathlib.Core.List.{List}
use native.Mathlib.Omega.{arith}
use Rattle.refinement.specs.declared.Side.{Side}
use Rattle.refinement.specs.Order.{◌∈◌}
use Rattle.refinement.specs.Match.{Match}
use Rattle.refinement.specs.Refinement.{Matches, Holds, Refines}
use Rattle.refinement.proofs.Tiling.{cover-letter}

module _ {ms rs : List Match} (M : Matches ms) (T : Refines ms rs) (s : Side) (x : ℕ) where
  pub letter-of-row : {r : Match} → r ∈ rs → Holds r s x → (m : Match) × (m ∈ ms) × Holds m s x
  letter-of-row {r} i h =
      let o = T.pieces r i in
      (o.0, o.1, omega (arith, o.2.starts_within s, o.2.ends_within s, h.from_left, h.before_right))

  pub letter-on-row : {m : Match} → m ∈ ms → Holds m s x → (r : Match) × (r ∈ rs) × Holds r s x
  letter-on-row i h = let c = cover-letter M T i s x h in (c.0, c.1, c.3)
