-- A difference of two numbers (backbone/proofs/Signed), as a signed number of 64 bits.
--     Half, read     a number below 2^63 is read as it is
--     fits           the difference of two such numbers fits
-- Assumes nothing.
use Prim.Native.Nat.{ℕ, ◌<◌}
use mathlib.Core.Path.{◌≡◌}
use native.Mathlib.Omega.{arith}
use lib.IntN.{ℤ, pos}
use mir.Syntax.{w64}
use mir.Val.{SFits, to_z}
use mir.ValLaws.{to_z-of_z}
use Rattle.backbone.proofs.Signed.{Difference}

-- below 2^63
abbrev pub Half : ℕ → Type 0
Half n = n < 9223372036854775808

pub read : (n : ℕ) → Half n → to_z w64 n ≡ pos n
read n h = to_z-of_z w64 (pos n) (record { sfits = h })

pub fits : {a b : ℕ} {z : ℤ} → Half a → Half b → Difference a b z → SFits w64 z
fits ha hb (Difference.rest n e) = record { sfits = omega arith }
fits ha hb (Difference.lack n e) = record { sfits = omega arith }
