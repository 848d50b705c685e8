-- Eight numbers stored one after the other say the set whose fields they are.
--     written             of a slice with room for them
-- Assumes nothing.
use Prim.Native.Nat.{ℕ, ◌≤◌}
use native.Mathlib.Omega.{arith}
use mathlib.Core.Path.{◌≡◌, refl}
use mathlib.Core.List.{List, [], ◌∷◌}
use lib.ListN.{length, set}
use Rattle.cut_set.specs.declared.CutSet.{CutSet}
use Rattle.cut_set_doors.specs.Doors.{set_of}

pub written : (es : List ℕ) → 8 ≤ length es → (s : CutSet) →
    set_of (set (set (set (set (set (set (set (set es 0 s.base) 1 s.long) 2 s.mid) 3 s.done) 4 s.fresh) 5
    s.used) 6 s.top) 7 s.limit) ≡ s
written [] h s = absurd (omega arith)
written (_ ∷ []) h s = absurd (omega arith)
written (_ ∷ _ ∷ []) h s = absurd (omega arith)
written (_ ∷ _ ∷ _ ∷ []) h s = absurd (omega arith)
written (_ ∷ _ ∷ _ ∷ _ ∷ []) h s = absurd (omega arith)
written (_ ∷ _ ∷ _ ∷ _ ∷ _ ∷ []) h s = absurd (omega arith)
written (_ ∷ _ ∷ _ ∷ _ ∷ _ ∷ _ ∷ []) h s = absurd (omega arith)
written (_ ∷ _ ∷ _ ∷ _ ∷ _ ∷ _ ∷ _ ∷ []) h s = absurd (omega arith)
written (_ ∷ _ ∷ _ ∷ _ ∷ _ ∷ _ ∷ _ ∷ _ ∷ es) h s = refl
