-- Values stored in a list from a place on, one behind the other (`sets`).
--     sets-append     of two lists of values the second behind the first
--     sets_behind     a place behind them keeps its value
--     sets-at         the value behind n others is stored n places on
-- Assumes nothing.
use Prim.Native.Nat.{ℕ, suc, ◌+◌, ◌≤◌, ◌<◌}
use mathlib.Core.Path.{◌≡◌, refl, ap, ◌∙◌}
use mathlib.Core.List.{List, [], ◌∷◌, ◌++◌}
use native.Mathlib.Omega.{arith}
use lib.ListN.{length, get_or, set, length-set}
use lib.Seq.{sets, get_or-set_same, get_or-set_other}

pub sets-append : {X : Type 0} (vs ws l : List X) (i : ℕ) → sets l i (vs ++ ws) ≡ sets (sets l i vs) (i + length vs) ws
sets-append [] ws l i = let e : i ≡ i + 0 = omega arith in ap (λ (n : ℕ). sets l n ws) e
sets-append (v ∷ vs) ws l i =
    let e : suc i + length vs ≡ i + suc (length vs) = omega arith in
    sets-append vs ws (set l i v) (suc i) ∙ ap (λ (n : ℕ). sets (sets (set l i v) (suc i) vs) n ws) e

module _ {X : Type 0} (blank : X) where
  -- a place before them keeps its value
  sets-before : (vs l : List X) (i k : ℕ) → k < i → get_or (sets l i vs) k blank ≡ get_or l k blank
  sets-before [] l i k h = refl
  sets-before (v ∷ vs) l i k h =
      sets-before vs _ (suc i) k (omega arith) ∙ get_or-set_other l i k v blank (omega arith)

  pub sets_behind : (vs l : List X) (i k : ℕ) → i + length vs ≤ k → get_or (sets l i vs) k blank ≡ get_or l k blank
  sets_behind [] l i k h = refl
  sets_behind (v ∷ vs) l i k h =
      sets_behind vs _ (suc i) k (omega arith) ∙ get_or-set_other l i k v blank (omega arith)

  pub sets-at : (before after : List X) (v : X) (l : List X) (i k : ℕ) → i + length before ≡ k → k < length l
      → get_or (sets l i (before ++ v ∷ after)) k blank ≡ v
  sets-at [] after v l i k e h =
      let here : i ≡ k = omega arith in
      rw here (sets-before after _ (suc k) k (omega arith) ∙ get_or-set_same l k v blank h)
  sets-at (x ∷ before) after v l i k e h =
      sets-at before after v (set l i x) (suc i) k (omega arith) (omega (arith, length-set l i x))
