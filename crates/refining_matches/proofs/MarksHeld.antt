-- The marks of a script as two columns of their fields hold them.
--     marks_held     columns of the sides and of the positions of marks hold their places
-- Assumes nothing.
use Prim.Native.Nat.{ℕ, suc, ◌+◌, ◌<◌}
use mathlib.Core.Path.{◌≡◌, refl, ap, ap₂, ◌∙◌}
use mathlib.Core.List.{List, [], ◌∷◌, map}
use native.Mathlib.Omega.{arith}
use lib.ListN.{length, get_or, length-map, get_or-map}
use Rattle.script.specs.declared.command.Mark.{Mark}
use Rattle.refinement.specs.Match.{Place}
use Rattle.refining.specs.Columns.{up_from}
use Rattle.refining.specs.Refining.{mark_place}
use Rattle.tracks.specs.Tracks.{mark_at, marks_of}

blank : Mark
blank = record { side = 0; position = 0 }

-- if f yields the places one by one, it yields them all
places-map :
    (f : ℕ → Place) (n : ℕ) (ks : List Mark)
    → ((k i : ℕ) → i ≡ n + k → k < length ks → f i ≡ mark_place (get_or ks k blank))
    → map f (up_from n (length ks)) ≡ map mark_place ks
unfolding up_from
places-map f n [] h = refl
places-map f n (k ∷ ks) h =
    ap₂ ◌∷◌ (h 0 n (omega arith) (omega arith))
    (places-map f (suc n) ks (λ k' i e below. h (suc k') i (omega arith) (omega arith)))

module _ {sides positions : List ℕ} (ks : List Mark) (side : sides ≡ map (λ k. k.side) ks)
    (position : positions ≡ map (λ k. k.position) ks) where
  field_at : (field : Mark → ℕ) {column : List ℕ} → column ≡ map field ks → (k : ℕ)
      → get_or column k (field blank) ≡ field (get_or ks k blank)
  field_at field e k = ap (λ l. get_or l k (field blank)) e ∙ get_or-map field ks k blank

  pub marks_held : marks_of sides positions ≡ map mark_place ks
  unfolding marks_of blank
  marks_held =
      let count : length sides ≡ length ks = ap length side ∙ length-map ks (λ k. k.side) in
      ap (λ (n : ℕ). map (mark_at sides positions) (up_from 0 n)) count
      ∙ places-map (mark_at sides positions) 0 ks (λ k i e below.
      let here : i ≡ k = omega arith in
      rw (here, field_at (λ m. m.side) side k, field_at (λ m. m.position) position k))
