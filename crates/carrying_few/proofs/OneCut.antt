-- Carrying one cut over one match.
--     over-full           no room for the image
-- Assumes nothing.
use Prim.Native.Nat.{ℕ}
use mathlib.Core.Path.{◌≡◌, sym, ◌∙◌}
use mathlib.Core.Bool.{true}
use mathlib.Core.List.{List}
use mathlib.Core.Logic.{◌↔◌}
use Rattle.refinement.specs.Match.{between, carry_to}
use Rattle.cut_set.specs.Store.{Cramped}
use Rattle.cut_set.specs.declared.CutSet.{CutSet}
use Rattle.cut_set.proofs.Laws.{cramped-wide}
use Rattle.refining.specs.Columns.{Columns, from_at, from_right_at, to_at, to_right_at, way_at}
use Rattle.carrying_cuts.specs.Worker.{Image}

module _ (columns : Columns) (m cut : ℕ) where
  module _ (e : between (from_at columns m) (from_right_at columns m) cut ≡ true) where
    the-image :
        {image : ℕ} → image ≡ carry_to (way_at columns m) (from_at columns m) (to_at columns m) (to_right_at columns m) cut
        → (y : ℕ) → (y ≡ image) ↔ Image columns m cut y
    the-image f y = (λ q. record { spans = e; is = q ∙ f }, λ q. q.is ∙ sym f)

    pub over-full :
        {image : ℕ} {xs ys : List ℕ} {to t : CutSet}
        → image ≡ carry_to (way_at columns m) (from_at columns m) (to_at columns m) (to_right_at columns m) cut
        → Cramped (λ y. y ≡ image) xs to ys t → Cramped (Image columns m cut) xs to ys t
    over-full f c = cramped-wide (λ y. (the-image f y).0) c
