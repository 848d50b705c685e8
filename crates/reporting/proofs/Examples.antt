-- Lines of 01's run and its refusal, computed from the definitions.
--     refused-line     "refused 8 9"
--     class-lines      "class 0 5", "class 1 3"
-- Assumes nothing.
use mathlib.Core.Path.{◌≡◌, refl}
use mathlib.Core.List.{[], ◌∷◌, ◌++◌}
use Rattle.script.specs.declared.refusal.Refusal.TheVariants.{BeyondA}
use Rattle.text.specs.Decimal.{places_within}
use Rattle.reporting.specs.Lines.{refused, class, refusal_text, class_lines}

pub refused-line : refusal_text (BeyondA 9) ≡ refused ++ 32 ∷ 56 ∷ 32 ∷ 57 ∷ 10 ∷ []
unfolding places_within
refused-line = refl

pub class-lines : class_lines 0 (5 ∷ 3 ∷ 0 ∷ [])
    ≡ class ++ 32 ∷ 48 ∷ 32 ∷ 53 ∷ 10 ∷ class ++ 32 ∷ 49 ∷ 32 ∷ 51 ∷ 10 ∷ []
unfolding places_within class_lines
class-lines = refl
