-- What the inner functions of the chaining call do.
--     admitting        the test that neither 17's nor 18's condition is met
--     Refuses          why a call is refused under which one is met
--     scores_after      the score buffer where refining refuses
--     Chains           the whole call
-- Assumes nothing.
use Rattle.std.specs.Prelude.{ℕ, ◌≡◌, Bool, cond, ◌&&◌, List, leb, eqb, Result}
use Rattle.script.specs.Refusals.{number_of}
use Rattle.script.specs.declared.refusal.Refusal.{Refusal}
use Rattle.refining.specs.Refining.{zeroed}
use Rattle.backbone.specs.Chaining.{most_price, most_rows, kept_by, chaining_of}
use Rattle.backbone.specs.Demands.{Lent}
use Rattle.backbone.specs.declared.Chained.{Chained}

-- by the table's capacity and how many numbers the chain and the score buffer have
abbrev pub admitting : ℕ → ℕ → ℕ → ℕ → Bool
admitting price capacity chain scores =
    leb price most_price && (leb capacity chain && (leb capacity scores && leb capacity most_rows))

-- such a call alters nothing
pub record Refuses (script : List ℕ) (price : ℕ) (table work : List ℕ) (r : Refusal) : Type 0 where
  pub refuses :
      (chain scores : List ℕ) → ¬ Lent price table chain scores
      → chaining_of script price table work chain scores ≡ kept_by r table work chain scores

-- 12 leaves the score buffer zero, and every other refusal as it was
abbrev pub scores_after : Refusal → List ℕ → List ℕ
scores_after r scores = cond (eqb (number_of r) 12) (zeroed scores) scores

-- the whole call
abbrev pub Chains :
    List ℕ → ℕ → List ℕ → List ℕ → List ℕ → List ℕ → Result Chained Refusal → List ℕ → List ℕ → List ℕ → List ℕ → Type 0
Chains script price table work chain scores reply table' work' chain' scores' =
    chaining_of script price table work chain scores
    ≡ record { reply = reply; table = table'; work = work'; chain = chain'; scores = scores' }
