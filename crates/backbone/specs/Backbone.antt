-- The backbone of a table. TO READ: contracts mean what stands here.
--     Backbone price rs ks score    what 02 asks of the chain ks and its score, a field for each sentence
--     chains_of rs                   all chains of the rows, one by one
--     backbone_of price rs           of these the one that no other betters
--     points_of price rs             its score
-- 02, #104. `proofs/Backbones` shows that `backbone_of` is a Backbone, and the only one, of rows that all have a letter;
-- `proofs/Lines` has the lines of 02. To go through all chains is not how the code finds it (`linking`); this is to be
-- read, and to be run on small tables. Assumes nothing.
use Rattle.std.specs.Prelude.{ℕ, zero, suc, ◌≡◌, ◌⊎◌, ◌≢◌, Bool, true, false, cond, ◌&&◌, ◌||◌, length, eqb, ltb, leb, ℤ, pos, negsuc}
use mathlib.Core.List.{List, [], ◌∷◌, map, flat_map}
use Rattle.std.specs.Int.Signed.{lt_z}
use Rattle.rows.specs.declared.Row.{Row}
use Rattle.refinement.specs.declared.Side.TheVariants.{A, B}
use Rattle.table.specs.Covering.{left_of, right_of}
use Rattle.backbone.specs.Chains.{row_numbered, Direct, Chain, score_of, Before}

pub record Backbone (price : ℕ) (rs : List Row) (ks : List ℕ) (score : ℕ) : Type 0 where
  -- "the best run of direct pieces in the same order on both genomes"
  pub chain : Chain rs ks
  pub scores : score_of price rs ks ≡ pos score
  -- "No chain scores more than the answer"
  pub none_more : (js : List ℕ) → Chain rs js → lt_z (pos score) (score_of price rs js) ≡ false
  -- "among equals, the one whose list of row numbers (from 1) comes first is given"
  pub first : (js : List ℕ) → Chain rs js → score_of price rs js ≡ pos score → (js ≡ ks) ⊎ Before ks js
  -- with a direct piece it has one ..
  pub some : (k : ℕ) → Direct rs k → ks ≢ []
  -- .. and "With no direct piece the chain is empty and scores 0"
  pub none : ((k : ℕ) → ¬ Direct rs k) → (ks ≡ []) × (score ≡ 0)

-- ---- the same, computed

unfoldable pub direct_from : ℕ → List Row → List ℕ
direct_from k [] = []
direct_from k (r ∷ rs) = let rest = direct_from (suc k) rs in cond (eqb r.direction 0) (k ∷ rest) rest

-- the numbers of the direct rows
abbrev pub direct_rows : List Row → List ℕ
direct_rows rs = direct_from 1 rs

-- SCOPE, "Follows": as a test
abbrev pub follows : Row → Row → Bool
follows r r' = leb (right_of A r) (left_of A r') && leb (right_of B r) (left_of B r')

-- of the row numbers js those whose rows may follow row k
unfoldable pub followers_of : List Row → ℕ → List ℕ → List ℕ
followers_of rs k [] = []
followers_of rs k (j ∷ js) =
    let rest = followers_of rs k js in cond (follows (row_numbered rs k) (row_numbered rs j)) (j ∷ rest) rest

-- the chains that begin with row k and have at most n rows behind it
unfoldable pub chains_from : ℕ → List Row → ℕ → List (List ℕ)
chains_from zero rs k = (k ∷ []) ∷ []
chains_from (suc n) rs k =
    (k ∷ []) ∷ map (λ (js : List ℕ). k ∷ js) (flat_map (chains_from n rs) (followers_of rs k (direct_rows rs)))

-- no chain has more rows than there are
unfoldable pub chains_of : List Row → List (List ℕ)
chains_of rs = flat_map (chains_from (length rs) rs) (direct_rows rs)

-- SCOPE, "First among equals": as a test
abbrev pub before : List ℕ → List ℕ → Bool
before js [] = false
before [] (k ∷ ks) = true
before (j ∷ js) (k ∷ ks) = ltb j k || (eqb j k && before js ks)

-- js scores more than ks, or as much and comes first
unfoldable pub betters : ℕ → List Row → List ℕ → List ℕ → Bool
betters price rs js ks =
    let j = score_of price rs js in
    let k = score_of price rs ks in
    lt_z k j || (cond (lt_z j k) false (before js ks))

-- of ks and the chains behind it the one that no other betters
unfoldable pub best_of : ℕ → List Row → List ℕ → List (List ℕ) → List ℕ
best_of price rs ks [] = ks
best_of price rs ks (js ∷ rest) = best_of price rs (cond (betters price rs js ks) js ks) rest

-- the empty chain scores 0, less than any piece alone
unfoldable pub backbone_of : ℕ → List Row → List ℕ
backbone_of price rs = best_of price rs [] (chains_of rs)

-- a score that is not below zero, as a natural number
abbrev pub amount : ℤ → ℕ
amount (pos n) = n
amount (negsuc n) = 0

unfoldable pub points_of : ℕ → List Row → ℕ
points_of price rs = amount (score_of price rs (backbone_of price rs))
