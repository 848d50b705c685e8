-- How much a chain of rows apart can be.
--     chain-short       it has no more rows than there are
--     letters-bound     on A its stretches lie one behind the other, and all fit 32 bits
--     score-bound       and so does the score of the best chain from a row
-- Assumes nothing.
use Prim.Native.Nat.{ℕ, ◌+◌, ◌-◌, ◌^◌, ◌≤◌, ◌<◌}
use mathlib.Core.List.{List, ◌∷◌}
use native.Mathlib.Omega.{arith}
use lib.ListN.{length}
use Rattle.rows.specs.declared.Row.{Row}
use Rattle.refinement.specs.declared.Side.TheVariants.{A}
use Rattle.table.specs.Covering.{left_of}
use Rattle.backbone.specs.Chains.{row_numbered, Chain, single, linked, letters_in}
use Rattle.backbone.proofs.Chains.{chain-short as lettered-short}
use Rattle.best_chains.specs.Best.{Apart, BestFrom}

module _ {rs : List Row} (apart : Apart rs) where
  pub chain-short : {ks : List ℕ} → Chain rs ks → length ks ≤ length rs
  chain-short {ks} c = lettered-short rs apart.lettered ks c

  pub letters-bound :
      {k : ℕ} {ks : List ℕ} → Chain rs (k ∷ ks) → left_of A (row_numbered rs k) + letters_in rs (k ∷ ks) < 2 ^ 32
  unfolding letters_in
  letters-bound (single {k = k} d) = omega (arith, apart.fits A (k - 1) (omega arith))
  letters-bound (linked d f c) = omega (arith, letters-bound c, f.at_or_past A)

  pub score-bound :
      {price k s : ℕ} {ks : List ℕ} → BestFrom price rs k ks s → left_of A (row_numbered rs k) + s < 2 ^ 32
  score-bound best = omega (arith, letters-bound best.chain, best.scores)
