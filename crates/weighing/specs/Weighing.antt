-- Which of two rows a chain had better go on with. Only the chaining call promises anything by it.
--     score_at scores k              the score that is noted for row k, counted from 1
--     far_of price r                 the price of all letters left of the row r, on A and on B
--     far_at price rs k              the same, of row k
--     Scored rs scores price        a score for each row, and a price that 02 admits
--     NoWorse price rs scores j k   to go on with row j is no worse than with row k, of equal ones j is not behind
--     better_of price rs scores j k  the one that is no worse; 0 is none
--     Top price rs scores P v       v is the best row such that P, or 0 if there is none
-- What is compared is the score of the best chain from the row, less the price of the letters left of it: the measure
-- of source document 001 (OPT with its index λ) and of 004, from the other end. With it, which row is best to go on
-- with does not depend on the row that the chain comes from. Assumes nothing.
use Rattle.std.specs.Prelude.{ℕ, ◌+◌, ◌-◌, ◌*◌, ◌≤◌, ◌<◌, ◌≡◌, ◌⊎◌, cond, List, length, get_or, eqb, ltb}
use Rattle.rows.specs.declared.Row.{Row}
use Rattle.backbone.specs.Chains.{row_numbered}

abbrev pub score_at : List ℕ → ℕ → ℕ
score_at scores k = get_or scores (k - 1) 0

abbrev pub far_of : ℕ → Row → ℕ
far_of price r = price * (r.left_a + r.left_b)

abbrev pub far_at : ℕ → List Row → ℕ → ℕ
far_at price rs k = far_of price (row_numbered rs k)

pub record Scored (rs : List Row) (scores : List ℕ) (price : ℕ) : Type 0 where
  pub each : length rs ≤ length scores
  pub priced : price ≤ 1000

-- the sum of j is more than that of k, or the same and j is not behind
pub record NoWorse (price : ℕ) (rs : List Row) (scores : List ℕ) (j k : ℕ) : Type 0 where
  pub no_worse :
      (score_at scores k + far_at price rs j < score_at scores j + far_at price rs k)
      ⊎ ((score_at scores k + far_at price rs j ≡ score_at scores j + far_at price rs k) × (j ≤ k))

unfoldable pub better_of : ℕ → List Row → List ℕ → ℕ → ℕ → ℕ
better_of price rs scores j k =
    let below = ltb (score_at scores j + far_at price rs k) (score_at scores k + far_at price rs j) in
    let above = ltb (score_at scores k + far_at price rs j) (score_at scores j + far_at price rs k) in
    cond (eqb j 0) k (cond (eqb k 0) j (cond below k (cond above j (cond (ltb j k) j k))))

pub data Top (price : ℕ) (rs : List Row) (scores : List ℕ) (P : ℕ → Type 0) : ℕ → Type 0 where
  none : ((k : ℕ) → ¬ P k) → Top price rs scores P 0
  some :
      {j : ℕ} → 1 ≤ j → P j → ((k : ℕ) → P k → NoWorse price rs scores j k) → Top price rs scores P j
