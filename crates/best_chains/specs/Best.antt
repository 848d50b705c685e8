-- The best chain from a row. Only the chaining call promises anything by it.
--     Apart rs                         rows as refining makes them: lettered, within 32 bits, and two that begin at
--                                      different positions of a side share no letter of it
--     BestFrom price rs k ks score     of the chains that begin with row k, k and then ks is the first of the best
--     Outdone m n j k                  row k with m is no better than row j with n: less, or no lower of two equals
--     Known price rs k P               a best chain from row k is known, and its score is such that P
-- A score is told without signs here: a chain's letters are its score and the price of what it skips. How the best
-- chain from a row is made of those from the rows that may follow it (laws best-alone and best-linked) is the
-- recurrence of source documents 000 (its simple algorithm) and 001 (OPT), seen from the other end: they have the best
-- chain that ends with a match, and leave open which of equals is given. The first list of row numbers is found only
-- from the front. Assumes nothing.
use Rattle.std.specs.Prelude.{ℕ, ◌+◌, ◌*◌, ◌^◌, ◌≤◌, ◌<◌, ◌≡◌, ◌⊎◌, List, ◌∷◌, length}
use Rattle.rows.specs.Rows.{row_at}
use Rattle.rows.specs.declared.Row.{Row}
use Rattle.refinement.specs.declared.Side.{Side}
use Rattle.table.specs.Covering.{left_of, right_of}
use Rattle.backbone.specs.Chains.{Chain, letters_in, skipped_in, Before, Lettered}

pub record Apart (rs : List Row) : Type 0 where
  pub lettered : Lettered rs
  pub fits : (s : Side) (i : ℕ) → i < length rs → right_of s (row_at rs i) < 2 ^ 32
  pub disjoint :
      (s : Side) (i j : ℕ) → i < length rs → j < length rs → left_of s (row_at rs i) < left_of s (row_at rs j)
      → right_of s (row_at rs i) ≤ left_of s (row_at rs j)

pub record BestFrom (price : ℕ) (rs : List Row) (k : ℕ) (ks : List ℕ) (score : ℕ) : Type 0 where
  pub chain : Chain rs (k ∷ ks)
  pub scores : letters_in rs (k ∷ ks) ≡ score + price * skipped_in rs (k ∷ ks)
  pub most : (js : List ℕ) → Chain rs (k ∷ js) → letters_in rs (k ∷ js) ≤ score + price * skipped_in rs (k ∷ js)
  pub first :
      (js : List ℕ) → Chain rs (k ∷ js) → letters_in rs (k ∷ js) ≡ score + price * skipped_in rs (k ∷ js)
      → (js ≡ ks) ⊎ Before ks js

-- SCOPE, "First among equals": of two rows with the same amount the lower number is first
abbrev pub Outdone : (m n j k : ℕ) → Type 0
Outdone m n j k = (m < n) ⊎ ((m ≡ n) × (j ≤ k))

pub record Known (price : ℕ) (rs : List Row) (k : ℕ) (P : ℕ → Type 0) : Type 0 where
  pub rest : List ℕ
  pub score : ℕ
  pub best : BestFrom price rs k rest score
  pub such : P score
