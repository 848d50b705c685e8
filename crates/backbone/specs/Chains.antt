-- Chains of direct pieces, their scores, and which of two lists comes first. TO READ: contracts mean what stands here.
--     row_numbered rs k       row k of rs, counted from 1
--     Direct rs k            there is a row k, and it is direct
--     Follows r r'           the piece r' may follow the piece r
--     Chain rs ks            the list ks of row numbers is a chain of rs
--     skipped r r'           the letters that a link from r to r' skips, on A and on B
--     letters_in, skipped_in   the letters of a chain's pieces, and those skipped between its neighbours
--     score_of price rs ks    the score of a chain: one signed number
--     Before js ks           the list js comes before the list ks
--     Lettered rs            every row has a letter
-- 02, #104. Source document 000 (Definitions 1 and 2) and 001 have the same chains, by letters: a match precedes
-- another if its last letter is before the other's first. Here ends are positions between letters, so that a piece may
-- begin at the very position where the other ends. The score is 001's, with its gap cost as the price; 000 has none.
-- Assumes nothing.
use Rattle.std.specs.Prelude.{ℕ, ◌+◌, ◌-◌, ◌*◌, ◌≤◌, ◌<◌, ◌≡◌, List, [], ◌∷◌, length, ℤ, pos, ◌-ℤ◌}
use Rattle.rows.specs.Rows.{row_at}
use Rattle.rows.specs.declared.Row.{Row}
use Rattle.refinement.specs.declared.Side.{Side}
use Rattle.refinement.specs.declared.Side.TheVariants.{A, B}
use Rattle.table.specs.Covering.{left_of, right_of}

-- SCOPE, "Backbone": row numbers count from 1
abbrev pub row_numbered : List Row → ℕ → Row
row_numbered rs k = row_at rs (k - 1)

-- SCOPE, "Backbone": "direct pieces"
pub record Direct (rs : List Row) (k : ℕ) : Type 0 where
  pub from_one : 1 ≤ k
  pub to_last : k ≤ length rs
  pub direct : (row_numbered rs k).direction ≡ 0

-- SCOPE, "Follows": "if its left is at or past the other's right on A and on B"
pub record Follows (r r' : Row) : Type 0 where
  pub at_or_past : (s : Side) → right_of s r ≤ left_of s r'

-- SCOPE, "Backbone": direct pieces, each of which follows its neighbour
pub data Chain (rs : List Row) : List ℕ → Type 0 where
  empty : Chain rs []
  single : {k : ℕ} → Direct rs k → Chain rs (k ∷ [])
  linked :
      {k j : ℕ} {ks : List ℕ} → Direct rs k → Follows (row_numbered rs k) (row_numbered rs j) → Chain rs (j ∷ ks)
      → Chain rs (k ∷ j ∷ ks)

-- SCOPE, "Score": "the letters skipped on A and on B"
abbrev pub skipped : Row → Row → ℕ
skipped r r' = (left_of A r' - right_of A r) + (left_of B r' - right_of B r)

-- SCOPE, "Score": "the sum of its lengths"
unfoldable pub letters_in : List Row → List ℕ → ℕ
letters_in rs [] = 0
letters_in rs (k ∷ ks) = (row_numbered rs k).length + letters_in rs ks

-- SCOPE, "Score": "between neighbours"
unfoldable pub skipped_in : List Row → List ℕ → ℕ
skipped_in rs [] = 0
skipped_in rs (k ∷ []) = 0
skipped_in rs (k ∷ j ∷ ks) = skipped (row_numbered rs k) (row_numbered rs j) + skipped_in rs (j ∷ ks)

-- SCOPE, "Score": "the sum of its lengths minus a gap price .. times the letters skipped", a signed number
unfoldable pub score_of : ℕ → List Row → List ℕ → ℤ
score_of price rs ks = pos (letters_in rs ks) -ℤ pos (price * skipped_in rs ks)

-- SCOPE, "First among equals": "compared number by number, a list before its own extensions"
pub data Before : List ℕ → List ℕ → Type 0 where
  extended : {k : ℕ} {ks : List ℕ} → Before [] (k ∷ ks)
  lower : {j k : ℕ} {js ks : List ℕ} → j < k → Before (j ∷ js) (k ∷ ks)
  further : {k : ℕ} {js ks : List ℕ} → Before js ks → Before (k ∷ js) (k ∷ ks)

-- rows as refining makes them: no piece is empty, so a chain goes up and no row stands in it twice
pub record Lettered (rs : List Row) : Type 0 where
  pub lettered : (i : ℕ) → i < length rs → 1 ≤ (row_at rs i).length
