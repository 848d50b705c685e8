-- The letters that the rows of a table cover. TO READ: contracts mean what stands here.
--     left_of s r, right_of s r     the ends of the stretch that the row r has on the side s
--     letters_from s h rs          the letters from the position h on of rows that go up by their left ends
--     cover_of s rs                the letters of the side s that rs covers
--     CountedOnce P n             so many letters are such that P, each counted once
--     Covered s rs h              the letter behind the position h is in at least one row's stretch
--     LettersOnce rs covers       for A and for B, `covers` has the number of such letters
-- A letter is named by the position before it. 02, #102. Assumes nothing.
use Rattle.std.specs.Prelude.{ℕ, ◌+◌, ◌-◌, ◌≤◌, ◌<◌, max, ◌↔◌, ◌≡◌, List, [], ◌∷◌, length, get_or}
use Rattle.std.proofs.Math.Decide.{dec_le}
use Rattle.refinement.specs.declared.Side.{Side}
use Rattle.refinement.specs.declared.Side.TheVariants.{A, B}
use Rattle.refinement.specs.Match.{on_side}
use Rattle.refinement.specs.Order.{◌∈◌, Distinct, sort_by}
use Rattle.rows.specs.declared.Row.{Row}

-- ---- the number, as it is worked out by hand

-- SCOPE, "Covers": a stretch begins at its left end ..
abbrev pub left_of : Side → Row → ℕ
left_of s r = on_side s r.left_a r.left_b

-- .. and has as many letters as the row's length: left and length are added as natural numbers
abbrev pub right_of : Side → Row → ℕ
right_of s r = left_of s r + r.length

-- a row whose left end is no further goes first
abbrev pub not_past? : (s : Side) (r q : Row) → Dec (left_of s r ≤ left_of s q)
not_past? s r q = dec_le (left_of s r) (left_of s q)

-- of the first row the letters that lie behind h; the others count behind its right end, or behind h if that is further
unfoldable pub letters_from : Side → ℕ → List Row → ℕ
letters_from s h [] = 0
letters_from s h (r ∷ rs) = (right_of s r - max h (left_of s r)) + letters_from s (max h (right_of s r)) rs

-- SCOPE, "Covers": the number of letters in at least one row's stretch (law cover-counted). By hand: the rows in the
-- order of their left ends, and of each what those before it leave
abbrev pub cover_of : Side → List Row → ℕ
cover_of s rs = letters_from s 0 (sort_by (not_past? s) rs)

-- ---- the number, in the words of the request

-- some list without repeats has just the letters such that P, and every such list has n members
pub record CountedOnce (P : ℕ → Type 0) (n : ℕ) : Type 0 where
  pub letters : List ℕ
  pub once : Distinct letters
  pub just : (h : ℕ) → (h ∈ letters) ↔ P h
  pub many : length letters ≡ n
  pub every : (hs : List ℕ) → Distinct hs → ((h : ℕ) → (h ∈ hs) ↔ P h) → length hs ≡ n

-- SCOPE, "Covers": the letter behind h is in the stretch
pub record InStretch (s : Side) (r : Row) (h : ℕ) : Type 0 where
  pub from_left : left_of s r ≤ h
  pub before_right : h < right_of s r

-- SCOPE, "Covers": in at least one row's stretch
pub record Covered (s : Side) (rs : List Row) (h : ℕ) : Type 0 where
  pub row : Row
  pub among : row ∈ rs
  pub inside : InStretch s row h

-- 02, #102: two numbers, for A and for B
pub record LettersOnce (rs : List Row) (covers : List ℕ) : Type 0 where
  pub two : length covers ≡ 2
  pub on_a : CountedOnce (Covered A rs) (get_or covers 0 0)
  pub on_b : CountedOnce (Covered B rs) (get_or covers 1 0)
