-- Pieces, refinements, and when one is resolved and least. TO READ: contracts mean what stands here.
--     Piece m r            r is a piece of the match m
--     Refines ms rs        the rows rs, in any order, tile each match of ms without overlap
--     CutOf rs p           p is an end of a row
--     Resolved ms marks rs no cut lies strictly inside a row, and the spanned marks are cuts
--     in_table_order rs      the rows in the table's order; two refinements are equal if these are the same
--     Least ms marks rs    no resolved refinement has fewer rows, lacks a cut of rs, or is another of as many rows
-- 01, "Resolved refinement" and "The table and its buffers". Assumes nothing.
use Rattle.std.specs.Prelude.{ℕ, ◌≤◌, ◌<◌, ◌≡◌, Bool, true, false, ◌↔◌, ◌⊎◌, length}
use Rattle.std.proofs.Common.{inl, inr, ⊎_elim}
use Rattle.std.proofs.Math.Logic.Dec.{and}
use mathlib.Core.List.{List, filter}
use Rattle.std.proofs.Math.Decide.{dec_le, dec_lt, ℕ_discrete}
use Rattle.refinement.specs.declared.Side.{Side}
use Rattle.refinement.specs.declared.Side.TheVariants.{A, B}
use Rattle.refinement.specs.Order.{◌∈◌, Rising, sort_by}
use Rattle.refinement.specs.Match.{Match, track, left, right, Place, place, Spans, carry}
use Rattle.refinement.specs.Cut.{End}

-- What every law asks of a list of matches, and the reader grants: each has a letter, and the numbers rise.
pub record Matches (ms : List Match) : Type 0 where
  pub lettered : (m : Match) → m ∈ ms → 1 ≤ m.length
  pub numbered : Rising (λ m m'. m.number < m'.number) ms

-- the end on B that faces the left end on A, and the one that faces the right end: crossed in a reversed match
abbrev pub facing_left : Bool → Match → ℕ
facing_left false r = left r B
facing_left true r = right r B

abbrev pub facing_right : Bool → Match → ℕ
facing_right false r = right r B
facing_right true r = left r B

-- SCOPE, "Piece": it has the number and the direction of its match and a letter at least, lies in the match on both
-- sides, and its ends on A carry to its ends on B
pub record Piece (m r : Match) : Type 0 where
  pub same_number : r.number ≡ m.number
  pub same_track : (s : Side) → track r s ≡ track m s
  pub same_direction : r.reversed ≡ m.reversed
  pub lettered : 1 ≤ r.length
  pub starts_within : (s : Side) → left m s ≤ left r s
  pub ends_within : (s : Side) → right r s ≤ right m s
  pub left_carries : carry m A (left r A) ≡ facing_left r.reversed r
  pub right_carries : carry m A (right r A) ≡ facing_right r.reversed r

-- The letter between the positions x and x + 1 lies in the row's stretch.
pub record Holds (r : Match) (s : Side) (x : ℕ) : Type 0 where
  pub from_left : left r s ≤ x
  pub before_right : x < right r s

unfoldable pub holds? : (n : ℕ) (s : Side) (x : ℕ) (r : Match) → Dec ((r.number ≡ n) × Holds r s x)
holds? n s x r = go (and (ℕ_discrete r.number n) (and (dec_le (left r s) x) (dec_lt x (right r s))))
  where
    go : Dec ((r.number ≡ n) × ((left r s ≤ x) × (x < right r s))) → Dec ((r.number ≡ n) × Holds r s x)
    go (yes t) = yes (t.0, record { from_left = t.1.0; before_right = t.1.1 })
    go (no n) = no (λ t. n (t.0, (t.1.from_left, t.1.before_right)))

-- how many rows of the match numbered n hold the letter x
unfoldable pub rows_over : ℕ → Side → ℕ → List Match → ℕ
rows_over n s x rs = length (filter (holds? n s x) rs)

-- the rows of the match numbered n
unfoldable pub rows_for : ℕ → List Match → List Match
rows_for n rs = filter (λ r. ℕ_discrete r.number n) rs

-- SCOPE, "Refinement": each letter of a match is in exactly one piece of it. That B is tiled too is a law (rows-tile).
pub record Refines (ms rs : List Match) : Type 0 where
  pub pieces : (r : Match) → r ∈ rs → (m : Match) × (m ∈ ms) × Piece m r
  pub once : (m : Match) → m ∈ ms → (x : ℕ) → Holds m A x → rows_over m.number A x rs ≡ 1

-- SCOPE, "Cuts": every end of every piece
abbrev pub CutOf : List Match → Place → Type 0
CutOf rs p = (r : Match) × (r ∈ rs) × End r p

pub record Inside (r : Match) (s : Side) (h : ℕ) : Type 0 where
  pub past_left : left r s < h
  pub before_right : h < right r s

-- SCOPE, "Resolved": strictly inside a piece there is no cut, on either side. #106: every mark that a match spans is a
-- cut.
pub record Resolved (ms : List Match) (marks : List Place) (rs : List Match) : Type 0 where
  pub uncut : (r : Match) → r ∈ rs → (s : Side) (h : ℕ) → CutOf rs (place r s h) → ¬ Inside r s h
  pub marked : (m : Match) → m ∈ ms → (s : Side) (h : ℕ) → place m s h ∈ marks → Spans m s h → CutOf rs (place m s h)

pub record ResolvedRefinement (ms : List Match) (marks : List Place) (rs : List Match) : Type 0 where
  pub refines : Refines ms rs
  pub resolved : Resolved ms marks rs

-- SCOPE, "Order": by match number, and for one match by left-A
abbrev pub Before : Match → Match → Type 0
Before r r' = (r.number < r'.number) ⊎ ((r.number ≡ r'.number) × (r.left_a < r'.left_a))

unfoldable pub before? : (r r' : Match) → Dec (Before r r')
before? r r' =
    go (dec_lt r.number r'.number) (and (ℕ_discrete r.number r'.number) (dec_lt r.left_a r'.left_a))
  where
    go : Dec (r.number < r'.number) → Dec ((r.number ≡ r'.number) × (r.left_a < r'.left_a)) → Dec (Before r r')
    go (yes l) d = yes (inl l)
    go (no l) (yes e) = yes (inr e)
    go (no l) (no e) = no (⊎_elim l e)

-- SCOPE, "Equal": two refinements are, if this is the same of both
unfoldable pub in_table_order : List Match → List Match
in_table_order rs = sort_by before? rs

-- SCOPE, "Demand 3" and "Every refinement": least among all resolved ones, whether or not a lent table would hold them
pub record Least (ms : List Match) (marks : List Place) (rs : List Match) : Type 0 where
  pub fewest : (rs' : List Match) → ResolvedRefinement ms marks rs' → length rs ≤ length rs'
  pub cuts : (rs' : List Match) → ResolvedRefinement ms marks rs' → (p : Place) → CutOf rs p → CutOf rs' p
  pub equal :
      (rs' : List Match) → ResolvedRefinement ms marks rs'
      → (length rs' ≡ length rs) ↔ (in_table_order rs' ≡ in_table_order rs)
