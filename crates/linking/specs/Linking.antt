-- The best chain from each direct row, as it is kept in the lent buffers while it is worked out. Three parts of the
-- work buffer are used, each of as many numbers as there are rows:
--     the direct rows by A, from the right to the left (InOrder .. A)
--     for each row its place by B, and once it is linked the row that it is linked to
--     the best rows by their places (Halved)
-- and the score buffer has for each row that is linked the score of the best chain from it.
--     order_in, links_in, held_in         the three parts of a work buffer for n rows
--     LinkedRow                        row k is linked, and k and then ks is the best chain from it
--     Extendable, Extended             what the link from a row to the next is, by whether it gains anything
--     foremost_of scores first k        of two rows the one with the higher score, of equal ones the lower number
--     Linked price rs d t work scores first
--                                      the first t of d direct rows are linked, and of these `first` is where the best
--                                      chain begins
--     Ready, Onward, Found             there is a next row; the best chain from a row, by its link; that link is found
--     Puttable, Put                    what is asked for a link to be written, and what the buffers hold then
-- Only the chaining call promises anything by it. Assumes nothing.
use Rattle.std.specs.Prelude.{ℕ, ◌+◌, ◌-◌, ◌*◌, ◌^◌, ◌≤◌, ◌<◌, ◌≡◌, ◌⊎◌, ◌↔◌, cond, List, ◌∷◌, length, get_or, set, take, drop, eqb, ltb}
use Rattle.rows.specs.declared.Row.{Row}
use Rattle.refinement.specs.declared.Side.TheVariants.{A, B}
use Rattle.refinement.specs.Order.{◌∈◌}
use Rattle.backbone.specs.Chains.{row_numbered, Direct, Follows, skipped}
use Rattle.best_chains.specs.Best.{BestFrom, Outdone}
use Rattle.row_order.specs.Order.{Ahead, InOrder}
use Rattle.direct_rows.specs.Direct.{place_at}
use Rattle.weighing.specs.Weighing.{score_at, Scored}
use Rattle.best_rows.specs.Halves.{Halved, Holding, Entered}
use Rattle.walking.specs.Trail.{link_at, Trail}
use Rattle.linking.specs.declared.Link.{Link}
use Rattle.linking.specs.declared.Step.{Step}

abbrev pub order_in : ℕ → List ℕ → List ℕ
order_in d work = take d work

abbrev pub links_in : ℕ → List ℕ → List ℕ
links_in n work = take n (drop n work)

abbrev pub held_in : ℕ → List ℕ → List ℕ
held_in n work = take n (drop (2 * n) work)

-- the direct rows in the order of A, and places in that of B
pub record Arranged (rs : List Row) (order places : List ℕ) : Type 0 where
  pub in_order : InOrder rs A order
  pub direct : (k : ℕ) → (k ∈ order) ↔ Direct rs k
  pub few : length order ≤ length rs
  pub below : (k : ℕ) → k ∈ order → place_at places k < length order
  pub by_b : (j k : ℕ) → j ∈ order → k ∈ order → (place_at places j < place_at places k) ↔ Ahead rs B j k

-- row k is linked: the links lead from it through the best chain
pub record LinkedRow (price : ℕ) (rs : List Row) (links scores : List ℕ) (k : ℕ) : Type 0 where
  pub rest : List ℕ
  pub best : BestFrom price rs k rest (score_at scores k)
  pub trail : Trail links k (k ∷ rest)

-- the price of a link
abbrev pub cost_of : ℕ → List Row → ℕ → ℕ → ℕ
cost_of price rs k j = price * skipped (row_numbered rs k) (row_numbered rs j)

pub record Extendable (rs : List Row) (scores : List ℕ) (price k j : ℕ) : Type 0 where
  pub direct : Direct rs k
  pub scored : length rs ≤ length scores
  pub priced : price ≤ 1000
  pub named : j ≤ length rs
  pub follows : 1 ≤ j → Follows (row_numbered rs k) (row_numbered rs j)
  pub fits : 1 ≤ j → (row_numbered rs k).length + score_at scores j < 2 ^ 32

-- "Each link's sum is worked out as a signed number": the link to j is made if its sum is above zero
pub data Extended (rs : List Row) (scores : List ℕ) (price k j : ℕ) : Link → Type 0 where
  none : {r : Link} → j ≡ 0 → r.next ≡ 0 → r.score ≡ (row_numbered rs k).length → Extended rs scores price k j r
  lost :
      {r : Link} → 1 ≤ j → score_at scores j ≤ cost_of price rs k j → r.next ≡ 0
      → r.score ≡ (row_numbered rs k).length → Extended rs scores price k j r
  gained :
      {r : Link} → 1 ≤ j → cost_of price rs k j < score_at scores j → r.next ≡ j
      → r.score ≡ (row_numbered rs k).length + (score_at scores j - cost_of price rs k j)
      → Extended rs scores price k j r

unfoldable pub foremost_of : List ℕ → ℕ → ℕ → ℕ
foremost_of scores first k =
    let lower = cond (ltb k first) k first in
    let tried = cond (ltb (score_at scores k) (score_at scores first)) first lower in
    cond (eqb first 0) k (cond (ltb (score_at scores first) (score_at scores k)) k tried)

-- row k scores as much as any of es, and comes first
pub record Foremost (scores es : List ℕ) (k : ℕ) : Type 0 where
  pub one : k ∈ es
  pub most : (j : ℕ) → j ∈ es → Outdone (score_at scores j) (score_at scores k) k j

pub record Linked (price : ℕ) (rs : List Row) (d t : ℕ) (work scores : List ℕ) (first : ℕ) : Type 0 where
  pub places : List ℕ
  pub arranged : Arranged rs (order_in d work) places
  pub counted : length (order_in d work) ≡ d
  pub so_far : t ≤ d
  pub work_room : 4 * length rs ≤ length work
  pub score_room : length rs ≤ length scores
  -- rows that wait have their places
  pub waiting :
      (i : ℕ) → t ≤ i → i < d
      → link_at (links_in (length rs) work) (get_or work i 0) ≡ place_at places (get_or work i 0)
  -- the others are linked, and entered
  pub linked : (k : ℕ) → k ∈ take t work → LinkedRow price rs (links_in (length rs) work) scores k
  pub holding : Holding rs (held_in (length rs) work)
  pub halved : Halved price rs scores (take t work) places (held_in (length rs) work) 0 d
  pub begins : ((t ≡ 0) × (first ≡ 0)) ⊎ Foremost scores (take t work) first

-- row t of the order is the next to be linked
pub record Ready (price : ℕ) (rs : List Row) (d t : ℕ) (work scores : List ℕ) : Type 0 where
  pub first : ℕ
  pub linked : Linked price rs d t work scores first
  pub more : t < d

-- row k goes on with the row `next`, or is alone if that is 0: so begins the best chain from it
pub record Onward (price : ℕ) (rs : List Row) (links : List ℕ) (k next score : ℕ) : Type 0 where
  pub rest : List ℕ
  pub best : BestFrom price rs k rest score
  pub trail : Trail links next rest

-- its place, and how it goes on
pub record Found (price : ℕ) (rs : List Row) (t : ℕ) (work : List ℕ) (r : Step) : Type 0 where
  pub number : r.number ≡ get_or work t 0
  pub place : r.place ≡ link_at (links_in (length rs) work) r.number
  pub onward : Onward price rs (links_in (length rs) work) r.number r.next r.score

-- there is such a row, its place, and room
pub record Puttable (price : ℕ) (rs : List Row) (d : ℕ) (work scores : List ℕ) (r : Step) : Type 0 where
  pub scored : Scored rs scores price
  pub holding : Holding rs (held_in (length rs) work)
  pub from_one : 1 ≤ r.number
  pub to_last : r.number ≤ length rs
  pub placed : r.place < d
  pub few : d ≤ length rs
  pub room : 4 * length rs ≤ length work

-- the score and the link are written, and the row is entered
pub record Put (price : ℕ) (rs : List Row) (d : ℕ) (r : Step) (work scores work' scores' : List ℕ) : Type 0 where
  pub scored : scores' ≡ set scores (r.number - 1) r.score
  pub as_long : length work' ≡ length work
  pub ordered : take (length rs) work' ≡ take (length rs) work
  pub linked : links_in (length rs) work' ≡ set (links_in (length rs) work) (r.number - 1) r.next
  pub entered :
      Entered price rs scores' (held_in (length rs) work) 0 d r.place r.number (held_in (length rs) work')
