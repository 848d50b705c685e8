-- The best row behind a place. Places are halved again and again: of the places from lo up to hi those from the middle
-- on are the later half, and the number at the middle is that of the best row entered in the later half. So each place
-- but the first is the middle of one such part, and as many numbers as there are places are enough. Source documents
-- 000, 001 and 004 sort by one coordinate and ask a search tree, or a tree of ranges, over the other for the best in a
-- range; here every range reaches to the last place, and the tree is in the order of the places alone.
-- Only the chaining call promises anything by it.
--     middle lo hi                    the place at the middle
--     Within es places lo hi k        row k is entered, at a place from lo up to hi
--     Halved price rs scores es places held lo hi
--                                     the numbers of held, from lo up to hi, are those of the rows es at their places
--     Holding rs held                 each number of held is 0 or names a row
--     Behind, Entered                 what finding and entering do
-- Assumes nothing.
use Rattle.std.specs.Prelude.{ℕ, ◌+◌, ◌-◌, ◌/◌, ◌≤◌, ◌<◌, ◌≡◌, ◌⊎◌, List, ◌∷◌, length, get_or}
use Rattle.rows.specs.declared.Row.{Row}
use Rattle.refinement.specs.Order.{◌∈◌}
use Rattle.direct_rows.specs.Direct.{place_at}
use Rattle.weighing.specs.Weighing.{Top}

abbrev pub middle : ℕ → ℕ → ℕ
middle lo hi = lo + (hi - lo) / 2

pub record Within (es places : List ℕ) (lo hi k : ℕ) : Type 0 where
  pub entered : k ∈ es
  pub from : lo ≤ place_at places k
  pub to : place_at places k < hi

pub data Halved (price : ℕ) (rs : List Row) (scores es places held : List ℕ) : ℕ → ℕ → Type 0 where
  whole : {lo hi : ℕ} → hi ≤ lo + 1 → Halved price rs scores es places held lo hi
  halves :
      {lo hi : ℕ} → lo + 1 < hi
      → Top price rs scores (Within es places (middle lo hi) hi) (get_or held (middle lo hi) 0)
      → Halved price rs scores es places held lo (middle lo hi)
      → Halved price rs scores es places held (middle lo hi) hi
      → Halved price rs scores es places held lo hi

pub record Holding (rs : List Row) (held : List ℕ) : Type 0 where
  pub holding : (i : ℕ) → i < length held → get_or held i 0 ≤ length rs

pub record Behind (price : ℕ) (rs : List Row) (scores held : List ℕ) (count place r : ℕ) : Type 0 where
  pub named : r ≤ length rs
  pub best :
      (es places : List ℕ) → ((k : ℕ) → k ∈ es → place_at places k < count)
      → Halved price rs scores es places held 0 count
      → Top price rs scores (Within es places (place + 1) count) r

pub record Entered (price : ℕ) (rs : List Row) (scores held : List ℕ) (lo hi place number : ℕ) (held' : List ℕ) : Type 0
  where
    pub holding : Holding rs held'
    -- strictly between lo and hi alone
    pub kept : (i : ℕ) → (i ≤ lo) ⊎ (hi ≤ i) → get_or held' i 0 ≡ get_or held i 0
    pub halved :
        (es places : List ℕ) → place_at places number ≡ place
        → Halved price rs scores es places held lo hi
        → Halved price rs scores (number ∷ es) places held' lo hi
