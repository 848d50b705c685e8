-- What the parts of making an index do. Only the contracts of the crate indexing cite this file.
--     Bounding xs first last r           none of the numbers at these places is more than r
--     Arranged xs f g                    the order of the matches stands in xs, which has room for the index
--     Listed xs f g                      besides, their ends are listed in this order
--     Overlaid xs at c ys                the level above the c numbers from place `at` on is made, and nothing before
--                                        it is altered
--     Raised xs at c ys                  so are all levels above
-- Assumes nothing.
use Rattle.std.specs.Prelude.{ℕ, ◌+◌, ◌≤◌, ◌<◌, ◌≡◌, List, length, get_or}
use Rattle.runs.specs.Runs.{Same}
use Rattle.arrangement.specs.Index.{Order, index_room, EndsListed, Covered, Levels}

pub record Bounding (xs : List ℕ) (first last r : ℕ) : Type 0 where
  pub bound : (k : ℕ) → first ≤ k → k < last → get_or xs k 0 ≤ r

-- xs begins with an order of the matches with the left ends f and the right ends g, and their index fits in it
pub record Arranged (xs f g : List ℕ) : Type 0 where
  pub same_length : length f ≡ length g
  pub room : index_room (length f) ≤ length xs
  pub order : Order xs (length f)

-- xs begins with an order of the matches and their ends
pub record Listed (xs f g : List ℕ) : Type 0 where
  pub order : Order xs (length f)
  pub listed : EndsListed xs f g (length f)

pub record Overlaid (xs : List ℕ) (at count : ℕ) (ys : List ℕ) : Type 0 where
  pub kept : Same xs ys 0 (at + count)
  pub covered : Covered ys at count

pub record Raised (xs : List ℕ) (at count : ℕ) (ys : List ℕ) : Type 0 where
  pub kept : Same xs ys 0 (at + count)
  pub levels : Levels ys at count
