-- The stretches of rows, gathered in a window of letters. Only the count of letters promises anything by it.
--     end                            no stretch ends there or behind
--     StretchOf s r x                x is the stretch that the row r has on the side s
--     under_pass lows highs p h       the letter behind h is under what a pass has stored, or under its run
--     Running from lows highs p      both are in order, for a window from `from` on
--     TakenIn, Passed                both after one more stretch, and after those of all rows
--     Gathered                       what is stored after all rows
-- Assumes nothing.
use Rattle.std.specs.Prelude.{ℕ, ◌^◌, ◌≤◌, ◌<◌, Bool, ◌||◌, ◌≡◌, List}
use Rattle.refinement.specs.declared.Side.{Side}
use Rattle.table.specs.Covering.{left_of, right_of}
use Rattle.table.specs.Tally.{within, is_covered}
use Rattle.stretches.specs.Stores.{Held, under_store}
use Rattle.stretches.specs.declared.Stretch.{Stretch}
use Rattle.stretches.specs.declared.Store.{Store}
use Rattle.rows.specs.declared.Row.{Row}
use Rattle.row_stretches.specs.declared.Pass.{Pass}

abbrev pub end : ℕ
end = 2 ^ 33

pub record StretchOf (s : Side) (r : Row) (x : Stretch) : Type 0 where
  pub left : x.low ≡ left_of s r
  pub right : x.high ≡ right_of s r

-- the letters under both
abbrev pub under_pass : List ℕ → List ℕ → Pass → ℕ → Bool
under_pass lows highs p h = within p.run.low p.run.high h || under_store lows highs p.store h

pub record Running (from : ℕ) (lows highs : List ℕ) (p : Pass) : Type 0 where
  pub held : Held from lows highs p.store
  pub order : p.run.low ≤ p.run.high

pub record TakenIn (from : ℕ) (x : Stretch) (L H : List ℕ) (before : Pass) (lows highs : List ℕ) (p : Pass)
    : Type 0 where
  pub running : Running from lows highs p
  pub shorter : p.store.to ≤ before.store.to
  pub more : (h : ℕ) → from ≤ h → h < p.store.to
      → under_pass lows highs p h ≡ (under_pass L H before h || within x.low x.high h)

pub record Passed (s : Side) (rs : List Row) (from : ℕ) (lows highs : List ℕ) (p : Pass) : Type 0 where
  pub running : Running from lows highs p
  pub shorter : p.store.to ≤ end
  pub all : (h : ℕ) → from ≤ h → h < p.store.to → under_pass lows highs p h ≡ is_covered s rs h

pub record Gathered (s : Side) (rs : List Row) (from : ℕ) (lows highs : List ℕ) (store : Store) : Type 0 where
  pub held : Held from lows highs store
  pub shorter : store.to ≤ end
  pub all : (h : ℕ) → from ≤ h → h < store.to → under_store lows highs store h ≡ is_covered s rs h
