-- Windows counted one after the other.
--     window-counted     the sum of what is gathered is the letters covered in the window
--     begun-none, begun_first     before any window, and behind the first
--     counted_next       the letters before the end of a window
--     counted-fits       their sum fits
--     cover-counted      behind the last window, all letters covered
-- Assumes nothing.
use Prim.Native.Nat.{ℕ, ◌+◌, ◌^◌, ◌≤◌, ◌<◌}
use mathlib.Core.Path.{◌≡◌, refl, sym, ◌∙◌}
use mathlib.Core.List.{List}
use native.Mathlib.Omega.{arith}
use lib.ListN.{get_or, take}
use Rattle.refinement.specs.declared.Side.{Side}
use Rattle.rows.specs.Rows.{rows_of}
use Rattle.rows.specs.declared.Row.{Row}
use Rattle.table.specs.Covering.{cover_of}
use Rattle.table.specs.Tally.{is_covered, tally}
use Rattle.table.proofs.Tally.{tally-between, tally-empty, tally-at-most}
use Rattle.table.proofs.Covers.{cover-tally}
use Rattle.table.proofs.Laws.{table-ends}
use Rattle.stretches.specs.Stores.{under, Summed}
use Rattle.row_stretches.specs.Passes.{end, Gathered}
use Rattle.covered_letters.specs.Windows.{Counted, Begun}
use Rattle.stretches.specs.declared.Store.{Store}
use Rattle.stretches.proofs.Adding.{stored-before}
use Rattle.covered_letters.specs.declared.Window.{Window}

pub window-counted : {s : Side} {rs : List Row} {from letters : ℕ} {lows highs : List ℕ} {store : Store}
    → Gathered s rs from lows highs store → Summed (take store.used lows) (take store.used highs) letters
    → Counted s rs from (record { letters = letters; to = store.to })
window-counted {s} {rs} {from} {lows = lows} {highs = highs} {store = store} g sum =
    let xs = take store.used lows in
    let ys = take store.used highs in
    let stored = g.held.stored in
    let all = sum.summed store.to stored.none_behind in
    let none = tally-empty (under xs ys) from (stored-before stored) in
    let onward : from ≤ store.to = omega (arith, g.held.onward) in
    let between = tally-between (is_covered s rs) (under xs ys) from store.to onward
    (λ h l l'. sym (g.all h l l')) in
    record { onward = g.held.onward; shorter = g.shorter; counted = omega (arith, all, none, between) }

-- no window, the first, and one more
pub begun-none : (s : Side) (rs : List Row) → Begun s rs (record { letters = 0; to = 0 })
unfolding tally
begun-none s rs = record { shorter = omega arith; counted = refl }

pub begun_first : {s : Side} {rs : List Row} {w : Window} → Counted s rs 0 w → Begun s rs w
unfolding tally
begun_first c = record { shorter = c.shorter; counted = omega (arith, c.counted) }

module _ {s : Side} {rs : List Row} {from letters : ℕ} {w : Window} (c : Counted s rs from w)
    (sum : letters ≡ tally (is_covered s rs) from) where
  pub counted_next : letters + w.letters ≡ tally (is_covered s rs) w.to
  counted_next = omega (arith, c.counted)

  pub counted-fits : letters + w.letters ≤ end
  counted-fits = omega (arith, counted_next, tally-at-most (is_covered s rs) w.to, c.shorter)

pub cover-counted : (s : Side) (t : List ℕ) {from letters : ℕ} → ((k : ℕ) → get_or t k 0 < 2 ^ 32) → end ≤ from
    → letters ≡ tally (is_covered s (rows_of t)) from → letters ≡ cover_of s (rows_of t)
cover-counted s t {from} fits ended sum =
    sum ∙ sym (cover-tally s (rows_of t) from (λ r m. omega (arith, table-ends s t fits r m)))
