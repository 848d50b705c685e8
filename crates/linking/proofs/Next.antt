-- The next row to be linked.
--     row-direct, row-ahead            the rows by A are direct, and each is ahead of those behind it
--     linked-direct, linked-ahead      those that are linked are direct, and ahead of the next
--     next_place, next-placed          its place is kept where its link will be
--     next-top                         the best of the rows entered behind its place is the best that may follow it
--     next-linked                      all that may follow it are linked
-- Assumes nothing.
use Prim.Native.Nat.{ℕ, ◌+◌, ◌<◌}
use mathlib.Core.Path.{◌≡◌}
use mathlib.Core.Logic.{◌↔◌}
use mathlib.Core.List.{List}
use native.Mathlib.Omega.{arith}
use lib.ListN.{length, get_or, take}
use lib.Seq.{take-take, get_or-take}
use Rattle.rows.specs.declared.Row.{Row}
use Rattle.refinement.specs.declared.Side.TheVariants.{A}
use Rattle.refinement.specs.Order.{◌∈◌}
use Rattle.backbone.specs.Chains.{Direct}
use Rattle.best_chains.specs.Best.{Apart}
use Rattle.row_order.specs.Order.{Ahead}
use Rattle.backbone.proofs.Places.{at-∈}
use Rattle.direct_rows.specs.Direct.{place_at}
use Rattle.weighing.specs.Weighing.{Top}
use Rattle.weighing.proofs.Top.{top-same}
use Rattle.best_rows.specs.Halves.{Within, Behind}
use Rattle.walking.specs.Trail.{link_at}
use Rattle.linking.specs.Linking.{links_in, held_in, LinkedRow, Linked}
use Rattle.linking.proofs.Following.{Follower, following}
use Rattle.linking.proofs.Members.{stands}

module _ {price : ℕ} {rs : List Row} {d t : ℕ} {work scores : List ℕ} {first : ℕ} (apart : Apart rs)
    (l : Linked price rs d t work scores first) (more : t < d) where
  -- the row at place t
  abbrev next : ℕ
  next = get_or work t 0

  -- the rows by A
  row_in : (i : ℕ) → i < d → get_or work i 0 ∈ take d work
  row_in i below = rw (get_or-take d work i 0 below) at (at-∈ (take d work) i (omega (arith, l.counted)))

  pub row-direct : (i : ℕ) → i < d → Direct rs (get_or work i 0)
  row-direct i below = (l.arranged.direct (get_or work i 0)).0 (row_in i below)

  pub row-ahead : (i j : ℕ) → i < j → j < d → Ahead rs A (get_or work i 0) (get_or work j 0)
  row-ahead i j less below =
      rw (get_or-take d work i 0 (omega arith), get_or-take d work j 0 below) at
      (l.arranged.in_order.ahead i j less (omega (arith, l.counted)))

  pub linked-direct : {j : ℕ} → j ∈ take t work → Direct rs j
  linked-direct m = let s = stands work t m in rw s.reads (row-direct s.place (omega arith))

  pub linked-ahead : {j : ℕ} → j ∈ take t work → Ahead rs A j next
  linked-ahead m = let s = stands work t m in rw s.reads (row-ahead s.place t s.before more)

  pub next_place : link_at (links_in (length rs) work) next ≡ place_at l.places next
  next_place = l.waiting t (omega arith) more

  pub next-placed : link_at (links_in (length rs) work) next < d
  next-placed = omega (arith, next_place, l.arranged.below next (row_in t more), l.counted)

  -- the rows entered behind its place
  followers : (j : ℕ) → Within (take t work) l.places (place_at l.places next + 1) d j ↔ Follower rs next j
  followers = rw (take-take t d work (omega arith), get_or-take d work t 0 more, l.counted) at
      (following apart l.arranged t (omega (arith, l.counted)))

  -- each has a place
  linked-below : (j : ℕ) → j ∈ take t work → place_at l.places j < d
  linked-below j m = omega (arith, l.arranged.below j ((l.arranged.direct j).1 (linked-direct m)), l.counted)

  pub next-top : {r : ℕ}
      → Behind price rs scores (held_in (length rs) work) d (link_at (links_in (length rs) work) next) r
      → Top price rs scores (Follower rs next) r
  next-top b =
      top-same followers
      (rw next_place at (b.best (take t work) l.places linked-below l.halved))

  pub next-linked : (j : ℕ) → Follower rs next j → LinkedRow price rs (links_in (length rs) work) scores j
  next-linked j f = l.linked j ((followers j).1 f).entered
