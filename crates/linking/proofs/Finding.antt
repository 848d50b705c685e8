-- The link of the next row is found.
--     number-named          the row's number is that of a row
--     behind-asked          what looking for the best row behind its place asks
--     found-extendable      the best row found may be linked to
--     found                 the link to it begins the best chain
-- Assumes nothing.
use Prim.Native.Nat.{ℕ, ◌+◌, ◌-◌, ◌≤◌, ◌<◌}
use mathlib.Core.Path.{◌≡◌, refl}
use mathlib.Core.List.{List}
use native.Mathlib.Omega.{arith}
use lib.ListN.{length, get_or}
use Rattle.rows.specs.declared.Row.{Row}
use Rattle.backbone.specs.Chains.{Direct}
use Rattle.best_chains.specs.Best.{Apart}
use Rattle.weighing.specs.Weighing.{Scored, Top}
use Rattle.best_rows.specs.Halves.{Holding, Behind}
use Rattle.walking.specs.Trail.{link_at}
use Rattle.linking.specs.Linking.{links_in, held_in, Extendable, Extended, Ready, Found}
use Rattle.linking.specs.declared.Link.{Link}
use Rattle.linking.proofs.Following.{Follower}
use Rattle.linking.proofs.Stepping.{onward, extendable}
use Rattle.linking.proofs.Parts.{lent_in, lent-held, held-many, link-read}
use Rattle.linking.proofs.Next.{row-direct, next-placed, next-top, next-linked}

module _ {price n : ℕ} {rs : List Row} {d t : ℕ} {work scores : List ℕ} (apart : Apart rs) (priced : price ≤ 1000)
    (ready : Ready price rs d t work scores) (counted : n ≡ length rs) where
  -- the next row
  abbrev k : ℕ
  k = get_or work t 0

  -- where its place is read
  abbrev place : ℕ
  place = get_or work (n + k - 1) 0

  -- it is direct
  direct : Direct rs k
  direct = row-direct apart ready.linked ready.more t ready.more

  pub number-named : (1 ≤ k) × (k ≤ length rs)
  number-named = (direct.from_one, direct.to_last)

  -- that is where it is kept
  place_read : place ≡ link_at (links_in (length rs) work) k
  place_read = rw counted (link-read (length rs) work k direct.from_one direct.to_last)

  -- the part that is lent
  part_held : lent_in n work ≡ held_in (length rs) work
  part_held = rw counted (lent-held (length rs) work)

  pub behind-asked :
      Scored rs scores price × (Holding rs (lent_in n work) × ((d ≤ length (lent_in n work)) × (place < d)))
  behind-asked =
      let l = ready.linked in (
        record { each = l.score_room; priced = priced },
        rw (part_held, place_read) (
          l.holding,
          (
            omega (arith, held-many (length rs) work l.work_room, l.arranged.few, l.counted),
            next-placed apart l ready.more,
          ),
        ),
      )

  module _ {next : ℕ} (b : Behind price rs scores (lent_in n work) d place next) where
    -- what is found is the best row that may follow
    top : Top price rs scores (Follower rs k) next
    top = next-top apart ready.linked ready.more (rw (part_held, place_read) at b)

    pub found-extendable : Extendable rs scores price k next
    found-extendable =
        extendable direct (next-linked apart ready.linked ready.more) top apart ready.linked.score_room priced
        b.named

    pub found : {made : Link} → Extended rs scores price k next made
        → Found price rs t work (record { number = k; place = place; next = made.next; score = made.score })
    found extended =
        record {
          number = refl;
          place = place_read;
          onward = onward direct (next-linked apart ready.linked ready.more) top extended;
        }
