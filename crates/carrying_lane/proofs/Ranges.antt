-- One group of a lane, as it was read.
--     read-from, read-to       the sets that it names are there
--     read-start, read-end     its matches are there
--     read-ranged              so is their index, or there is none
--     read-clear               the set that it takes from is gathered, and stands outside of the shelf's places
--     read-ends                the ends of its matches are members of the set that it takes to
--     none-taken               a set without newly found cuts has nothing to be taken
-- Assumes nothing.
use Prim.Native.Nat.{ℕ, zero, suc, ◌≤◌, ◌<◌}
use mathlib.Core.Path.{◌≡◌, refl, ap, subst}
use mathlib.Core.List.{List, []}
use native.Mathlib.Omega.{arith}
use lib.ListN.{length}
use lib.Seq.{slice, slice_empty}
use Rattle.cut_set.specs.Store.{found_in, NothingFound}
use Rattle.cut_set.specs.declared.CutSet.{CutSet}
use Rattle.refining.specs.Columns.{Columns, count_of, to_at, to_right_at}
use Rattle.carrying_match.specs.OneMatch.{EndsIn}
use Rattle.carrying_cuts.specs.Worker.{hits_over, EndsKnown}
use Rattle.shelf.specs.Shelf.{set_at, Shelf}
use Rattle.shelf.proofs.Shelving.{shelf-none, shelf-as}
use Rattle.carrying_group.specs.Group.{Clear, Carried}
use Rattle.tracks.specs.Groups.{start_at, track_at, lane_by, part_of}
use Rattle.tracks.proofs.Grouped.{start-count, group-track, part-ends}
use Rattle.carrying_lane.specs.Parts.{place_in, EndsKept}
use Rattle.carrying_lane.specs.Range.{GroupAt, Ready, Ranged}
use Rattle.carrying_lane.specs.declared.Group.{Group}
use Rattle.carrying_lane.proofs.Lanes.{group-named}

-- r is the group g of a lane
module _ {c : Columns} {is gs fb : List ℕ} {n fa ta sets lo hi : ℕ} {xs b : List ℕ}
    (ready : Ready c is gs fb n fa ta sets lo hi xs b)
    {g : ℕ}
    (l : g < n)
    {r : Group}
    (read : GroupAt gs g fa ta r)
  where
    pub read-from : r.from < sets
    read-from = rw read.from_is (group-named ready.groups ready.from_one g l)

    pub read-to : r.to < sets
    read-to = rw read.to_is (group-named ready.groups ready.to_one g l)

    pub read-start : r.start ≤ 4294967296
    read-start = omega (arith, read.start_is, start-count ready.groups g (omega arith), ready.few)

    within : start_at gs (suc g) ≤ count_of c
    within = start-count ready.groups (suc g) (omega arith)

    pub read-end : r.end ≤ 4294967296
    read-end = omega (arith, read.end_is, within, ready.few)

    pub read-clear : {f : CutSet} → f ≡ set_at fb r.from → Clear xs f lo hi
    read-clear from = rw from (ready.clear.each r.from read-from)

    pub read-ranged :
        {low high : ℕ} → low ≡ place_in (length is) r.start → high ≡ place_in (length is) r.end
        → Ranged c is r low high
    read-ranged e e' = record {
      fit = ready.fit;
      order = rw read.start_is (rw read.end_is (ready.groups.rising g l));
      within = rw read.end_is within;
      index_order = rw e (rw e' (rw read.start_is (rw read.end_is (ready.usable.order g l))));
      index_within = rw e' (rw read.end_is (ready.usable.within g l));
      usable = rw e (rw e' (rw read.start_is (rw read.end_is (ready.usable.usable g l))));
    }

    -- by where the group stands
    ends-part :
        EndsKept (lane_by c gs n fa ta) xs b
        → EndsKnown (part_of (start_at gs g) (start_at gs (suc g)) c) xs (set_at b (track_at gs ta g))
    ends-part kept =
        part-ends ready.fit (start_at gs g) (start_at gs (suc g)) within (EndsIn xs (set_at b (track_at gs ta g)))
        (λ k from to. subst (λ (z : ℕ). EndsIn xs (set_at b z) (to_at c k) (to_right_at c k))
        (group-track ready.groups ta g k l from to) (kept k (omega (arith, within, to))))

    pub read-ends :
        EndsKept (lane_by c gs n fa ta) xs b → EndsKnown (part_of r.start r.end c) xs (set_at b r.to)
    read-ends kept = rw read.start_is (rw read.end_is (rw read.to_is (ends-part kept)))

-- no hit without a cut
hits-empty : (c : Columns) (k : ℕ) → hits_over c k [] ≡ 0
hits-empty c zero = refl
hits-empty c (suc k) = omega (arith, hits-empty c k)

pub none-taken :
    (c : Columns) {from : CutSet} {n lo hi : ℕ} (j : ℕ) {xs b : List ℕ} {hits most : ℕ} → NothingFound from
    → Shelf xs b n lo hi → hits ≤ most → Carried c from n lo hi j xs b hits most xs b hits
none-taken c {from} j {xs} {hits = hits} none shelf few = record {
  grown = shelf-as (shelf-none shelf) (λ i l y. (
    λ p. absurd p,
    λ p. absurd (omega (arith, none, p.1.carried.from, p.1.carried.below)),
  ));
  counted = omega (arith, ap (hits_over c (count_of c)) nothing, hits-empty c (count_of c));
  few = few;
}
  where
    nothing : found_in xs from ≡ []
    nothing = subst (λ (z : ℕ). slice from.done z xs ≡ []) none (slice_empty from.done xs)
