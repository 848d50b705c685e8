-- One group of matches, as it was read.
--     Span                 its matches are there
--     whole, group-whole   the group g: its matches end where the next one's start; what was read is that
--     group-to, group-span     it ends within the columns
--     group-named          its track has a set
--     match-in, match-of   a match of the group is one of all; one of all is of the groups before or of this one
--     match-wide           one of the first matches is one of more
-- Assumes nothing.
use Prim.Native.Nat.{ℕ, suc, ◌+◌, ◌-◌, ◌*◌, ◌≤◌, ◌<◌}
use mathlib.Core.Path.{◌≡◌, sym, ap, subst, ◌∙◌}
use mathlib.Core.Logic.{◌⊎◌, inl, inr}
use mathlib.Core.List.{List}
use native.Mathlib.Omega.{arith}
use native.Mathlib.Decide.{dec_lt}
use lib.ListN.{length, get_or}
use Rattle.tracks.specs.Groups.{start_at, track_at, part}
use Rattle.tracks.proofs.Grouped.{start-count, group-track, track-named, part_length, part_at}
use Rattle.seeding.specs.Seeds.{MatchHere}
use Rattle.seeding.specs.Sown.{group_at, SideGroups, MatchIn}
use Rattle.seeding.specs.declared.Group.{Group}

-- a group whose matches are there
pub record Span (f r : List ℕ) (q : Group) : Type 0 where
  pub order : q.start ≤ q.end
  pub left : q.end ≤ length f
  pub right : q.end ≤ length r

-- the group g: its matches end where the next one's start
abbrev pub whole : List ℕ → ℕ → ℕ → Group
whole gs at g = record { start = start_at gs g; end = start_at gs (suc g); track = track_at gs at g }

pub group-whole : (gs : List ℕ) (at g : ℕ) {q : Group} → q ≡ group_at gs at g → q ≡ whole gs at g
group-whole gs at g e = e ∙ (λ i. record { start = start_at gs g; end = next i; track = track_at gs at g })
  where
    same : 3 * g + 3 ≡ 3 * suc g
    same = omega arith

    next : get_or gs (3 * g + 3) 0 ≡ start_at gs (suc g)
    next = ap (λ k. get_or gs k 0) same

module _ {f r gs : List ℕ} {n at sets : ℕ} (s : SideGroups f r gs n at sets) where
  -- the group g
  module _ {g : ℕ} (l : g < n) where
    abbrev start : ℕ
    start = start_at gs g

    abbrev stop : ℕ
    stop = start_at gs (suc g)

    pub group-to : stop ≤ length f
    group-to = start-count s.groups (suc g) (omega arith)

    to_right : stop ≤ length r
    to_right = omega (arith, group-to, s.same_length)

    pub group-span : {q : Group} → q ≡ group_at gs at g → Span f r q
    group-span e =
        rw (group-whole gs at g e) (record { order = s.groups.rising g l; left = group-to; right = to_right })

    pub group-named : {q : Group} → q ≡ group_at gs at g → q.track < sets
    group-named e = rw (group-whole gs at g e) (track-named s.groups s.at_from s.at_to g l)

    -- the ends of the match at an index of the group
    module _ {k : ℕ} (h : k < stop - start) where
      left_at : get_or (part start stop f) k 0 ≡ get_or f (start + k) 0
      left_at = part_at start stop f group-to 0 k h

      right_at : get_or (part start stop r) k 0 ≡ get_or r (start + k) 0
      right_at = part_at start stop r to_right 0 k h

    -- a match of the group, by its index there
    abbrev Here : (ℕ → ℕ → Type 0) → Type 0
    Here R = MatchHere R (part start stop f) (part start stop r) (length (part start stop f))

    pub match-in : {R : ℕ → ℕ → Type 0} → Here R → MatchIn R f r gs n at stop (track_at gs at g)
    match-in {R} q =
        let h : q.index < stop - start = omega (arith, q.below, part_length start stop f group-to) in
        let k = start + q.index in
        record {
          index = k;
          below = omega arith;
          track_is = group-track s.groups at g k l (omega arith) (omega arith);
          is = subst (λ (z : ℕ). R (get_or f k 0) z) (right_at h)
              (subst (λ (z : ℕ). R z (get_or (part start stop r) q.index 0)) (left_at h) q.is);
        }

    pub match-of :
        {R : ℕ → ℕ → Type 0} {j : ℕ} (p : MatchIn R f r gs n at stop j)
        → MatchIn R f r gs n at start j ⊎ ((j ≡ track_at gs at g) × Here R)
    match-of {R} {j} p = go (dec_lt p.index start)
      where
        go : Dec (p.index < start) → MatchIn R f r gs n at start j ⊎ ((j ≡ track_at gs at g) × Here R)
        go (yes h) = inl (record { index = p.index; below = h; track_is = p.track_is; is = p.is })
        go (no h) =
            let k = p.index in
            let d = k - start in
            let same : k ≡ start + d = omega (arith, h) in
            let below : d < stop - start = omega (arith, h, p.below) in
            let is = subst (λ (z : ℕ). R (get_or f z 0) (get_or r z 0)) same p.is in
            inr (
              sym p.track_is ∙ group-track s.groups at g k l (omega (arith, h)) p.below,
              record {
                index = d;
                below = omega (arith, part_length start stop f group-to);
                is = subst (λ (z : ℕ). R (get_or (part start stop f) d 0) z) (sym (right_at below))
                    (subst (λ (z : ℕ). R z (get_or r (start + d) 0)) (sym (left_at below)) is);
              },
            )

pub match-wide :
    {R : ℕ → ℕ → Type 0} {f r gs : List ℕ} {n at m m' j : ℕ} → m ≤ m' → MatchIn R f r gs n at m j
    → MatchIn R f r gs n at m' j
match-wide h p = record { index = p.index; below = omega (arith, p.below); track_is = p.track_is; is = p.is }
