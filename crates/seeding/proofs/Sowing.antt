-- Adding the ends of the matches group by group.
--     Sowing               the invariant of the loop: the ends of the matches of the groups before g are added
--     sowing-step, sowing-full, sowing-end   one group more, no room for one, its end
-- Assumes nothing.
use Prim.Native.Nat.{ℕ, suc, ◌+◌, ◌-◌, ◌≤◌, ◌<◌}
use mathlib.Core.Path.{◌≡◌, ap, subst, ◌∙◌}
use mathlib.Core.Logic.{◌⊎◌, inl, inr, ⊎_elim}
use mathlib.Core.List.{List}
use native.Mathlib.Omega.{arith}
use lib.ListN.{length}
use Rattle.refinement.specs.Match.{Place}
use Rattle.shelf.specs.Shelf.{Shelf, GrownShelf, Jammed, Shelved}
use Rattle.shelf.proofs.Shelving.{shelf-then, shelf-as, jammed-as}
use Rattle.shelf.proofs.Members.{grown-member}
use Rattle.tracks.specs.Groups.{start_at, part}
use Rattle.tracks.proofs.Grouped.{start-count}
use Rattle.seeding.specs.Seeds.{EndOf}
use Rattle.seeding.specs.Sown.{group_at, SideGroups, EndIn}
use Rattle.seeding.specs.declared.Group.{Group}
use Rattle.seeding.proofs.OneGroup.{whole, group-whole, group-to, match-in, match-of, match-wide}

-- f and r are the ends of the matches, xs and b the shelf before
pub record Sowing (f r gs : List ℕ) (n at sets lo hi : ℕ) (xs b : List ℕ) (g : ℕ) (ys b' : List ℕ) : Type 0 where
  pub until : g ≤ n
  pub lengths : length ys ≡ length xs
  pub grown : GrownShelf (EndIn f r gs n at (start_at gs g)) sets lo hi xs b ys b'

-- an end of one of the matches of a group, and the number of its set
abbrev EndHere : List ℕ → List ℕ → Group → ℕ → ℕ → Type 0
EndHere f r q i y =
    (i ≡ q.track)
    × EndOf (part q.start q.end f) (part q.start q.end r) (length (part q.start q.end f)) y

module _ {f r gs : List ℕ} {n at sets : ℕ} (s : SideGroups f r gs n at sets) where
  module _ {lo hi : ℕ} {xs b : List ℕ} (shelf : Shelf xs b sets lo hi) where
    module _ {g : ℕ} {ys b' : List ℕ} (w : Sowing f r gs n at sets lo hi xs b g ys b') (l : g < n) {q : Group}
        (e : q ≡ group_at gs at g)
      where
        pub sowing-step :
            {zs b'' : List ℕ} → length zs ≡ length ys → GrownShelf (EndHere f r q) sets lo hi ys b' zs b''
            → Sowing f r gs n at sets lo hi xs b (g + 1) zs b''
        sowing-step m p = record {
          until = omega arith;
          lengths = m ∙ w.lengths;
          grown = rw next (shelf-as (shelf-then w.grown (rw (group-whole gs at g e) at p)) (λ i h y. (
            ⊎_elim (match-wide (s.groups.rising g l)) (λ k. rw k.0 (match-in s l k.1)),
            λ k. match-of s l k,
          )));
        }
          where
            next : g + 1 ≡ suc g
            next = omega arith

        pub sowing-full :
            Jammed (λ p. Shelved ys b' sets p ⊎ EndHere f r q p.track p.position) (hi - lo)
            → Jammed (λ p. Shelved xs b sets p ⊎ EndIn f r gs n at (length f) p.track p.position) (hi - lo)
        sowing-full j = jammed-as shown (rw (group-whole gs at g e) at j)
          where
            shown :
                (p : Place) → Shelved ys b' sets p ⊎ EndHere f r (whole gs at g) p.track p.position
                → Shelved xs b sets p ⊎ EndIn f r gs n at (length f) p.track p.position
            shown p (inl k) =
                ⊎_elim (λ m. inl (record { set = k.set; member = m }))
                (λ m. inr (match-wide (start-count s.groups g w.until) m))
                (grown-member (shelf.good p.track k.set) (w.grown.sets p.track k.set) k.member)
            shown p (inr k) = inr (match-wide (group-to s l) (rw k.0 (match-in s l k.1)))

    pub sowing-end :
        {g : ℕ} {ys b' : List ℕ} → Sowing f r gs n at sets lo hi xs b g ys b' → n ≤ g
        → GrownShelf (EndIn f r gs n at (length f)) sets lo hi xs b ys b'
    sowing-end {g} {ys} {b'} w h =
        let e : g ≡ n = omega (arith, w.until) in
        subst (λ (z : ℕ). GrownShelf (EndIn f r gs n at z) sets lo hi xs b ys b') (ap (start_at gs) e ∙ s.groups.last)
        w.grown
