-- Taking newly found cuts group by group.
--     group-named, match-named    the sets that a group names are there, and those that a match does
--     clear_later, found-same, found_back    the sets that are taken from stay as they are
--     made-ready           what taking along a lane needs, from what a contract asks
--     Going                the loop's invariant: the groups before g are done
--     going-ready, going-ends     what taking needs still holds
--     going_step, going_end       one group more, and where it ends
--     going-not            no room for a group, or too many hits
-- Assumes nothing.
use Prim.Native.Nat.{ℕ, zero, suc, ◌+◌, ◌-◌, ◌≤◌, ◌<◌}
use mathlib.Core.Path.{◌≡◌, refl, sym, ap, subst, ◌∙◌}
use mathlib.Core.Logic.{◌↔◌, ◌⊎◌, inl, inr, ⊎_elim}
use mathlib.Core.List.{List, []}
use Rattle.std.specs.declared.result.Result.TheVariants.{Err}
use native.Mathlib.Omega.{arith}
use native.Mathlib.Decide.{dec_lt, ℕ_discrete}
use lib.ListN.{length}
use Rattle.refinement.specs.declared.Side.TheVariants.{A, B}
use Rattle.refinement.specs.Match.{Place}
use Rattle.runs.specs.Runs.{Same}
use Rattle.runs.proofs.Membership.{in-same}
use Rattle.cut_set.specs.Store.{Found, found_in}
use Rattle.cut_set.specs.declared.CutSet.{CutSet}
use Rattle.cut_set.proofs.Gathering.{base_done, used-limit, used-within}
use Rattle.cut_set.proofs.Laws.{done-used, good-same}
use Rattle.refining.specs.Columns.{Columns, count_of, to_at, to_right_at, Fit}
use Rattle.carrying_match.proofs.RunLists.{slice-same}
use Rattle.carrying_cuts.specs.Worker.{Image, Images, hits_over}
use Rattle.shelf.specs.Shelf.{set_at, Outside, Shelf, Shelved}
use Rattle.shelf.proofs.Shelving.{shelf-then, shelf-as, jammed-as}
use Rattle.shelf.proofs.Members.{grown-member}
use Rattle.carrying_group.specs.Group.{Carried, Grouping}
use Rattle.carrying_group.specs.declared.TooMany.{TooMany}
use Rattle.tracks.specs.Tracks.{Lane, LaneImage, lane_hits}
use Rattle.tracks.specs.Groups.{start_at, track_at, tracks_of, Groups, lane_by, part_of, Takes, TakesNot}
use Rattle.tracks.proofs.Grouped.{start-count, group-track, grouped-fit, part_count, part-image, image-part, part-hits}
use Rattle.carrying_lane.specs.Parts.{OneOfTwo, ClearBook, UsableParts, EndsKept}
use Rattle.carrying_lane.specs.Range.{Ready}

-- a number of a group that tells a track tells one that has a set
pub group-named :
    {gs : List ℕ} {n count sets at : ℕ} → Groups gs n count sets → OneOfTwo at → (g : ℕ) → g < n
    → track_at gs at g < sets
group-named {gs} {n} {count} {sets} {at} s o g l = go (ℕ_discrete at 1)
  where
    go : Dec (at ≡ 1) → track_at gs at g < sets
    go (yes e) = rw e (s.on_a g l)
    go (no e) = let two : at ≡ 2 = omega (arith, o.from, o.to) in rw two (s.on_b g l)

-- the matches name tracks that have a set
pub match-named :
    {c : Columns} {gs : List ℕ} {n sets at : ℕ} → Groups gs n (count_of c) sets → Fit c → OneOfTwo at
    → (k : ℕ) → k < count_of c → tracks_of gs n at k < sets
match-named {c} {gs} {n} {sets} {at} s fit o k l = go (ℕ_discrete at 1)
  where
    go : Dec (at ≡ 1) → tracks_of gs n at k < sets
    go (yes e) = rw e ((grouped-fit s fit refl []).named A k l)
    go (no e) = let two : at ≡ 2 = omega (arith, o.from, o.to) in rw two ((grouped-fit s fit refl []).named B k l)

-- outside of the places that change
module _ {xs fb : List ℕ} {n lo hi : ℕ} (c : ClearBook xs fb n lo hi) (ys : List ℕ) (o : Outside lo hi xs ys) where
  same_set : (j : ℕ) → j < n → Same xs ys (set_at fb j).base (set_at fb j).limit
  same_set j l k a b = o k (⊎_elim (λ h. inl (omega arith)) (λ h. inr (omega arith)) (c.each j l).apart)

  pub clear_later : length ys ≡ length xs → ClearBook ys fb n lo hi
  clear_later e = record {
    book = c.book;
    each = λ j l. record {
      good = good-same xs ys (same_set j l) e (c.each j l).good;
      ready = (c.each j l).ready;
      apart = (c.each j l).apart;
    };
  }

  pub found-same : (j : ℕ) → j < n → length ys ≡ length xs → found_in ys (set_at fb j) ≡ found_in xs (set_at fb j)
  found-same j l e =
      let g = (c.each j l).good in
      slice-same xs ys (used-within g) (omega (arith, used-within g)) (done-used g)
      (λ k a b. same_set j l k (omega (arith, base_done g)) (omega (arith, used-limit g)))

  pub found_back : (j : ℕ) → j < n → (x : ℕ) → Found ys (set_at fb j) x ↔ Found xs (set_at fb j) x
  found_back j l x =
      let g = (c.each j l).good in
      let s = same_set j l in (
        in-same (λ k a b. sym (s k (omega (arith, base_done g)) (omega (arith, used-limit g)))),
        in-same (λ k a b. s k (omega (arith, base_done g)) (omega (arith, used-limit g))),
      )

-- the hits of more matches are not fewer
hits-mono : (l : Lane) (f : ℕ → List ℕ) (a d : ℕ) → lane_hits l a f ≤ lane_hits l (a + d) f
hits-mono l f a zero = let e : a + 0 ≡ a = omega arith in rw e (omega arith)
hits-mono l f a (suc d) =
    let e : a + suc d ≡ suc (a + d) = omega arith in rw e (omega (arith, hits-mono l f a d))

-- a contract's facts in one record
pub made-ready :
    {c : Columns} {is gs fb : List ℕ} {n fa ta sets lo hi : ℕ} {xs b : List ℕ}
    → Fit c → count_of c ≤ 4294967296 → UsableParts is gs n c.from_lefts c.from_rights
    → Groups gs n (count_of c) sets → ClearBook xs fb sets lo hi → Shelf xs b sets lo hi
    → OneOfTwo fa → OneOfTwo ta
    → Ready c is gs fb n fa ta sets lo hi xs b
made-ready fit few usable groups clear shelf from to = record {
  fit = fit;
  few = few;
  usable = usable;
  groups = groups;
  clear = clear;
  shelf = shelf;
  from_one = from;
  to_one = to;
}

-- the groups before g of a lane are done
pub record Going (way : Lane) (gs fb : List ℕ) (n sets lo hi : ℕ) (xs b : List ℕ) (hits most g : ℕ)
    (ys b' : List ℕ) (total : ℕ) : Type 0 where
  pub until : g ≤ n
  pub lengths : length ys ≡ length xs
  pub book_length : length b' ≡ length b
  pub takes : Takes way (start_at gs g) fb sets lo hi xs b hits most ys b' total

module _ {c : Columns} {is gs fb : List ℕ} {n fa ta sets lo hi : ℕ} {xs b : List ℕ}
    (ready : Ready c is gs fb n fa ta sets lo hi xs b)
  where
    abbrev the_lane : Lane
    the_lane = lane_by c gs n fa ta

    fit : Fit c
    fit = ready.fit

    groups : Groups gs n (count_of c) sets
    groups = ready.groups

    -- what is newly found
    abbrev New : ℕ → ℕ → Type 0
    New i x = Found xs (set_at fb i) x

    abbrev news : ℕ → List ℕ
    news i = found_in xs (set_at fb i)

    module _ {hits most g : ℕ} {ys b' : List ℕ} {total : ℕ}
        (w : Going the_lane gs fb n sets lo hi xs b hits most g ys b' total)
      where
        pub going-ready : Ready c is gs fb n fa ta sets lo hi ys b'
        going-ready = record {
          fit = fit;
          few = ready.few;
          usable = ready.usable;
          groups = groups;
          clear = clear_later ready.clear ys w.takes.grown.outside w.lengths;
          shelf = w.takes.grown.shelf;
          from_one = ready.from_one;
          to_one = ready.to_one;
        }

        -- the ends of all matches stay members
        pub going-ends : EndsKept the_lane xs b → EndsKept the_lane ys b'
        going-ends kept k l =
            let grown = w.takes.grown.sets (tracks_of gs n ta k) (match-named groups fit ready.to_one k l) in
            (grown.stays (to_at c k) (kept k l).0, grown.stays (to_right_at c k) (kept k l).1)

    module _ {hits most g : ℕ} {ys b' : List ℕ} {total : ℕ}
        (w : Going the_lane gs fb n sets lo hi xs b hits most g ys b' total)
        (l : g < n)
      where
        abbrev start : ℕ
        start = start_at gs g

        abbrev stop : ℕ
        stop = start_at gs (suc g)

        abbrev from_set : CutSet
        from_set = set_at fb (track_at gs fa g)

        abbrev group : Columns
        group = part_of start stop c

        within : stop ≤ count_of c
        within = start-count groups (suc g) (omega arith)

        outside : Outside lo hi xs ys
        outside = w.takes.grown.outside

        from-set : track_at gs fa g < sets
        from-set = group-named groups ready.from_one g l

        -- the images of the group, as those of the lane
        to-lane :
            {i y : ℕ} → i ≡ track_at gs ta g → Images group (count_of group) (Found ys from_set) y
            → LaneImage the_lane stop New i y
        to-lane {i} {y} e q =
            let h : q.index < stop - start = omega (arith, q.below, part_count fit start stop within) in
            let k = start + q.index in
            let here = group-track groups fa g k l (omega arith) (omega arith) in
            record {
              index = k;
              below = omega arith;
              to_is = group-track groups ta g k l (omega arith) (omega arith) ∙ sym e;
              x = q.x;
              taken = rw here ((found_back ready.clear ys outside (track_at gs fa g) from-set q.x).0 q.carried);
              image = part-image fit start stop within h q.image;
            }

        wider : {m m' i y : ℕ} → m ≤ m' → LaneImage the_lane m New i y → LaneImage the_lane m' New i y
        wider h p = record {
          index = p.index;
          below = omega (arith, p.below);
          to_is = p.to_is;
          x = p.x;
          taken = p.taken;
          image = p.image;
        }

        of-lane :
            {i y : ℕ} → (p : LaneImage the_lane stop New i y) → Dec (p.index < start)
            → LaneImage the_lane start New i y
            ⊎ ((i ≡ track_at gs ta g) × Images group (count_of group) (Found ys from_set) y)
        of-lane p (yes h) = inl (record {
          index = p.index;
          below = h;
          to_is = p.to_is;
          x = p.x;
          taken = p.taken;
          image = p.image;
        })
        of-lane {i} {y} p (no h) =
            let k = p.index in
            let d = k - start in
            let at : start + d ≡ k = omega (arith, h) in
            let below : d < stop - start = omega (arith, h, p.below) in
            let here = group-track groups fa g k l (omega (arith, h)) p.below in
            let there = group-track groups ta g k l (omega (arith, h)) p.below in
            inr (
              sym p.to_is ∙ there,
              record {
                index = d;
                below = omega (arith, part_count fit start stop within);
                x = p.x;
                carried = (found_back ready.clear ys outside (track_at gs fa g) from-set p.x).1
                    (subst (λ (z : ℕ). New z p.x) here p.taken);
                image = image-part fit start stop within below
                    (subst (λ (z : ℕ). Image c z p.x y) (sym at) p.image);
              },
            )

        -- the hits of the group, added to those before it
        added :
            lane_hits the_lane start news + hits_over group (count_of group) (found_in ys from_set)
            ≡ lane_hits the_lane stop news
        added =
            part-hits fit start stop within (tracks_of gs n fa) (tracks_of gs n ta) news (found_in ys from_set)
            (λ k from to.
            ap news (group-track groups fa g k l from to)
            ∙ sym (found-same ready.clear ys outside (track_at gs fa g) from-set w.lengths))
            (groups.rising g l)

        pub going_step :
            {zs b'' : List ℕ} {h : ℕ} → length zs ≡ length ys
            → Carried group from_set sets lo hi (track_at gs ta g) ys b' total most zs b'' h
            → Going the_lane gs fb n sets lo hi xs b hits most (g + 1) zs b'' h
        going_step e q = let next : g + 1 ≡ suc g = omega arith in rw next (record {
          until = omega arith;
          lengths = e ∙ w.lengths;
          book_length = q.grown.shelf.book ∙ sym ready.shelf.book;
          takes = record {
            grown = shelf-as (shelf-then w.takes.grown q.grown) (λ i h y. (
              ⊎_elim (wider (groups.rising g l)) (λ p. to-lane p.0 p.1),
              λ p. of-lane p (dec_lt p.index start),
            ));
            counted = omega (arith, q.counted, w.takes.counted, added);
            few = q.few;
          };
        })

        all : lane_hits the_lane stop news ≤ lane_hits the_lane (count_of c) news
        all =
            let whole : stop + (count_of c - stop) ≡ count_of c = omega (arith, within) in
            subst (λ (z : ℕ). lane_hits the_lane stop news ≤ lane_hits the_lane z news) whole
            (hits-mono the_lane news stop (count_of c - stop))

        pub going-not :
            {none : TooMany}
            → Grouping group from_set sets lo hi (track_at gs ta g) ys b' total most ys b' (Err none)
            → TakesNot the_lane (count_of c) fb sets lo hi xs b hits most
        going-not (inl more) = inl (omega (arith, w.takes.counted, added, all))
        going-not (inr j) = inr (jammed-as shown j)
          where
            shown :
                (p : Place)
                → Shelved ys b' sets p
                ⊎ ((p.track ≡ track_at gs ta g) × Images group (count_of group) (Found ys from_set) p.position)
                → Shelved xs b sets p ⊎ LaneImage the_lane (count_of c) New p.track p.position
            shown p (inl q) =
                ⊎_elim (λ m. inl (record { set = q.set; member = m }))
                (λ m. inr (wider (omega (arith, within, groups.rising g l)) m))
                (grown-member (ready.shelf.good p.track q.set)
                (w.takes.grown.sets p.track q.set) q.member)
            shown p (inr q) = inr (wider within (to-lane q.0 q.1))

    pub going_end :
        {hits most g : ℕ} {ys b' : List ℕ} {total : ℕ}
        → Going the_lane gs fb n sets lo hi xs b hits most g ys b' total → n ≤ g
        → Takes the_lane (count_of c) fb sets lo hi xs b hits most ys b' total
    going_end {hits} {most} {g} {ys} {b'} {total} w h =
        let e : g ≡ n = omega (arith, w.until) in
        subst (λ (z : ℕ). Takes the_lane z fb sets lo hi xs b hits most ys b' total) (ap (start_at gs) e ∙ groups.last)
        w.takes
