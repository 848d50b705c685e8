-- Carrying the newly found cuts over one match after the other.
--     Passed              the invariant: they are carried over the first k matches
--     pass-start, pass_step, pass-end     where it begins, one match more, and the end
--     pass-stop           no room for the images of one match more, or too many hits with it
--     pass-over, pass-none    matches that reach no cut change nothing, nor does any match where there is no cut
--     pass-ready, pass-run, pass-ends     what the next match needs
--     hits_more           more matches have no fewer hits
-- Assumes nothing.
use Prim.Native.Nat.{ℕ, zero, suc, ◌+◌, ◌≤◌, ◌<◌}
use native.Mathlib.Omega.{arith}
use native.Mathlib.Decide.{ℕ_discrete}
use mathlib.Core.Path.{◌≡◌, refl, sym, ◌∙◌}
use mathlib.Core.Bool.{Bool, true, false, true≢false}
use mathlib.Core.List.{List}
use mathlib.Core.Logic.{◌↔◌, ◌⊎◌, inl, inr, ⊎_elim}
use lib.ListN.{length, get_or}
use borrow.Author.Tests.{le-leb}
use Rattle.refinement.specs.Match.{between}
use Rattle.refinement.proofs.Geometry.{between-bounds}
use Rattle.runs.specs.Runs.{Same}
use Rattle.cut_set.specs.Store.{Found, FoundRun, NothingFound, found_in, Stored, Cramped}
use Rattle.cut_set.specs.declared.CutSet.{CutSet}
use Rattle.runs.proofs.Membership.{lt-or-le, in-same}
use Rattle.cut_set.proofs.Laws.{done-used, stored-none, stored_same, stored-then, cramped-wide, cramped-then}
use Rattle.reading_cuts.specs.Reading.{Lowest, Highest}
use Rattle.refining.specs.Columns.{Columns, count_of, from_at, from_right_at, to_at, to_right_at, way_at}
use Rattle.near_matches.specs.Near.{reaching, Passable}
use Rattle.std.specs.Prelude.{Err}
use Rattle.carrying_match.specs.declared.Stop.{Stop}
use Rattle.carrying_match.specs.OneMatch.{EndsIn, ImageBy, hits_on, Ready, Carrying}
use Rattle.carrying_cuts.specs.Worker.{EndsKnown, Images, hits_over, Working}
use Rattle.carrying_match.proofs.RunLists.{slice-same, hits-none}
use Rattle.cut_set.proofs.Gathering.{base_done, used-limit, used-within}
use Rattle.carrying_match.proofs.Storing.{same-apart, ready-then}

-- an image of a number with P under the match at index k
abbrev ImageAt : Columns → ℕ → (ℕ → Type 0) → ℕ → Type 0
ImageAt columns k =
    ImageBy (from_at columns k) (from_right_at columns k) (to_at columns k) (to_right_at columns k) (way_at columns k)

pub record Passed (columns : Columns) (xs : List ℕ) (from to : CutSet) (hits most : ℕ) (ys : List ℕ)
    (set : CutSet) (count k : ℕ) : Type 0 where
  pub until : k ≤ count_of columns
  pub lengths : length ys ≡ length xs
  pub stored : Stored (Images columns k (Found xs from)) xs to ys set
  pub counted : count ≡ hits + hits_over columns k (found_in xs from)
  pub few : count ≤ most

-- more matches have no fewer hits
pub hits_more : (columns : Columns) (ns : List ℕ) (k n : ℕ) → k ≤ n → hits_over columns k ns ≤ hits_over columns n ns
hits_more columns ns k zero h = let e : k ≡ 0 = omega arith in rw e (omega arith)
hits_more columns ns k (suc n) h = go (ℕ_discrete k (suc n)) (λ l. hits_more columns ns k n l)
  where
    go : Dec (k ≡ suc n) → (k ≤ n → hits_over columns k ns ≤ hits_over columns n ns)
        → hits_over columns k ns ≤ hits_over columns (suc n) ns
    go (yes e) before = rw e (omega arith)
    go (no e) before = omega (arith, before (omega arith))

images-to :
    {columns : Columns} {k n y : ℕ} {P : ℕ → Type 0} → k ≤ n → Images columns k P y → Images columns n P y
images-to h m = record {
  index = m.index;
  below = omega (arith, m.below);
  x = m.x;
  carried = m.carried;
  image = m.image;
}

-- matches without a hit
hits-same :
    (columns : Columns) (ns : List ℕ) (k n : ℕ) → k ≤ n
    → ((j : ℕ) → k ≤ j → j < n → hits_on (from_at columns j) (from_right_at columns j) ns ≡ 0)
    → hits_over columns n ns ≡ hits_over columns k ns
hits-same columns ns k zero h none = let e : k ≡ 0 = omega arith in rw e
hits-same columns ns k (suc n) h none =
    go (ℕ_discrete k (suc n)) (λ l. hits-same columns ns k n l (λ j a b. none j a (omega arith)))
  where
    go : Dec (k ≡ suc n) → (k ≤ n → hits_over columns n ns ≡ hits_over columns k ns)
        → hits_over columns (suc n) ns ≡ hits_over columns k ns
    go (yes e) before = rw e
    go (no e) before = omega (arith, before (omega arith), none n (omega arith) (omega arith))

-- a match that does not reach into a stretch spans no position there
unreached :
    (i g lowest highest x : ℕ) → reaching i g lowest highest ≡ false → lowest ≤ x → x ≤ highest → between i g x ≡ false
unreached i g lowest highest x e l u = go (between i g x) refl
  where
    go : (b : Bool) → between i g x ≡ b → b ≡ false
    go false q = refl
    go true q =
        let bounds = between-bounds i g x q in
        let reached : reaching i g lowest highest ≡ true =
        rw (le-leb i highest (omega (arith, bounds)), le-leb lowest g (omega (arith, bounds)))
        in
        absurd (true≢false (sym reached ∙ e))

module _ {columns : Columns} {xs : List ℕ} {from to : CutSet} {hits most : ℕ} (r : Ready xs from to) where
  pub pass-start : hits ≤ most → Passed columns xs from to hits most xs to hits 0
  pass-start h = record {
    until = omega arith;
    lengths = refl;
    stored = stored-none r.to_good (λ y m. absurd (omega (arith, m.below)));
    counted = omega arith;
    few = h;
  }

  module _ {ys : List ℕ} {set : CutSet} {count k : ℕ} (p : Passed columns xs from to hits most ys set count k) where
    -- ends that were members still are
    pub pass-ends : EndsKnown columns xs to → k < count_of columns → EndsIn ys set (to_at columns k) (to_right_at columns k)
    pass-ends e h = let ends = e k h in (p.stored.stays _ ends.0, p.stored.stays _ ends.1)

    found-same : Same xs ys from.done from.used
    found-same j l u = same-apart xs ys r.apart p.stored.outside j
        (omega (arith, base_done r.from_good)) (omega (arith, used-limit r.from_good))

    pub pass-ready : Ready ys from set
    pass-ready = ready-then r p.stored p.lengths

    pub pass-run : FoundRun xs from → FoundRun ys from
    pass-run up i j l o u = rw (found-same i l (omega arith), found-same j (omega arith) u) (up i j l o u)

    run-list : found_in ys from ≡ found_in xs from
    run-list = slice-same xs ys (used-within r.from_good)
        (omega (arith, p.lengths, used-within r.from_good)) (done-used r.from_good) found-same

    next :
        (y : ℕ)
        → (Images columns k (Found xs from) y
        ⊎ ImageAt columns k (Found ys from) y)
        ↔ Images columns (k + 1) (Found xs from) y
    next y = (
      λ q. ⊎_elim
          (images-to (omega arith))
          (λ m. record {
            index = k;
            below = omega arith;
            x = m.x;
            carried = in-same (λ j l u. sym (found-same j l u)) m.carried;
            image = record { spans = m.spans; is = m.is };
          })
          q,
      λ q. go q (ℕ_discrete q.index k),
    )
      where
        go : {y : ℕ} (q : Images columns (k + 1) (Found xs from) y) → Dec (q.index ≡ k)
            → Images columns k (Found xs from) y
            ⊎ ImageAt columns k (Found ys from) y
        go q (yes e) = inr (record {
          x = q.x;
          carried = in-same found-same q.carried;
          spans = rw e at q.image.spans;
          is = rw e at q.image.is;
        })
        go q (no e) = inl (record {
          index = q.index;
          below = omega (arith, q.below);
          x = q.x;
          carried = q.carried;
          image = q.image;
        })

    one_more :
        hits_over columns (k + 1) (found_in xs from)
        ≡ hits_over columns k (found_in xs from)
        + hits_on (from_at columns k) (from_right_at columns k) (found_in ys from)
    one_more = let e : k + 1 ≡ suc k = omega arith in rw (e, run-list)

    module _ (h : k < count_of columns) where
      pub pass_step :
          {zs : List ℕ} {u : CutSet} {c : ℕ} → length zs ≡ length ys
          → Stored (ImageAt columns k (Found ys from)) ys set zs u
          × (c ≡ count + hits_on (from_at columns k) (from_right_at columns k) (found_in ys from)) × (c ≤ most)
          → Passed columns xs from to hits most zs u c (k + 1)
      pass_step n q = record {
        until = omega arith;
        lengths = n ∙ p.lengths;
        stored = stored_same next (stored-then p.stored q.0);
        counted = omega (arith, p.counted, one_more, q.1);
        few = q.2;
      }

      pass-full :
          {zs : List ℕ} {u : CutSet} → Cramped (ImageAt columns k (Found ys from)) ys set zs u
          → Cramped (Images columns (count_of columns) (Found xs from)) xs to zs u
      pass-full c = cramped-wide (λ y q. images-to (omega arith) ((next y).0 q)) (cramped-then p.stored c)

      pass-excess :
          most < count + hits_on (from_at columns k) (from_right_at columns k) (found_in ys from)
          → most < hits + hits_over columns (count_of columns) (found_in xs from)
      pass-excess m =
          let more : hits_over columns (k + 1) (found_in xs from)
          ≤ hits_over columns (count_of columns) (found_in xs from) =
          hits_more columns (found_in xs from) (k + 1) (count_of columns) (omega arith)
          in
          omega (arith, more, one_more, p.counted)

      pub pass-stop :
          (zs : List ℕ) (stop : Stop)
          → Carrying (ImageAt columns k (Found ys from))
          (hits_on (from_at columns k) (from_right_at columns k) (found_in ys from)) ys set count most zs (Err stop)
          → Working columns (count_of columns) xs from to (found_in xs from) hits most zs (Err stop)
      pass-stop zs (Stop.Full u) c = pass-full c
      pass-stop zs Stop.TooMany m = pass-excess m

    -- matches that span no newly found cut
    skip :
        {n : ℕ} → k ≤ n → n ≤ count_of columns
        → ((j i : ℕ) → k ≤ j → j < n → from.done ≤ i → i < from.used
        → between (from_at columns j) (from_right_at columns j) (get_or xs i 0) ≡ false)
        → Passed columns xs from to hits most ys set count n
    skip {n} a b none = record {
      until = b;
      lengths = p.lengths;
      stored = stored_same (λ y. (images-to a, λ q. fewer q (lt-or-le q.index k))) p.stored;
      counted = omega (arith, p.counted, same);
      few = p.few;
    }
      where
        same :
            hits_over columns n (found_in xs from) ≡ hits_over columns k (found_in xs from)
        same = hits-same columns (found_in xs from) k n a (λ j l u.
            hits-none xs (used-within r.from_good) (done-used r.from_good) (from_at columns j)
            (from_right_at columns j) (λ i l' u'. none j i l u l' u'))

        fewer : {y : ℕ} (q : Images columns n (Found xs from) y) → (q.index < k) ⊎ (k ≤ q.index)
            → Images columns k (Found xs from) y
        fewer q (inl h) =
            record { index = q.index; below = h; x = q.x; carried = q.carried; image = q.image }
        fewer q (inr h) =
            let c = q.carried in
            let past = none q.index c.place h q.below c.from c.below in
            absurd (true≢false (sym (rw (← c.is) at q.image.spans) ∙ past))

    pub pass-over :
        {lowest highest n : ℕ} → Lowest xs from lowest → Highest xs from highest
        → length columns.from_lefts ≡ count_of columns
        → Passable columns.from_lefts columns.from_rights lowest highest k n
        → Passed columns xs from to hits most ys set count n
    pass-over {lowest} {highest} low high e q = skip q.from (omega (arith, q.to)) (λ j i a b l u.
        let m : Found xs from (get_or xs i 0) = record { place = i; from = l; below = u; is = refl } in
        unreached (from_at columns j) (from_right_at columns j) lowest highest (get_or xs i 0) (q.past j a b)
        (low.least (get_or xs i 0) m) (high.greatest (get_or xs i 0) m))

    pub pass-none : NothingFound from → Passed columns xs from to hits most ys set count (count_of columns)
    pass-none e = skip p.until (omega arith) (λ j i a b l u. absurd (omega arith))

    pub pass-end :
        count_of columns ≤ k
        → Stored (Images columns (count_of columns) (Found xs from)) xs to ys set
        × (count ≡ hits + hits_over columns (count_of columns) (found_in xs from)) × (count ≤ most)
    pass-end h =
        let e : k ≡ count_of columns = omega (arith, p.until) in
        (rw e at p.stored, rw e at p.counted, p.few)
