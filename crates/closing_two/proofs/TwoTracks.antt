-- The matches of columns as matches between two tracks, and the cuts of A.
--     same-matches         they are the matches of the theory's first edition
--     ∈-matches, matches-good     a match of the columns is the one at an index; all are lettered and numbered in order
--     lent-groups          the one group, as it is lent
--     lent-crowded, lent-cuts     what the closure of the two tracks tells of the first edition's, by its answer
-- Assumes nothing.
use Prim.Native.Nat.{ℕ, suc, ◌≤◌, ◌<◌}
use mathlib.Core.Path.{◌≡◌, refl, sym, ap, subst, ◌∙◌}
use mathlib.Core.Logic.{◌↔◌}
use mathlib.Core.Bool.{Bool, true, false}
use mathlib.Core.List.{List, [], map}
use Rattle.std.specs.declared.result.Result.{Result}
use Rattle.std.specs.declared.result.Result.TheVariants.{Ok, Err}
use native.Mathlib.Omega.{arith}
use lib.ListN.{length}
use lib.Dec.{ltb}
use borrow.Author.Tests.{ltb-true}
use Rattle.refinement.specs.declared.Side.{Side}
use Rattle.refinement.specs.declared.Side.TheVariants.{A, B}
use Rattle.refinement.specs.Order.{◌∈◌}
use Rattle.refinement.specs.Match.{Match, track, Place, Spans}
use Rattle.refinement.specs.Cut.{Cut}
use Rattle.refinement.specs.Refinement.{Matches}
use Rattle.refinement.proofs.Closure.{cut-on-match}
use Rattle.cut_set.specs.declared.CutSet.{CutSet}
use Rattle.refining.specs.Columns.{Columns, count_of, from_at, to_at, letters_at, way_at, Fit, up_from, match_at, matches_of}
use Rattle.refining.specs.Refining.{Given, held_in, least_of}
use Rattle.refining.specs.Demands.{EveryExceeds}
use Rattle.shelf.specs.Shelf.{set_at}
use Rattle.tracks.specs.Tracks.{match_in, matches_in, given_in, SideCut}
use Rattle.tracks.specs.Groups.{track_at, tracks_of, Groups, grouped}
use Rattle.tracks.specs.Engine.{books_of}
use Rattle.tracks.proofs.Indexed as tracked
use Rattle.carrying_group.specs.declared.TooMany.{TooMany}
use Rattle.stepping.specs.Steps.{AllCuts}
use Rattle.driving.specs.Driving.{Closure}
use Rattle.closing_two.specs.FirstEdition.{at, CutOn, two_groups, two, AllCutsOfA}

none_below : (k : ℕ) → ltb k 0 ≡ false
none_below k = go (ltb k 0) refl
  where
    go : (b : Bool) → ltb k 0 ≡ b → ltb k 0 ≡ false
    go true e = absurd (omega (arith, ltb-true k 0 e))
    go false e = e

-- all matches are of the one group
one-group : (count at k : ℕ) → tracks_of (two_groups count) 1 at k ≡ track_at (two_groups count) at 0
one-group count at k = rw (none_below k) refl

same-match : (c : Columns) (marks : List Place) → match_in (two c marks) ≡ match_at c
same-match c marks = λ i k. record {
  number = suc k;
  track_a = one-group (count_of c) 1 k i;
  left_a = from_at c k;
  track_b = one-group (count_of c) 2 k i;
  left_b = to_at c k;
  length = letters_at c k;
  reversed = way_at c k;
}

pub same-matches : (c : Columns) (marks : List Place) → matches_in (two c marks) ≡ matches_of c
unfolding matches_in matches_of
same-matches c marks = ap (λ (f : ℕ → Match). map f (up_from 0 (count_of c))) (same-match c marks)

pub ∈-matches : (c : Columns) {k : ℕ} → k < count_of c → match_at c k ∈ matches_of c
∈-matches c {k} l =
    subst (λ (ms : List Match). match_at c k ∈ ms) (same-matches c [])
    (subst (λ (f : ℕ → Match). f k ∈ matches_in (two c [])) (same-match c []) (tracked.∈-matches (two c []) l))

pub matches-good : (c : Columns) → Fit c → Matches (matches_of c)
matches-good c fit = subst Matches (same-matches c []) (tracked.matches-good (two c []) fit)

-- the one group
two-groups : (count : ℕ) → Groups (two_groups count) 1 count 2
two-groups count = record {
  room = omega arith;
  first = refl;
  last = refl;
  rising = λ g l. let e : g ≡ 0 = omega arith in rw e (omega arith);
  on_a = λ g l. let e : g ≡ 0 = omega arith in rw e (omega arith);
  on_b = λ g l. let e : g ≡ 0 = omega arith in rw e (omega arith);
}

-- the one group, as it is lent
pub lent-groups : {gs : List ℕ} {count : ℕ} → gs ≡ two_groups count → Groups gs 1 count 2
lent-groups {count = count} e = rw e (two-groups count)

module _ (c : Columns) (marks : List Place) where
  -- what is refined is the same
  same-given : given_in (two c marks) ≡ held_in c marks
  same-given = λ i. record { matches = same-matches c marks i; marks = marks }

  -- a cut of the track 0 lies on the side A of some match
  side_cut : (x : ℕ) → CutOn (held_in c marks) A x ↔ SideCut (two c marks) A (at A x)
  side_cut x = (
    λ k.
        let cut = subst (λ (ms : List Match). Cut ms marks (at A x)) (sym (same-matches c marks)) k in
        on_a cut (cut-on-match cut),
    λ s. subst (λ (ms : List Match). Cut ms marks (at A x)) (same-matches c marks) s.cut,
  )
    where
      on_a :
          Cut (matches_in (two c marks)) marks (at A x)
          → (m : Match) × (m ∈ matches_in (two c marks)) × (s : Side) × ((at A x).track ≡ track m s) × Spans m s x
          → SideCut (two c marks) A (at A x)
      on_a cut (m, i, A, e, t) =
          let v = tracked.matches-∈ (two c marks) i in record {
            cut = cut;
            index = v.0;
            on = record {
              below = v.1;
              track_is = one-group (count_of c) 1 v.0;
              spans = subst (λ (z : Match). Spans z A x) (sym v.2) t;
            };
          }
      on_a cut (m, i, B, e, t) =
          let v = tracked.matches-∈ (two c marks) i in
          let same = ap (λ (z : Match). track z B) (sym v.2) in
          let other-track : track m B ≡ 1 = same ∙ one-group (count_of c) 2 v.0 in
          absurd (omega (arith, e, other-track))

  -- all cuts of the side A of two tracks are those of A
  two-cuts : {cap : ℕ} {ys : List ℕ} {books : Side → List ℕ} → AllCuts (two c marks) 2 cap ys books
      → AllCutsOfA (held_in c marks) cap ys (set_at (books A) 0)
  two-cuts {cap} {ys} {books} k = record {
    good = (k.shelf A).2.good 0 (omega arith);
    cuts = λ x. (
      λ m. (side_cut x).1 ((k.cuts A (at A x)).0 (record { set = omega arith; member = m })),
      λ u. ((k.cuts A (at A x)).1 ((side_cut x).0 u)).member,
    );
    fits = subst (λ (g : Given). length (least_of g) ≤ cap) same-given k.fits;
  }

  -- what the closure ensures of the one group, as it is lent
  module _ (cap : ℕ) (ys a b : List ℕ) {gs : List ℕ} (one : gs ≡ two_groups (count_of c)) {answer : Result (Unit {0}) TooMany}
      (closed : Closure (grouped c gs 1 marks) 2 cap ys (books_of a b) answer) where
    lent-closed : {told : Result (Unit {0}) TooMany} → answer ≡ told → Closure (two c marks) 2 cap ys (books_of a b) told
    lent-closed e = rw (one, e) at closed

    pub lent-crowded : {none : TooMany} → answer ≡ Err none → EveryExceeds (held_in c marks) cap
    lent-crowded e = subst (λ (g : Given). EveryExceeds g cap) same-given (lent-closed e)

    pub lent-cuts : {s : CutSet} {done : Unit {0}} → answer ≡ Ok done → s ≡ set_at a 0 → AllCutsOfA (held_in c marks) cap ys s
    lent-cuts e is = rw is (two-cuts (lent-closed e))
