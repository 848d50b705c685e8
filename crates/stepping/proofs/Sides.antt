-- A step as one of the side A or B: one law for both.
--     lane-is              the lanes of the step are those of the side
--     step-able            what holds between two steps is what the step is given
--     step-open            after the step, the other side is next ..
--     step_less            .. with fewer unused places, if some cut is newly found
--     step-done            and nothing is left to be carried, if none is
--     halves-within        the places of both halves are there
--     goes_on              a step that goes on with a step
--     step-not             too many cuts for the step are too many for every table
-- Assumes nothing.
use Prim.Native.Nat.{ℕ, ◌+◌, ◌*◌, ◌≤◌, ◌<◌}
use mathlib.Core.Path.{◌≡◌, refl, subst}
use mathlib.Core.List.{List}
use native.Mathlib.Omega.{arith}
use lib.ListN.{length}
use Rattle.refinement.specs.declared.Side.{Side}
use Rattle.refinement.specs.declared.Side.TheVariants.{A, B}
use Rattle.refinement.specs.Match.{Place, other}
use Rattle.cut_set.specs.Store.{NothingFound}
use Rattle.refining.specs.Columns.{Columns, seen_from, count_of}
use Rattle.refining.specs.Demands.{EveryExceeds}
use Rattle.shelf.specs.Shelf.{set_at, Shelf}
use Rattle.tracks.specs.Tracks.{Tracked, given_in, Kind, over, along, Lane, lane}
use Rattle.tracks.specs.Engine.{FitTracks, half_from, half_to, Open, unused, Taken}
use Rattle.tracks.specs.Groups.{Groups, side_at, grouped}
use Rattle.tracks.proofs.Stepping.{found-exceeds, jammed-too-many, taken-open, taken-less}
use Rattle.tracks.proofs.Settled.{settled-all}
use Rattle.shelving.specs.AllSets.{SomeFound}
use Rattle.std.specs.declared.result.Result.{Result}
use Rattle.std.specs.declared.result.Result.TheVariants.{Ok, Err}
use Rattle.carrying_group.specs.declared.TooMany.{TooMany}
use Rattle.carrying_lane.specs.Parts.{OneOfTwo}
use Rattle.taking.specs.Taking.{lane_to, Halves, before, behind, Able, Stepped, BothNot, excess, jammed}
use Rattle.stepping.specs.Steps.{AllCuts}
use Rattle.stepping.specs.Steps.{Going}
use Rattle.stepping.specs.declared.Closing.{Closing}

pub lane-is :
    (c : Columns) (gs : List ℕ) (g : ℕ) (marks : List Place) (s : Side) (w : Kind)
    → lane_to w (seen_from s c) gs g (side_at s) (side_at (other s)) ≡ lane w (grouped c gs g marks) s
lane-is c gs g marks A over = refl
lane-is c gs g marks A along = refl
lane-is c gs g marks B over = refl
lane-is c gs g marks B along = refl

-- what holds of a side and of the other holds of both
both : (P : Side → Type 0) (s : Side) → P s → P (other s) → (u : Side) → P u
both P A p q A = p
both P A p q B = q
both P B p q A = q
both P B p q B = p

one_of : (s : Side) → OneOfTwo (side_at s)
one_of A = record { from = omega arith; to = omega arith }
one_of B = record { from = omega arith; to = omega arith }

halves_of : (cap : ℕ) (s : Side) → Halves (half_from s cap) (half_to s cap) (half_from (other s) cap) (half_to (other s) cap)
halves_of cap A = before (omega arith)
halves_of cap B = behind (omega arith)

module _ {c : Columns} {gs : List ℕ} {g n cap : ℕ} {marks : List Place} {xs : List ℕ} {books : Side → List ℕ}
    {hits : Kind → Side → ℕ}
    {s : Side}
    (groups : Groups gs g (count_of c) n)
    (o : Open (grouped c gs g marks) n cap xs books hits s)
  where
    pub step-able :
        Able gs g (count_of c) n (side_at s) (side_at (other s)) (half_from s cap) (half_to s cap) (half_from (other s) cap)
        (half_to (other s) cap) xs (books s) (books (other s)) (hits over s) (hits along s) (cap + count_of c)
    step-able = record {
      groups = groups;
      from_one = one_of s;
      to_one = one_of (other s);
      from_shelf = o.shelf s;
      gathered = record { each = o.gathered s };
      shelf = o.shelf (other s);
      halves = halves_of cap s;
      few_over = o.few over s;
      few_along = o.few along s;
    }

    module _ (ft : FitTracks (grouped c gs g marks) n) where
      abbrev t : Tracked
      t = grouped c gs g marks

      abbrev lanes : Kind → Lane
      lanes w = lane_to w (seen_from s c) gs g (side_at s) (side_at (other s))

      same-lanes : lanes ≡ (λ w. lane w t s)
      same-lanes i w = lane-is c gs g marks s w i

      pub step-not :
          BothNot lanes (count_of c) (books s) n (half_from (other s) cap) (half_to (other s) cap) xs (books (other s))
          (λ w. hits w s) (cap + count_of c)
          → EveryExceeds (given_in t) cap
      step-not h =
          go (subst (λ (l : Kind → Lane).
          BothNot l (count_of c) (books s) n (half_from (other s) cap) (half_to (other s) cap) xs (books (other s))
          (λ w. hits w s) (cap + count_of c)) same-lanes h)
        where
          go :
              BothNot (λ w. lane w t s) (count_of c) (books s) n (half_from (other s) cap) (half_to (other s) cap) xs
              (books (other s)) (λ w. hits w s) (cap + count_of c)
              → EveryExceeds (given_in t) cap
          go (excess w h) = found-exceeds ft o w h
          go (jammed j) = jammed-too-many ft o j

      module _ {ys : List ℕ} (books' : Side → List ℕ) (hits' : Kind → Side → ℕ)
          (k :
          Stepped lanes (count_of c) n (half_from s cap) (half_to s cap) (half_from (other s) cap) (half_to (other s) cap) xs
          (books s) (books (other s)) (λ w. hits w s) (cap + count_of c) ys (books' s) (books' (other s)) (λ w. hits' w s))
          (others : (w : Kind) → hits' w (other s) ≡ hits w (other s))
        where
          step :
              Stepped (λ w. lane w t s) (count_of c) n (half_from s cap) (half_to s cap) (half_from (other s) cap)
              (half_to (other s) cap) xs (books s) (books (other s)) (λ w. hits w s) (cap + count_of c) ys (books' s)
              (books' (other s)) (λ w. hits' w s)
          step =
              subst (λ (l : Kind → Lane).
              Stepped l (count_of c) n (half_from s cap) (half_to s cap) (half_from (other s) cap) (half_to (other s) cap) xs
              (books s) (books (other s)) (λ w. hits w s) (cap + count_of c) ys (books' s) (books' (other s))
              (λ w. hits' w s)) same-lanes k

          taken : Taken t n cap xs books hits s ys books' hits'
          taken = record {
            shelf = both (λ u. Shelf ys (books' u) n (half_from u cap) (half_to u cap)) s step.from_shelf step.shelf;
            members = step.members;
            all = step.all;
            filled_same = step.filled_same;
            grown = step.grown;
            ready = step.ready;
            counted = step.counted;
            counted_other = others;
            few = step.few;
          }

          pub step-open : Open t n cap ys books' hits' (other s)
          step-open = taken-open ft o taken

          pub step_less : SomeFound (books' (other s)) n → unused books' n cap < unused books n cap
          step_less f = taken-less ft o taken f.set f.within f.found

          pub step-done : ((j : ℕ) → j < n → NothingFound (set_at (books' (other s)) j)) → AllCuts t n cap ys books'
          step-done none =
              let all = settled-all ft step-open
              (both (λ u. (j : ℕ) → j < n → NothingFound (set_at (books' u) j)) s step.all none) in
              record {
                shelf = λ u. (half_from u cap, half_to u cap, step-open.shelf u);
                cuts = all.1;
                fits = all.0;
              }

-- the places of both halves are there
pub halves-within :
    {t : Tracked} {n cap : ℕ} {xs : List ℕ} {books : Side → List ℕ} {hits : Kind → Side → ℕ} {s : Side}
    → Open t n cap xs books hits s → 4 * cap ≤ length xs
halves-within o = (o.shelf B).within

-- a step that goes on with a step
pub goes_on :
    (c : Columns) (gs : List ℕ) (g n cap : ℕ) (marks : List Place) (free free' : ℕ) (ys a b : List ℕ) → free < free'
    → (answer : Result Closing TooMany) → Going c gs g marks n cap free ys a b answer → Going c gs g marks n cap free' ys a b answer
goes_on c gs g n cap marks free free' ys a b l (Ok Closing.Done) h = h
goes_on c gs g n cap marks free free' ys a b l (Ok (Closing.MoreA k)) h = (h.0, omega (arith, h.1))
goes_on c gs g n cap marks free free' ys a b l (Ok (Closing.MoreB k)) h = (h.0, omega (arith, h.1))
goes_on c gs g n cap marks free free' ys a b l (Err none) h = h
