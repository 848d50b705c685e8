-- The cuts that a match spans, in a rising run that has both its ends: they follow each other, from the lower bound of
-- one end to the lower bound of the other.
--     cutting           the numbers from one bound to the other rise from end to end ..
--     within-bounds     .. and are those of the run that the match spans
--     stretch           two neighbours among them are the ends of a stretch of the match
-- Assumes nothing.
use Prim.Native.Nat.{ℕ, zero, suc, ◌+◌, ◌-◌, ◌≤◌, ◌<◌}
use mathlib.Core.Path.{◌≡◌, sym, ap, ◌∙◌}
use mathlib.Core.Bool.{cond}
use mathlib.Core.List.{List, [], ◌∷◌}
use native.Mathlib.Decide.{dec_le, dec_lt}
use native.Mathlib.Omega.{arith}
use lib.ListN.{get_or, take, length-take, drop_of_length-le}
use lib.Seq.{slice, slice-cons}
use borrow.Author.Tests.{le-leb, lt-leb}
use Rattle.refinement.proofs.Geometry.{between-below, between-from}
use Rattle.runs.specs.Runs.{In, Run, Bound}
use Rattle.refining.specs.Rows.{within}
use Rattle.writing_rows.specs.Writing.{Stretch, Cutting}

module _ (i g : ℕ) {x : ℕ} (xs : List ℕ) where
  within_on : i ≤ x → x ≤ g → within i g (x ∷ xs) ≡ x ∷ within i g xs
  within_on l h =
      ap (λ t. cond t (x ∷ within i g xs) (within i g xs)) (sym (between-from i g x l) ∙ le-leb x g h)

  within-below : x < i → within i g (x ∷ xs) ≡ within i g xs
  within-below l = ap (λ t. cond t (x ∷ within i g xs) (within i g xs)) (sym (between-below i g x l))

  within-above : i ≤ x → g < x → within i g (x ∷ xs) ≡ within i g xs
  within-above o l =
      ap (λ t. cond t (x ∷ within i g xs) (within i g xs))
      (sym (between-from i g x o) ∙ lt-leb x g l)

slice-past : (from to : ℕ) (xs : List ℕ) → to ≤ from → slice from to xs ≡ []
slice-past from to xs h = drop_of_length-le (take to xs) {i = from} (simp length-take (omega arith))

-- the lower bound of a member is its place
bound_at :
    {xs : List ℕ} {lo hi x r : ℕ} → Run xs lo hi → In xs lo hi x → Bound xs lo hi x r → (r < hi) × (get_or xs r 0 ≡ x)
bound_at {xs} {lo} {hi} {x} {r} run member bound =
    elim (dec_lt member.place r) [
      | yes l ↦ absurd (omega (arith, bound.less member.place member.from l, member.is))
      | no n ↦ elim (dec_lt r member.place) [
        | yes l ↦ absurd
            (omega (
              arith,
              run.rising r member.place bound.from l member.below,
              bound.least r (omega arith) (omega arith),
              member.is,
            ))
        | no m ↦ let same : member.place ≡ r = omega arith in (omega (arith, member.below), rw same at member.is)
      ]
    ]

module _ {work : List ℕ} {lo hi i g first last : ℕ} (ends : i ≤ g) (run : Run work lo hi) (left : In work lo hi i)
    (right : In work lo hi g) (left-bound : Bound work lo hi i first) (right-bound : Bound work lo hi g last) where
  pub cutting : Cutting work first last i g
  cutting =
      let at_left = bound_at run left left-bound in
      let at_right = bound_at run right right-bound in
      let order : first ≤ last = elim (dec_le first last)
      [ yes l ↦ l | no n ↦ absurd (omega (arith, left-bound.less last right-bound.from (omega arith))) ]
      in
      record {
        order = order;
        run = record {
          order = omega arith;
          within = omega (arith, run.within);
          rising = λ p q l n h. run.rising p q (omega (arith, left-bound.from)) n (omega arith);
        };
        left_at = at_left.1;
        right_at = at_right.1;
      }

  within-until : (n p : ℕ) → p + n ≡ hi → first ≤ p → within i g (slice p hi work) ≡ slice p (suc last) work
  within-until zero p q l =
      ap (within i g) (slice-past p hi work (omega arith))
      ∙ sym (slice-past p (suc last) work (omega (arith, (bound_at run right right-bound).0)))
  within-until (suc n) p q l =
      let at_right = bound_at run right right-bound in
      let least = left-bound.least p l (omega arith) in
      let rest = slice (suc p) hi work in
      let later = within-until n (suc p) (omega arith) (omega arith) in
      ap (within i g) (slice-cons p hi work 0 (omega arith) run.within)
      ∙ elim (dec_lt last p) [
        | yes h ↦
            within-above i g rest least
            (omega (arith, at_right.1, run.rising last p right-bound.from h (omega arith)))
            ∙ later ∙ slice-past (suc p) (suc last) work (omega arith) ∙ sym (slice-past p (suc last) work h)
        | no h ↦
            within_on i g rest least (elim (dec_lt p last) [
              | yes n ↦ omega (arith, right-bound.less p (omega (arith, left-bound.from)) n)
              | no n ↦ let same : p ≡ last = omega arith in rw same (omega (arith, at_right.1))
            ])
            ∙ ap (λ zs. get_or work p 0 ∷ zs) later
            ∙ sym (slice-cons p (suc last) work 0 (omega arith) (omega (arith, run.within, at_right.0)))
      ]

  within-since : (n p : ℕ) → p + n ≡ first → lo ≤ p → within i g (slice p hi work) ≡ within i g (slice first hi work)
  within-since zero p q l = let same : p ≡ first = omega arith in rw same
  within-since (suc n) p q l =
      ap (within i g) (slice-cons p hi work 0 (omega (arith, left-bound.to)) run.within)
      ∙ within-below i g (slice (suc p) hi work) (left-bound.less p l (omega arith))
      ∙ within-since n (suc p) (omega arith) (omega arith)

  pub within-bounds : within i g (slice lo hi work) ≡ slice first (suc last) work
  within-bounds =
      within-since (first - lo) lo (omega (arith, left-bound.from)) (omega arith)
      ∙ within-until (hi - first) first (omega (arith, left-bound.to)) (omega arith)

pub stretch :
    {work : List ℕ} {first last i g : ℕ} (k l at : ℕ) → Cutting work first last i g → k + (g - i) ≤ l → first ≤ at
    → at < last → Stretch i k l (get_or work at 0) (get_or work (at + 1) 0)
stretch {work} {first} {last} {i} {g} k l at cuts facing from to =
    record {
      from = from_left;
      some = cuts.run.rising at (at + 1) from (omega arith) (omega arith);
      to = omega (arith, to_right);
    }
  where
    from_left : i ≤ get_or work at 0
    from_left = elim (dec_lt first at) [
      | yes l ↦ omega (arith, cuts.run.rising first at (omega arith) l (omega arith), cuts.left_at)
      | no n ↦
          let same : first ≡ at = omega arith in
          let e : get_or work at 0 ≡ i = rw same at cuts.left_at in omega arith
    ]

    to_right : get_or work (at + 1) 0 ≤ g
    to_right = elim (dec_lt (at + 1) last) [
      | yes l ↦ omega (arith, cuts.run.rising (at + 1) last (omega arith) l (omega arith), cuts.right_at)
      | no n ↦ let same : at + 1 ≡ last = omega arith in rw same (omega (arith, cuts.right_at))
    ]
