-- The rows of the least table of an admitted script are as chains want them.
--     least-apart     each has a letter, its ends fit 32 bits, and two rows are on a side the same stretch or share no
--                     letter
-- The table is resolved: were a row's left end strictly inside another row, a cut would be. Assumes nothing.
use Prim.Native.Nat.{ℕ, ◌^◌, ◌≤◌, ◌<◌}
use mathlib.Core.Path.{◌≡◌, sym, subst, ◌∙◌}
use mathlib.Core.List.{List}
use native.Mathlib.Omega.{arith}
use Rattle.refinement.specs.declared.Side.{Side}
use Rattle.refinement.specs.declared.Side.TheVariants.{A, B}
use Rattle.refinement.specs.Order.{◌∈◌}
use Rattle.refinement.specs.Match.{Match, track, left, right}
use Rattle.refinement.specs.Cut.{End, left_end}
use Rattle.refinement.specs.Refinement.{ResolvedRefinement}
use Rattle.refinement.proofs.Theorem.{table_resolved}
use Rattle.refining.specs.Refining.{Given, least_of}
use Rattle.refining.specs.Demands.{Admitted}
use Rattle.refining.proofs.Numbered.{admitted-matches, admitted-fits}
use Rattle.refining.proofs.Standing.{BetweenAB, rows-ab}
use Rattle.backbone.specs.Chaining.{least_rows}
use Rattle.backbone.proofs.LeastRows.{least-row, least-lettered}
use Rattle.best_chains.specs.Best.{Apart}

same_track : (s : Side) {r r' : Match} → BetweenAB r → BetweenAB r' → track r s ≡ track r' s
same_track A b b' = b.on_a ∙ sym b'.on_a
same_track B b b' = b.on_b ∙ sym b'.on_b

module _ {script : List ℕ} {g : Given} (a : Admitted script g) where
  resolved : ResolvedRefinement g.matches g.marks (least_of g)
  resolved = table_resolved g.matches g.marks (admitted-matches a)

  piece-fits : {r : Match} → r ∈ least_of g → (s : Side) → right r s < 2 ^ 32
  piece-fits {r} i s =
      let p = resolved.refines.pieces r i in
      omega (arith, p.2.ends_within s, admitted-fits a p.1 s)

  pieces-apart : {r r' : Match} → r ∈ least_of g → r' ∈ least_of g → (s : Side) → left r s < left r' s
      → right r s ≤ left r' s
  pieces-apart {r} {r'} i j s behind =
      let between = rows-ab a resolved.refines in
      let same = same_track s (between r' j) (between r i) in
      let end : End r' (record { track = track r s; position = left r' s }) =
      subst (λ (t : ℕ). End r' (record { track = t; position = left r' s })) same (left_end s) in
      let outside : ¬ (left r' s < right r s) =
      λ h. resolved.resolved.uncut r i s (left r' s) (r', j, end) (record { past_left = behind; before_right = h }) in
      omega arith

  pub least-apart : Apart (least_rows g)
  least-apart =
      record {
        lettered = least-lettered g (admitted-matches a);
        fits = λ s i below. let r = least-row g i below in rw r.is (piece-fits r.among s);
        disjoint = λ s i j below below'.
            let r = least-row g i below in
            let r' = least-row g j below' in
            rw (r.is, r'.is) (pieces-apart r.among r'.among s);
      }
