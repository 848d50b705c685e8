-- A set before and after numbers were stored in it.
--     finished-member, found-member    the finished and the newly found are members
--     apart_parts          no number is both
--     grown-member         what is a member of a grown set was one or has come
-- Assumes nothing.
use Prim.Native.Nat.{ℕ}
use mathlib.Core.Path.{sym, ◌∙◌}
use mathlib.Core.Logic.{◌⊎◌, inl, inr, ⊎_elim}
use mathlib.Core.List.{List}
use native.Mathlib.Omega.{arith}
use Rattle.runs.proofs.Membership.{in-wide, in_parts}
use Rattle.cut_set.specs.Store.{Good, Member, Finished, Found, NothingAdded}
use Rattle.cut_set.specs.declared.CutSet.{CutSet}
use Rattle.cut_set.proofs.Gathering.{base_done, done-fresh}
use Rattle.cut_set.proofs.Laws.{done-used}
use Rattle.shelf.specs.Shelf.{Grown}

module _ {xs : List ℕ} {s : CutSet} (g : Good xs s) where
  pub finished-member : {y : ℕ} → Finished xs s y → Member xs s y
  finished-member p = in-wide (omega arith) (done-used g) p

  pub found-member : {y : ℕ} → Found xs s y → Member xs s y
  found-member p = in-wide (base_done g) (omega arith) p

  pub apart_parts : {y : ℕ} → NothingAdded s → Finished xs s y → Found xs s y → ⊥
  apart_parts n p q =
      let e =
      g.distinct p.place q.place p.from (omega (arith, p.below, done-fresh g))
      (omega (arith, q.from, base_done g)) (omega (arith, n, q.below)) (p.is ∙ sym q.is)
      in
      omega (arith, e, p.below, q.from)

  pub grown-member : {P : ℕ → Type 0} {ys : List ℕ} {t : CutSet} {y : ℕ} → Grown P xs s ys t → Member ys t y
      → Member xs s y ⊎ P y
  grown-member {t = t} {y = y} p m = ⊎_elim
      (λ q. inl (finished-member ((p.finished y).0 q)))
      (λ q. ⊎_elim (λ f. inl (found-member f)) inr (p.only y q))
      (in_parts t.done m)
