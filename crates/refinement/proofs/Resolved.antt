-- Any resolved refinement, whoever made it, its rows in any order, has every cut of the least set: the row that a cut
-- lies on must end at it, and then ends at what the match carries it to.
--     end-at           a left or right end on a side is an end
--     end-where        an end is a left or a right end on a side
--     cut_of           an end of a row is a cut on its match's track
--     uncut-piece      no cut lies strictly inside a row
--     row_ends         where a match is cut on a side, a row of it ends on that side
--     has-cut          every Cut is a cut of the refinement
--     row-starts       where a match is cut before a letter, a row of it starts
--     unmarked         a resolved refinement with marks is one without
-- Assumes nothing.
use Prim.Native.Nat.{ℕ, ◌<◌}
use mathlib.Core.Path.{◌≡◌, refl, sym, subst}
use mathlib.Core.Logic.{◌⊎◌, inl, inr}
use mathlib.Core.List.Memᴰ
use mathlib.Core.List.{List, []}
use native.Mathlib.Omega.{arith}
use Rattle.refinement.specs.declared.Side.{Side}
use Rattle.refinement.specs.Order.{◌∈◌}
use Rattle.refinement.specs.Match.{Match, other, track, left, right, Place, place, Spans, carry}
use Rattle.refinement.specs.Cut.{End, left_end, right_end, Cut, end, mark, carried}
use Rattle.refinement.specs.Refinement.{Matches, Piece, Holds, CutOf, Inside, ResolvedRefinement}
use Rattle.refinement.proofs.Geometry.{left-spanned, right-spanned, end-or-inside, piece-end}
use Rattle.refinement.proofs.Tiling.{cover, cover-letter}

pub end-at : (r : Match) (s : Side) (h : ℕ) → (h ≡ left r s) ⊎ (h ≡ right r s) → End r (place r s h)
end-at r s h (inl e) = rw e (left_end s)
end-at r s h (inr e) = rw e (right_end s)

pub end-where :
    {r : Match} {p : Place} → End r p
    → (s : Side) × (track r s ≡ p.track) × ((p.position ≡ left r s) ⊎ (p.position ≡ right r s))
end-where (left_end s) = (s, refl, inl refl)
end-where (right_end s) = (s, refl, inr refl)

pub cut_of :
    {rs : List Match} {m r : Match} → r ∈ rs → Piece m r → (s : Side) (h : ℕ) → (h ≡ left r s) ⊎ (h ≡ right r s)
    → CutOf rs (place m s h)
cut_of {rs} {m} {r} j p s h e =
    (r, j, subst (λ (t : ℕ). End r (record { track = t; position = h })) (p.same_track s) (end-at r s h e))

module _ {ms rs : List Match} {marks : List Place} (M : Matches ms) (R : ResolvedRefinement ms marks rs) where
  pub uncut-piece : {m r : Match} → r ∈ rs → Piece m r → (s : Side) (h : ℕ) → CutOf rs (place m s h) → ¬ Inside r s h
  uncut-piece {m} {r} j p s h c =
      R.resolved.uncut r j s h
      (subst (λ (t : ℕ). CutOf rs (record { track = t; position = h })) (sym (p.same_track s)) c)

  pub row_ends :
      {m : Match} → m ∈ ms → (s : Side) (h : ℕ) → Spans m s h → CutOf rs (place m s h)
      → (r : Match) × (r ∈ rs) × Piece m r × ((h ≡ left r s) ⊎ (h ≡ right r s))
  row_ends i s h t c =
      let v = cover M R.refines i s h t in
      (v.0, v.1, v.2, end-or-inside v.0 s h v.3 (uncut-piece v.1 v.2 s h c))

  match-end : {m : Match} {p : Place} → m ∈ ms → End m p → CutOf rs p
  match-end {m} i (left_end s) =
      let v = cover M R.refines i s (left m s) (left-spanned m s) in
      cut_of v.1 v.2 s (left m s) (inl (omega (arith, v.3.from_left, v.2.starts_within s)))
  match-end {m} i (right_end s) =
      let v = cover M R.refines i s (right m s) (right-spanned m s) in
      cut_of v.1 v.2 s (right m s) (inr (omega (arith, v.3.to_right, v.2.ends_within s)))

  pub has-cut : {p : Place} → Cut ms marks p → CutOf rs p
  has-cut (end i e) = match-end i e
  has-cut (mark {m = m} {s = s} {h = h} i k t) = R.resolved.marked m i s h k t
  has-cut (carried {m = m} {s = s} {h = h} i t c) =
      let v = row_ends i s h t (has-cut c) in
      cut_of v.1 v.2 (other s) (carry m s h) (piece-end v.2 s h t v.3)

  pub row-starts :
      {m : Match} → m ∈ ms → (s : Side) (x : ℕ) → Holds m s x → CutOf rs (place m s x)
      → (r : Match) × (r ∈ rs) × Piece m r × (left r s ≡ x)
  row-starts i s x h c =
      let v = cover-letter M R.refines i s x h in
      let n : ¬ (left v.0 s < x) = λ l. uncut-piece v.1 v.2 s x c (omega (arith, v.3)) in
      (v.0, v.1, v.2, omega (arith, v.3))

-- Marks only ask for more: what holds of every resolved refinement without marks holds of every one with them.
pub unmarked : {ms rs : List Match} {marks : List Place} → ResolvedRefinement ms marks rs → ResolvedRefinement ms [] rs
unmarked R = record {
  refines = R.refines;
  resolved = record {
    uncut = R.resolved.uncut;
    marked = λ m i s h k t. absurd (Memᴰ.not-nil k);
  };
}
