-- 01's resolved refinements are those of the source document: its Definitions 1 and 2 together say the same of a list
-- of rows as ResolvedRefinement without marks. The source lets submatches overlap; in a resolved set only equal ones
-- could, and in a set no two are equal.
--     paper-agrees     without marks the two agree
--     paper-holds      so a resolved refinement, with marks or without, is one of the source's
-- Assumes nothing.
use Prim.Native.Nat.{ℕ, suc, ◌-◌, ◌≤◌, ◌<◌}
use mathlib.Core.Path.{◌≡◌, refl, sym, ap, subst, ◌∙◌}
use mathlib.Core.Bool.{Bool, true, false}
use mathlib.Core.Logic.{◌↔◌, ◌⊎◌, inl, inr, ⊎_elim, ◌≢◌}
use mathlib.Core.List.Memᴰ
use mathlib.Core.List.{List, []}
use native.Mathlib.Omega.{arith}
use Rattle.refinement.specs.declared.Side.{Side}
use Rattle.refinement.specs.declared.Side.TheVariants.{A, B}
use Rattle.refinement.specs.Order.{◌∈◌, Distinct}
use Rattle.refinement.specs.Match.{Match, other, track, left, right, Place, place, carry}
use Rattle.refinement.specs.Cut.{End}
use Rattle.refinement.specs.Refinement.{Matches, facing_left, facing_right, Piece, Holds, rows_over}
use Rattle.refinement.specs.Refinement.{CutOf, Inside, ResolvedRefinement}
use Rattle.refinement.specs.Paper.{Support, Submatch, Definition1, Definition2}
use Rattle.refinement.proofs.Lists.{rising-weaken}
use Rattle.refinement.proofs.Geometry.{end-spanned, end-or-inside, carry-meets, carry_back, meets-end}
use Rattle.refinement.proofs.Tiling.{number-unique, own-piece, cover-letter, Overlap, exactly-one, rows_apart}
use Rattle.refinement.proofs.Resolved.{end-at, end-where, unmarked}
use Rattle.refinement.proofs.Minimal.{piece-unique}

-- Supports are cuts.
support-cut : {rs : List Match} {p : Place} → Support rs p.track p.position → CutOf rs p
support-cut {rs} {p} (S, i, s, e, h) =
    (S, i, subst (λ (t : ℕ). End S (record { track = t; position = p.position })) e (end-at S s p.position h))

cut-support : {rs : List Match} {p : Place} → CutOf rs p → Support rs p.track p.position
cut-support c = let w = end-where c.2 in (c.0, c.1, w.0, w.1, w.2)

-- Submatches are pieces.
facing-on :
    (b : Bool) (r : Match)
    → (left r B ≤ facing_left b r) × (facing_left b r ≤ right r B) × (left r B ≤ facing_right b r)
    × (facing_right b r ≤ right r B)
facing-on false r = omega arith
facing-on true r = omega arith

submatch-piece : {S S' : Match} → Submatch S S' → Piece S S'
submatch-piece {S} {S'} u =
    let on = facing-on S'.reversed S' in
    let l = u.starts B in
    let k = u.stops B in
    record {
      same_number = u.part;
      same_track = u.tracks;
      same_direction = u.restriction;
      lettered = omega (arith, u.segment A);
      starts_within = u.starts;
      ends_within = u.stops;
      left_carries =
          ⊎_elim (λ e. e) (λ e. ap (carry S A) (sym e) ∙ carry_back S B (facing_left S'.reversed S') (omega arith))
          u.first;
      right_carries =
          ⊎_elim (λ e. e) (λ e. ap (carry S A) (sym e) ∙ carry_back S B (facing_right S'.reversed S') (omega arith))
          u.second;
    }

piece-submatch : {m r : Match} → Piece m r → Submatch m r
piece-submatch p = record {
  part = p.same_number;
  tracks = p.same_track;
  restriction = p.same_direction;
  starts = p.starts_within;
  segment = λ s. omega (arith, p.lettered);
  stops = p.ends_within;
  first = inl p.left_carries;
  second = inl p.right_carries;
}

-- From 01 to the source.
module _ {ms rs : List Match} (M : Matches ms) (R : ResolvedRefinement ms [] rs) where
  no-repeat : Distinct rs
  no-repeat =
      rising-weaken (λ r r'. ¬ Overlap r r' A) ◌≢◌ rs
      (λ r r' i j n e.
      let one = (R.refines.pieces r i).2.lettered in
      let held : Holds r A (left r A) = omega arith in
      n (ap (λ z. z.number) e, (left r A, held, subst (λ (z : Match). Holds z A (left r A)) e held)))
      (rows_apart M R.refines A)

  refines_paper : Definition1 ms rs
  refines_paper = record {
    set = no-repeat;
    submatches = λ r i. let o = R.refines.pieces r i in (o.0, o.1, piece-submatch o.2);
    tiles = λ m i s x. (
      λ t.
          let c = cover-letter M R.refines i s (x - 1) (omega arith) in
          (c.0, c.1, c.2.same_number, omega (arith, c.3)),
      λ v.
          let p = own-piece M R.refines i v.1 v.2 in
          omega (arith, v.3, p.starts_within s, p.ends_within s),
    );
  }

  resolved_paper : Definition2 rs
  resolved_paper = record {
    only_ends = λ r i s h. (
      λ t.
          end-or-inside r s h (record { from_left = t.0; to_right = t.1 })
          (R.resolved.uncut r i s h (support-cut {p = place r s h} t.2)),
      λ e. let t = end-spanned r s h e in (t.from_left, t.to_right, (r, i, s, refl, e)),
    );
    left_projected = λ r i s. projected r i s (left r s) (inl refl);
    right_projected = λ r i s. projected r i s (right r s) (inr refl);
  }
    where
      projected :
          (r : Match) → r ∈ rs → (s : Side) (h : ℕ) → (h ≡ left r s) ⊎ (h ≡ right r s)
          → Support rs (track r (other s)) (carry r s h)
      projected r i s h e =
          (r, i, other s, refl, meets-end r s h (carry r s h) (carry-meets r s h (end-spanned r s h e)) e)

-- From the source to 01.
module _ {ms rs : List Match} (M : Matches ms) (D : Definition1 ms rs) (E : Definition2 rs) where
  at-end : {r : Match} → r ∈ rs → (s : Side) (h : ℕ) → Support rs (track r s) h → ¬ Inside r s h
  at-end {r} i s h u t =
      ⊎_elim (λ e. omega (arith, t.past_left)) (λ e. omega (arith, t.before_right))
      ((E.only_ends r i s h).0 (omega arith, omega arith, u))

  -- Of two rows that share a letter neither starts or ends inside the other.
  within :
      {r r' : Match} → r ∈ rs → r' ∈ rs → track r' A ≡ track r A → (x : ℕ) → Holds r A x → Holds r' A x
      → (left r' A ≤ left r A) × (right r A ≤ right r' A)
  within {r} {r'} i i' e x t t' =
      let start : ¬ (left r A < left r' A) = λ l. at-end i A (left r' A) (r', i', A, e, inl refl) (omega arith) in
      let stop : ¬ (right r' A < right r A) = λ l. at-end i A (right r' A) (r', i', A, e, inr refl) (omega arith) in
      omega arith

  same_row : {r r' : Match} → r ∈ rs → r' ∈ rs → Overlap r r' A → r ≡ r'
  same_row {r} {r'} j j' (e, (x, t, t')) =
      let o = D.submatches r j in
      let o' = D.submatches r' j' in
      let same : o'.0 ≡ o.0 =
      number-unique ms M.numbered o'.1 o.1 (sym o'.2.part ∙ sym e ∙ o.2.part)
      in
      let p = submatch-piece o.2 in
      let p' = submatch-piece (subst (λ (z : Match). Submatch z r') same o'.2) in
      let on : track r' A ≡ track r A = p'.same_track A ∙ sym (p.same_track A) in
      let w = within j j' on x t t' in
      let w' = within j' j (sym on) x t' t in
      piece-unique p p' (omega (arith, w, w')) (omega (arith, w, w'))

  one-row : {m : Match} → m ∈ ms → (x : ℕ) → Holds m A x → rows_over m.number A x rs ≡ 1
  one-row {m} i x t =
      let c = (D.tiles m i A (suc x)).0 (omega arith) in
      exactly-one m.number A x rs c.1 c.2 (omega (arith, c.3))
      (rising-weaken ◌≢◌ (λ r r'. ¬ Overlap r r' A) rs (λ r r' j j' n o. n (same_row j j' o)) D.set)

  paper-refines : ResolvedRefinement ms [] rs
  paper-refines = record {
    refines = record {
      pieces = λ r i. let o = D.submatches r i in (o.0, o.1, submatch-piece o.2);
      once = λ m i x t. one-row i x t;
    };
    resolved = record {
      uncut = λ r i s h c. at-end i s h (cut-support c);
      marked = λ m i s h k t. absurd (Memᴰ.not-nil k);
    };
  }

pub paper-agrees :
    {ms rs : List Match} → Matches ms → ResolvedRefinement ms [] rs ↔ (Definition1 ms rs × Definition2 rs)
paper-agrees M = (λ R. (refines_paper M R, resolved_paper M R), λ d. paper-refines M d.0 d.1)

pub paper-holds :
    {ms rs : List Match} {marks : List Place} → Matches ms → ResolvedRefinement ms marks rs
    → Definition1 ms rs × Definition2 rs
paper-holds M R = (paper-agrees M).0 (unmarked R)
