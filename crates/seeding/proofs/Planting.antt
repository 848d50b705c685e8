-- Adding the marks that are spanned.
--     Looking              the invariant of the loop over the groups: no match of the groups before g spans x
--     looking-step, looking-found      one group more, and one whose match spans x
--     spanned-named, plant-one     a mark that is spanned has a set, and is sown
--     Planting             the invariant of the loop over the marks: those before q are planted
--     planting-step, planting-full, planting-end     one mark more, no room for one, and its end
-- Assumes nothing.
use Prim.Native.Nat.{ℕ, suc, ◌+◌, ◌-◌, ◌≤◌, ◌<◌}
use mathlib.Core.Path.{◌≡◌, refl, sym, ap, subst, ◌∙◌}
use mathlib.Core.Bool.{Bool, true, false, true≢false}
use mathlib.Core.Logic.{◌↔◌, ◌⊎◌, inl, inr, ⊎_elim}
use mathlib.Core.List.{List}
use native.Mathlib.Omega.{arith}
use native.Mathlib.Decide.{ℕ_discrete}
use lib.ListN.{length, get_or}
use Rattle.refinement.specs.Match.{Place}
use Rattle.runs.specs.Runs.{Answers}
use Rattle.shelf.specs.Shelf.{Shelf, GrownShelf, Jammed, Shelved}
use Rattle.shelf.specs.Filling.{Filling}
use Rattle.shelf.proofs.Shelving.{shelf-then, shelf-as, jammed-as}
use Rattle.shelf.proofs.Members.{grown-member}
use Rattle.tracks.specs.Groups.{start_at, part}
use Rattle.tracks.proofs.Grouped.{match-named, part_length, part_at}
use Rattle.seeding.specs.Seeds.{EndOf}
use Rattle.seeding.specs.Sown.{SideGroups, MatchIn, GroupSpans, SpannedIn, MarkAt, MarkIn}
use Rattle.seeding.proofs.OneGroup.{group-to, match-in, match-of, match-wide}

-- ---- group by group

pub record Looking (f r gs : List ℕ) (n at j x g : ℕ) : Type 0 where
  pub until : g ≤ n
  pub none : SpannedIn f r gs n at (start_at gs g) j x → ⊥

module _ {f r gs : List ℕ} {n at sets : ℕ} (s : SideGroups f r gs n at sets) where
  module _ {j x g : ℕ} (w : Looking f r gs n at j x g) (l : g < n) where
    pub looking-step : Answers (GroupSpans f r gs at g j x) false → Looking f r gs n at j x (g + 1)
    looking-step not = record {
      until = omega arith;
      none = rw next (λ p.
          ⊎_elim w.none (λ k. not.unless refl (record { track_is = k.0; here = k.1 })) (match-of s l p));
    }
      where
        next : g + 1 ≡ suc g
        next = omega arith

    pub looking-found : Answers (GroupSpans f r gs at g j x) true → Answers (SpannedIn f r gs n at (length f) j x) true
    looking-found found = record {
      when = λ _. let p = found.when refl in rw p.track_is (match-wide (group-to s l) (match-in s l p.here));
      unless = λ h. absurd (true≢false h);
    }

-- ---- one mark

-- the ends of the match without letters that stands for the mark number q
module _ (ps : List ℕ) {q : ℕ} (l : q < length ps) where
  one_at : get_or (part q (q + 1) ps) 0 0 ≡ get_or ps q 0
  one_at = part_at q (q + 1) ps (omega arith) 0 0 (omega arith) ∙ ap (λ k. get_or ps k 0) same
    where
      same : q + 0 ≡ q
      same = omega arith

  one-long : length (part q (q + 1) ps) ≡ 1
  one-long = omega (arith, part_length q (q + 1) ps (omega arith))

  one-mark : (y : ℕ) → EndOf (part q (q + 1) ps) (part q (q + 1) ps) (length (part q (q + 1) ps)) y ↔ (y ≡ get_or ps q 0)
  one-mark y = (
    λ p.
        let first : p.index ≡ 0 = omega (arith, p.below, one-long) in
        let is = ⊎_elim (λ e. e) (λ e. e) p.is in
        is ∙ ap (λ k. get_or (part q (q + 1) ps) k 0) first ∙ one_at,
    λ e. record { index = 0; below = omega (arith, one-long); is = inl (e ∙ sym one_at) },
  )

module _ {f r gs : List ℕ} {n at sets : ℕ} (s : SideGroups f r gs n at sets) where
  pub spanned-named : {R : ℕ → ℕ → Type 0} {j : ℕ} → MatchIn R f r gs n at (length f) j → j < sets
  spanned-named p =
      subst (λ (i : ℕ). i < sets) p.track_is (match-named s.groups s.at_from s.at_to p.index p.below)

  module _ (ps : List ℕ) {q j : ℕ} (l : q < length ps) (p : SpannedIn f r gs n at (length f) j (get_or ps q 0)) where
    -- what is sown is the mark
    sown-mark :
        (i y : ℕ)
        → ((i ≡ j) × EndOf (part q (q + 1) ps) (part q (q + 1) ps) (length (part q (q + 1) ps)) y)
        ↔ MarkAt f r gs n at j (get_or ps q 0) i y
    sown-mark i y = (
      λ h. record { set = h.0; is = (one-mark ps l y).0 h.1; spanned = p },
      λ h. (h.set, (one-mark ps l y).1 h.is),
    )

    pub plant-one :
        (lo hi : ℕ) (xs b ys b' : List ℕ) (answer : Bool)
        → Filling (λ i y. (i ≡ j) × EndOf (part q (q + 1) ps) (part q (q + 1) ps) (length (part q (q + 1) ps)) y) sets lo
        hi xs b ys b' answer
        → Filling (MarkAt f r gs n at j (get_or ps q 0)) sets lo hi xs b ys b' answer
    plant-one lo hi xs b ys b' true h = shelf-as h (λ i _ y. sown-mark i y)
    plant-one lo hi xs b ys b' false h =
        jammed-as (λ s. ⊎_elim inl (λ k. inr ((sown-mark s.track s.position).0 k))) h

-- ---- mark by mark

pub record Planting (f r gs : List ℕ) (n at : ℕ) (ts ps : List ℕ) (sets lo hi : ℕ) (xs b : List ℕ) (q : ℕ)
    (ys b' : List ℕ) : Type 0 where
  pub until : q ≤ length ts
  pub lengths : length ys ≡ length xs
  pub grown : GrownShelf (MarkIn f r gs n at ts ps q) sets lo hi xs b ys b'

module _ {f r gs ts ps : List ℕ} {n at sets lo hi : ℕ} {xs b : List ℕ} (shelf : Shelf xs b sets lo hi) where
  marks-wide : {k m i y : ℕ} → k ≤ m → MarkIn f r gs n at ts ps k i y → MarkIn f r gs n at ts ps m i y
  marks-wide h p = record {
    mark = p.mark;
    before = omega (arith, p.before);
    track_is = p.track_is;
    position_is = p.position_is;
    spanned = p.spanned;
  }

  module _ {q : ℕ} {ys b' : List ℕ} (w : Planting f r gs n at ts ps sets lo hi xs b q ys b') (l : q < length ts) where
    -- the mark number q
    abbrev This : ℕ → ℕ → Type 0
    This i y = MarkAt f r gs n at (get_or ts q 0) (get_or ps q 0) i y

    mark-in : {i y : ℕ} → This i y → MarkIn f r gs n at ts ps (q + 1) i y
    mark-in {i} {y} p = record {
      mark = q;
      before = omega arith;
      track_is = sym p.set;
      position_is = sym p.is;
      spanned = rw p.set (rw p.is p.spanned);
    }

    mark_of : {i y : ℕ} → MarkIn f r gs n at ts ps (q + 1) i y → MarkIn f r gs n at ts ps q i y ⊎ This i y
    mark_of {i} {y} p = go (ℕ_discrete p.mark q)
      where
        go : Dec (p.mark ≡ q) → MarkIn f r gs n at ts ps q i y ⊎ This i y
        go (no e) = inl (record {
          mark = p.mark;
          before = omega (arith, p.before, e);
          track_is = p.track_is;
          position_is = p.position_is;
          spanned = p.spanned;
        })
        go (yes e) =
            let track = sym p.track_is ∙ ap (λ k. get_or ts k 0) e in
            let position = sym p.position_is ∙ ap (λ k. get_or ps k 0) e in
            inr (record { set = track; is = position; spanned = rw (sym track) (rw (sym position) p.spanned) })

    pub planting-step :
        {zs b'' : List ℕ} → length zs ≡ length ys → GrownShelf This sets lo hi ys b' zs b''
        → Planting f r gs n at ts ps sets lo hi xs b (q + 1) zs b''
    planting-step e p = record {
      until = omega arith;
      lengths = e ∙ w.lengths;
      grown = shelf-as (shelf-then w.grown p) (λ i h y. (⊎_elim (marks-wide (omega arith)) mark-in, mark_of));
    }

    pub planting-full :
        Jammed (λ p. Shelved ys b' sets p ⊎ This p.track p.position) (hi - lo)
        → Jammed (λ p. Shelved xs b sets p ⊎ MarkIn f r gs n at ts ps (length ts) p.track p.position) (hi - lo)
    planting-full = jammed-as (λ p. ⊎_elim (before p) (λ k. inr (marks-wide (omega arith) (mark-in k))))
      where
        before :
            (p : Place) → Shelved ys b' sets p
            → Shelved xs b sets p ⊎ MarkIn f r gs n at ts ps (length ts) p.track p.position
        before p k =
            ⊎_elim (λ m. inl (record { set = k.set; member = m })) (λ m. inr (marks-wide w.until m))
            (grown-member (shelf.good p.track k.set) (w.grown.sets p.track k.set) k.member)

  pub planting-end :
      {q : ℕ} {ys b' : List ℕ} → Planting f r gs n at ts ps sets lo hi xs b q ys b' → length ts ≤ q
      → GrownShelf (MarkIn f r gs n at ts ps (length ts)) sets lo hi xs b ys b'
  planting-end {q} {ys} {b'} w h =
      subst (λ (m : ℕ). GrownShelf (MarkIn f r gs n at ts ps m) sets lo hi xs b ys b') (omega (arith, w.until))
      w.grown
