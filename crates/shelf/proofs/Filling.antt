-- Numbers of a kind come to one set of a shelf again and again, while sets slide.
--     put, put_full               one try, from what storing and writing into the book did
--     crammed-as                  numbers of the same kind
--     Going                       so far: numbers of the kind have come to the set number j, and nothing else has
--     going_start                 at the start
--     left                        what falls with each try
--     going_less, going_step      after a try and after room was made: fewer places are left, and Going again
--     gone, gone-jammed           what all tries did, by the last one's answer
-- Assumes nothing.
use Prim.Native.Nat.{ℕ, ◌+◌, ◌-◌, ◌*◌, ◌≤◌, ◌<◌}
use native.Mathlib.Omega.{arith}
use mathlib.Core.Path.{◌≡◌, refl, sym, ◌∙◌}
use mathlib.Core.Bool.{Bool, true, false}
use mathlib.Core.List.{List}
use mathlib.Core.Logic.{◌↔◌, ◌⊎◌, inl, inr, ⊎_elim}
use lib.ListN.{length}
use Rattle.refinement.specs.Match.{Place}
use Rattle.runs.proofs.Membership.{lt-or-le}
use Rattle.cut_set.specs.Store.{Member, NothingAdded, Stored, Crowded, Cramped}
use Rattle.cut_set.specs.declared.CutSet.{CutSet}
use Rattle.cut_set.proofs.Gathering.{base-fresh}
use Rattle.shelf.specs.Shelf.{set_at, Shelf, GrownShelf, Saved, MadeRoom, Jammed, Shelved, filled}
use Rattle.shelf.specs.Filling.{Reached, Crammed}
use Rattle.shelf.proofs.Shelving.{stored-grown, shelf-none, shelf-then, shelf-as, shelf-wide, base_is, limit_is}
use Rattle.shelf.proofs.Shelving.{set_grown, filled-most, filled-grown, filled_more, jammed, jammed-as}
use Rattle.shelf.proofs.Members.{grown-member}

-- what is known of a set holds of one that is the same
member_is : {xs : List ℕ} {s t : CutSet} {y : ℕ} → s ≡ t → Member xs t y → Member xs s y
member_is e m = rw e m

ready-is : {s t : CutSet} → s ≡ t → NothingAdded t → NothingAdded s
ready-is e h = rw e h

crowded-is : {P : ℕ → Type 0} {xs : List ℕ} {s t : CutSet} → s ≡ t → Crowded P xs t → Crowded P xs s
crowded-is e h = rw e h

-- the set number j was s when it was loaded, and t when it was saved
module _ {s t : CutSet} {n lo hi j : ℕ} {xs b ys b' : List ℕ} (e : s ≡ set_at b j)
    (shelf : Shelf xs b n lo hi) (l : j < n) (saved : Saved b j t b') (length_work : length ys ≡ length xs)
    (length_book : length b' ≡ length b) where
  pub put : {P : ℕ → Type 0} → Stored P xs s ys t → GrownShelf (λ i y. (i ≡ j) × P y) n lo hi xs b ys b'
  put {P} p =
      let q : Stored P xs (set_at b j) ys t = rw e at p in
      set_grown shelf l q.good (stored-grown q) saved length_work length_book q.base_same q.limit_same
      q.outside

  pub put_full : {P : ℕ → Type 0} → Cramped P xs s ys t → Crammed P n lo hi j xs b ys b'
  put_full p = record {
    grown = shelf-as (put p.stored) (λ i u y. (
      λ h. (h.0, (h.1.0, member_is saved.here h.1.1)),
      λ h. (h.0, (h.1.0, member_is (sym saved.here) h.1.1)),
    ));
    base_same = base_is saved.here ∙ p.stored.base_same ∙ base_is e;
    limit_same = limit_is saved.here ∙ p.stored.limit_same ∙ limit_is e;
    ready = ready-is saved.here p.ready;
    crowded = crowded-is saved.here p.crowded;
  }

pub crammed-as : {P Q : ℕ → Type 0} {n lo hi j : ℕ} {xs b ys b' : List ℕ} → ((y : ℕ) → P y ↔ Q y) →
    Crammed P n lo hi j xs b ys b' → Crammed Q n lo hi j xs b ys b'
crammed-as e p = record {
  grown = shelf-as p.grown (λ i u y. (
    λ h. (h.0, ((e y).0 h.1.0, h.1.1)),
    λ h. (h.0, ((e y).1 h.1.0, h.1.1)),
  ));
  base_same = p.base_same;
  limit_same = p.limit_same;
  ready = p.ready;
  crowded = record {
    full = p.crowded.full;
    missing = p.crowded.missing;
    wanted = (e p.crowded.missing).0 p.crowded.wanted;
    absent = p.crowded.absent;
  };
}

-- numbers with P have come to the set number j, all that are members there
pub record Going (P : ℕ → Type 0) (n lo hi j : ℕ) (xs b ys b' : List ℕ) : Type 0 where
  pub lengths : length ys ≡ length xs
  pub grown : GrownShelf (Reached P j ys b') n lo hi xs b ys b'

-- twice the places without a gathered member, and one if the set number j has no room
abbrev pub left : ℕ → ℕ → ℕ → ℕ → List ℕ → ℕ
left n lo hi j b = 2 * ((hi - lo) - filled b n) + (1 - ((set_at b j).limit - (set_at b j).used))

-- room was made, where there was none, or where fewer places are left now
fewer-places : (m u v : ℕ) {f f' u' v' : ℕ} → u' < v' → f < f' → f' ≤ m →
    2 * (m - f') + (1 - (v' - u')) < 2 * (m - f) + (1 - (v - u))
fewer-places m u v h k l = omega arith

fewer-rooms : (m : ℕ) {f f' u v u' v' : ℕ} → u' < v' → v ≤ u → f ≤ f' →
    2 * (m - f') + (1 - (v' - u')) < 2 * (m - f) + (1 - (v - u))
fewer-rooms m h k l = omega arith

pub going_start : {P : ℕ → Type 0} {n lo hi j : ℕ} {xs b : List ℕ} → Shelf xs b n lo hi → Going P n lo hi j xs b xs b
going_start s = record {
  lengths = refl;
  grown = shelf-wide (shelf-none s) (λ i y p. absurd p) (λ i y p. rw p.0 p.1.1);
}

module _ {P : ℕ → Type 0} {n lo hi j : ℕ} {xs b ys b' : List ℕ} (l : j < n) (g : Going P n lo hi j xs b ys b') where
  pub gone : {zs b'' : List ℕ} → GrownShelf (λ i y. (i ≡ j) × P y) n lo hi ys b' zs b'' →
      GrownShelf (λ i y. (i ≡ j) × P y) n lo hi xs b zs b''
  gone p = shelf-as (shelf-then g.grown p) (λ i u y. (⊎_elim (λ r. (r.0, r.1.0)) (λ r. r), inr))

  -- one try more left the set full, and then room was made, or could not be
  module _ {zs b'' ws b''' : List ℕ} {r : Bool} (p : Crammed P n lo hi j ys b' zs b'')
      (q : MadeRoom n lo hi j zs b'' ws b''' r) where
    pub going_less : r ≡ true → left n lo hi j b''' < left n lo hi j b'
    going_less e = ⊎_elim
        (λ h. fewer-places (hi - lo) (set_at b' j).used (set_at b' j).limit (q.room e)
        (omega (arith, slid, filled_more p.grown j l (more h))) (filled-most q.slid.shelf))
        (λ h. fewer-rooms (hi - lo) (q.room e) h (omega (arith, slid, filled-grown p.grown)))
        (lt-or-le (set_at b' j).used (set_at b' j).limit)
      where
        slid : filled b'' n ≤ filled b''' n
        slid = filled-grown q.slid

        -- a set that had room and is full has more gathered members
        more : (set_at b' j).used < (set_at b' j).limit →
            (set_at b' j).fresh - (set_at b' j).base < (set_at b'' j).fresh - (set_at b'' j).base
        more h = let good = g.grown.shelf.good j l in
            omega (arith, base-fresh good, good.added, p.base_same, p.limit_same, p.ready, p.crowded.full)

    pub going_step : length ws ≡ length ys → Going P n lo hi j xs b ws b'''
    going_step m = record {
      lengths = m ∙ g.lengths;
      grown = shelf-wide (shelf-then g.grown (shelf-then p.grown q.slid))
          (λ i y. ⊎_elim
          (λ h. (h.0, (h.1.0, slides y ((p.grown.sets j l).stays y h.1.1))))
          (⊎_elim (λ h. (h.0, (h.1.0, slides y h.1.1))) (λ h. absurd h)))
          (λ i y h. rw h.0 h.1.1);
    }
      where
        slides : (y : ℕ) → Member zs (set_at b'' j) y → Member ws (set_at b''' j) y
        slides = (q.slid.sets j l).stays

    pub gone-jammed : Shelf xs b n lo hi → length ws ≡ length ys → r ≡ false →
        Jammed (λ p. Shelved xs b n p ⊎ ((p.track ≡ j) × P p.position)) (hi - lo)
    gone-jammed shelf m e = jammed-as
        (λ s. ⊎_elim (before s) (λ h. inr (wanted s h)))
        (jammed q.slid.shelf (q.full e) absent)
      where
        absent : Member ws (set_at b''' j) p.crowded.missing → ⊥
        absent h = ⊎_elim p.crowded.absent (λ o. o)
            (grown-member (p.grown.shelf.good j l) (q.slid.sets j l) h)

        before : (s : Place) → Shelved ws b''' n s → Shelved xs b n s ⊎ ((s.track ≡ j) × P s.position)
        before s h = ⊎_elim
            (λ o. inl (record { set = h.set; member = o }))
            (λ o. inr (o.0, o.1.0))
            (grown-member (shelf.good s.track h.set) ((going_step m).grown.sets s.track h.set) h.member)

        wanted : (s : Place) → s ≡ record { track = j; position = p.crowded.missing } →
            (s.track ≡ j) × P s.position
        wanted s h = rw h (refl, p.crowded.wanted)
