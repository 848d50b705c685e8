-- Before the first step: what the sets hold after each call that fills them, and that the steps can begin.
--     Begun                what one side's sets hold: just the numbers with P, none of them finished
--     begun-laid, begun-grown, begun-beside      empty sets; numbers have come; the other half has changed
--     begun-gathered, begun-as        the sets are gathered; P is as good as another kind
--     end-cut, mark-cut    what comes is a cut of its side
--     seeds-exceed         no place for one more of them: every resolved refinement exceeds the capacity
--     begun-open           Open, before A's first step
--     seeds-a, laid_beside, seeds-b, seeded-open     the same, from what the calls did one after the other
--     sown-exceeds, planted-exceeds-a, planted-exceeds-b     and where one of them found no place
-- Assumes nothing.
use Prim.Native.Nat.{ℕ, ◌-◌, ◌*◌, ◌≤◌, ◌<◌}
use mathlib.Core.Path.{◌≡◌, refl, sym, ap, subst, ◌∙◌}
use mathlib.Core.Logic.Iff
use mathlib.Core.Logic.{◌↔◌, ◌⊎◌, inl, inr, ⊎_elim}
use mathlib.Core.List.Memᴰ
use mathlib.Core.List.{List, []}
use native.Mathlib.Omega.{arith}
use native.Mathlib.Decide.{ℕ_discrete}
use lib.ListN.{length, get_or}
use Rattle.refinement.specs.declared.Side.{Side}
use Rattle.refinement.specs.declared.Side.TheVariants.{A, B}
use Rattle.refinement.specs.Order.{◌∈◌}
use Rattle.refinement.specs.Match.{Place, other, left, right, place}
use Rattle.refinement.specs.Cut.{Cut, left_end, right_end, end, mark}
use Rattle.refinement.proofs.Geometry.{end-spanned}
use Rattle.runs.specs.Runs.{Same}
use Rattle.cut_set.specs.Store.{Member, Finished, NothingFound, NothingAdded}
use Rattle.cut_set.proofs.Gathering.{base_done}
use Rattle.cut_set.proofs.Laws.{done-used, good-same}
use Rattle.refining.specs.Columns.{Columns, count_of, lefts_on, rights_on, from_at, from_right_at, Fit}
use Rattle.refining.specs.Demands.{EveryExceeds}
use Rattle.carrying_match.specs.OneMatch.{EndsIn}
use Rattle.shelf.specs.Shelf.{set_at, Outside, Shelf, Shelved, GrownShelf, Jammed}
use Rattle.shelf.proofs.Shelving.{grown-same}
use Rattle.shelf.proofs.Members.{grown-member}
use Rattle.shelving.specs.AllSets.{AllGathered, GatheredSets, LaidOut}
use Rattle.tracks.specs.Tracks.{Tracked, match_in, matches_in, mark_at, marks_of, given_in, On, SideCut}
use Rattle.tracks.specs.Tracks.{Kind, over, along, lane}
use Rattle.tracks.specs.Engine.{FitTracks, books_of, half_from, half_to, Open}
use Rattle.tracks.specs.Groups.{Groups, grouped, side_at}
use Rattle.tracks.proofs.Indexed.{∈-matches, ∈-marks, marks-∈, on-place, lane-spans}
use Rattle.tracks.proofs.Counting.{lane-none, jammed-exceeds}
use Rattle.tracks.proofs.Grouped.{grouped-fit}
use Rattle.seeding.specs.Seeds.{EndAt}
use Rattle.seeding.specs.Sown.{EndIn, SpannedIn, MarkIn}

-- the sets hold just the numbers with P, and none of them is finished
pub record Begun (P : ℕ → ℕ → Type 0) (n lo hi : ℕ) (xs b : List ℕ) : Type 0 where
  pub shelf : Shelf xs b n lo hi
  pub none_done : (j : ℕ) → j < n → (set_at b j).done ≡ (set_at b j).base
  pub holds : (j : ℕ) → j < n → (y : ℕ) → Member xs (set_at b j) y ↔ P j y

pub begun-laid : {n lo hi : ℕ} {xs b : List ℕ} → LaidOut n lo hi xs b → Begun (λ j y. ⊥) n lo hi xs b
begun-laid p = record {
  shelf = p.shelf;
  none_done = p.none_done;
  holds = λ j l y. (λ m. absurd (omega (arith, m.from, m.below, p.none_used j l)), λ h. absurd h);
}

module _ {P : ℕ → ℕ → Type 0} {n lo hi : ℕ} {xs b : List ℕ} (p : Begun P n lo hi xs b) where
  pub begun-as : {Q : ℕ → ℕ → Type 0} → ((j y : ℕ) → P j y ↔ Q j y) → Begun Q n lo hi xs b
  begun-as e = record {
    shelf = p.shelf;
    none_done = p.none_done;
    holds = λ j l y. Iff.trans (p.holds j l y) (e j y);
  }

  pub begun-grown : {Q : ℕ → ℕ → Type 0} {ys b' : List ℕ} → GrownShelf Q n lo hi xs b ys b'
      → Begun (λ j y. P j y ⊎ Q j y) n lo hi ys b'
  begun-grown q = record {
    shelf = q.shelf;
    none_done = λ j l.
        omega (arith, (q.sets j l).done_same, p.none_done j l, base_done (q.shelf.good j l));
    holds = λ j l y. (
      λ m. ⊎_elim (λ h. inl ((p.holds j l y).0 h)) inr (grown-member (p.shelf.good j l) (q.sets j l) m),
      ⊎_elim (λ h. (q.sets j l).stays y ((p.holds j l y).1 h)) ((q.sets j l).held y),
    );
  }

  pub begun-gathered : {ys b' : List ℕ} → GatheredSets n lo hi xs b ys b' → Begun P n lo hi ys b'
  begun-gathered q =
      let r = begun-grown q.grown in record {
        shelf = r.shelf;
        none_done = r.none_done;
        holds = λ j l y. (λ m. ⊎_elim (λ h. h) (λ h. absurd h) ((r.holds j l y).0 m), λ h. (r.holds j l y).1 (inl h));
      }

  -- only places of another part have changed
  pub begun-beside : {at to : ℕ} (ys : List ℕ) → Outside at to xs ys → (to ≤ lo) ⊎ (hi ≤ at) → length ys ≡ length xs
      → Begun P n lo hi ys b
  begun-beside ys o apart e = record {
    shelf = record {
      book = p.shelf.book;
      good = λ j l. good-same xs ys (same j l) e (p.shelf.good j l);
      from = p.shelf.from;
      to = p.shelf.to;
      order = p.shelf.order;
      part = p.shelf.part;
      within = omega (arith, p.shelf.within);
    };
    none_done = p.none_done;
    holds = λ j l y.
        let g = grown-same xs ys (p.shelf.good j l) (same j l) in (
          λ m. (p.holds j l y).0 (⊎_elim (λ h. h) (λ h. absurd h) (grown-member (p.shelf.good j l) g m)),
          λ h. g.stays y ((p.holds j l y).1 h),
        );
  }
    where
      same : (j : ℕ) → j < n → Same xs ys (set_at b j).base (set_at b j).limit
      same j l k low high =
          o k (⊎_elim (λ h. inr (omega (arith, p.shelf.from j l))) (λ h. inl (omega (arith, p.shelf.to j l))) apart)

-- ---- what comes is a cut

module _ {c : Columns} {gs : List ℕ} {g n : ℕ} (fit : Fit c) (groups : Groups gs g (count_of c) n) (ts ps : List ℕ) where
  -- the matches with their tracks and the marks
  abbrev all : Tracked
  all = grouped c gs g (marks_of ts ps)

  -- the ends on A, and the marks that are spanned on a side, among the numbers of the sets
  abbrev pub EndOn : ℕ → ℕ → Type 0
  EndOn j y = EndIn c.from_lefts c.from_rights gs g 1 (length c.from_lefts) j y

  abbrev pub MarkOn : Side → ℕ → ℕ → Type 0
  MarkOn u j y = MarkIn (lefts_on u c) (rights_on u c) gs g (side_at u) ts ps (length ts) j y

  abbrev place_of : ℕ → ℕ → Place
  place_of j y = record { track = j; position = y }

  fits : FitTracks all n
  fits = grouped-fit groups fit refl (marks_of ts ps)

  count-on : (u : Side) → length (lefts_on u c) ≡ count_of c
  count-on A = fit.from_length
  count-on B = fit.to_length

  end_of : {k : ℕ} → k < count_of c → (y : ℕ) → (y ≡ left (match_in all k) A) ⊎ (y ≡ right (match_in all k) A)
      → Cut (matches_in all) (marks_of ts ps) (place (match_in all k) A y)
  end_of {k} l y (inl e) = subst (λ (z : ℕ). Cut (matches_in all) (marks_of ts ps) (place (match_in all k) A z)) (sym e)
      (end (∈-matches all l) (left_end A))
  end_of {k} l y (inr e) = subst (λ (z : ℕ). Cut (matches_in all) (marks_of ts ps) (place (match_in all k) A z)) (sym e)
      (end (∈-matches all l) (right_end A))

  pub end-cut : {j y : ℕ} → EndOn j y → SideCut all A (place_of j y)
  end-cut {j} {y} p =
      let k = p.index in
      let l : k < count_of c = omega (arith, p.below, fit.from_length) in
      let is : (y ≡ left (match_in all k) A) ⊎ (y ≡ right (match_in all k) A) =
      ⊎_elim inl (λ e. inr (e ∙ fit.from_right k l)) p.is in
      let on : On all A k (place_of j y) = record {
        below = l;
        track_is = p.track_is;
        spans = end-spanned (match_in all k) A y is;
      } in
      record {
        cut = subst (λ (s : Place). Cut (matches_in all) (marks_of ts ps) s) (on-place all A on) (end_of l y is);
        index = k;
        on = on;
      }

  on_of : (u : Side) {j y : ℕ} → MarkOn u j y → (k : ℕ) × On all u k (place_of j y)
  on_of A {j} {y} p =
      let q = p.spanned in
      let l : q.index < count_of c = omega (arith, q.below, count-on A) in
      (q.index, record { below = l; track_is = q.track_is; spans = (lane-spans all fit over A l y).0 q.is })
  on_of B {j} {y} p =
      let q = p.spanned in
      let l : q.index < count_of c = omega (arith, q.below, count-on B) in
      (q.index, record { below = l; track_is = q.track_is; spans = (lane-spans all fit over B l y).0 q.is })

  pub mark-cut : (u : Side) {j y : ℕ} → MarkOn u j y → SideCut all u (place_of j y)
  mark-cut u {j} {y} p =
      let on = on_of u p in
      let same : mark_at ts ps p.mark ≡ place_of j y = λ i. place_of (p.track_is i) (p.position_is i) in
      let here = subst (λ (s : Place). s ∈ marks_of ts ps) same (∈-marks ts ps p.before) in
      let is = on-place all u on.1 in
      record {
        cut = subst (λ (s : Place). Cut (matches_in all) (marks_of ts ps) s) is
            (mark (∈-matches all on.1.below) (subst (λ (s : Place). s ∈ marks_of ts ps) (sym is) here)
            on.1.spans);
        index = on.0;
        on = on.1;
      }

  -- the first cuts of a side
  abbrev pub Seed : Side → ℕ → ℕ → Type 0
  Seed A j y = EndOn j y ⊎ MarkOn A j y
  Seed B j y = MarkOn B j y

  seed-cut : (u : Side) {j y : ℕ} → Seed u j y → SideCut all u (place_of j y)
  seed-cut A p = ⊎_elim end-cut (mark-cut A) p
  seed-cut B p = mark-cut B p

  mark-seed : (u : Side) {j y : ℕ} → MarkOn u j y → Seed u j y
  mark-seed A p = inr p
  mark-seed B p = p

  -- ---- no room for one

  room : (u : Side) (cap : ℕ) → half_to u cap - half_from u cap ≡ 2 * cap
  room A cap = omega arith
  room B cap = omega arith

  -- the sets of the side hold what is a cut there, and there is no place for what comes, which is one too
  pub seeds-exceed : {P : ℕ → ℕ → Type 0} {Q : Place → Type 0} {cap : ℕ} {xs b : List ℕ} (u : Side)
      → Begun P n (half_from u cap) (half_to u cap) xs b → ((j y : ℕ) → P j y → SideCut all u (place_of j y))
      → ((p : Place) → Q p → SideCut all u p)
      → Jammed (λ p. Shelved xs b n p ⊎ Q p) (half_to u cap - half_from u cap) → EveryExceeds (given_in all) cap
  seeds-exceed {cap = cap} u p held come j =
      jammed-exceeds fits u (room u cap) j
      (λ s.
      ⊎_elim (λ q. held s.track s.position ((p.holds s.track q.set s.position).0 q.member))
      (come s))

  -- ---- the first step

  named : (w : Kind) (u : Side) {k : ℕ} → k < count_of c → (lane w all u).from k < n
  named over u {k} l = fits.named u k l
  named along u {k} l = fits.named (other u) k l

  module _ (cap : ℕ) {xs a b : List ℕ} (on_a : Begun (Seed A) n 0 (2 * cap) xs a)
      (on_b : Begun (Seed B) n (2 * cap) (4 * cap) xs b)
    where
      begun : (u : Side) → Begun (Seed u) n (half_from u cap) (half_to u cap) xs (books_of a b u)
      begun A = on_a
      begun B = on_b

      unfinished : (u : Side) {j y : ℕ} → j < n → Finished xs (set_at (books_of a b u) j) y → ⊥
      unfinished u {j} l p = omega (arith, p.from, p.below, (begun u).none_done j l)

      end-in : {k : ℕ} → k < count_of c → (y : ℕ) → EndAt (from_at c k) (from_right_at c k) y
          → Member xs (set_at a (all.tracks A k)) y
      end-in {k} l y e =
          (on_a.holds (all.tracks A k) (fits.named A k l) y).1
          (inl (record { index = k; below = omega (arith, fit.from_length); track_is = refl; is = e }))

      ended : (k : ℕ) → k < count_of c → EndsIn xs (set_at a (all.tracks A k)) (from_at c k) (from_right_at c k)
      ended k l = (end-in l (from_at c k) (inl refl), end-in l (from_right_at c k) (inr refl))

      spanned : (u : Side) {k : ℕ} {p : Place} → On all u k p
          → SpannedIn (lefts_on u c) (rights_on u c) gs g (side_at u) (length (lefts_on u c)) p.track p.position
      spanned A {k} {p} on = record {
        index = k;
        below = omega (arith, on.below, fit.from_length);
        track_is = on.track_is;
        is = (lane-spans all fit over A on.below p.position).1 on.spans;
      }
      spanned B {k} {p} on = record {
        index = k;
        below = omega (arith, on.below, fit.to_length);
        track_is = on.track_is;
        is = (lane-spans all fit over B on.below p.position).1 on.spans;
      }

      marked : (u : Side) (k : ℕ) (p : Place) → p ∈ marks_of ts ps → On all u k p
          → Member xs (set_at (books_of a b u) p.track) p.position
      marked u k p m on =
          let v = marks-∈ ts ps m in
          let set = subst (λ (j : ℕ). j < n) on.track_is (fits.named u k on.below) in
          ((begun u).holds p.track set p.position).1
          (mark-seed u (record {
            mark = v.0;
            before = v.1;
            track_is = ap (λ (s : Place). s.track) v.2;
            position_is = ap (λ (s : Place). s.position) v.2;
            spanned = spanned u on;
          }))

      -- a mark on B is spanned, and so there are ends on A
      settled : ((j : ℕ) → j < n → NothingFound (set_at a j)) → (j : ℕ) → j < n → NothingFound (set_at b j)
      settled none j l = go (ℕ_discrete (set_at b j).done (set_at b j).used)
        where
          go : Dec ((set_at b j).done ≡ (set_at b j).used) → NothingFound (set_at b j)
          go (yes e) = e
          go (no e) =
              let first : Member xs (set_at b j) (get_or xs (set_at b j).base 0) = record {
                place = (set_at b j).base;
                from = omega arith;
                below = omega (arith, e, done-used (on_b.shelf.good j l), on_b.none_done j l);
                is = refl;
              } in
              let on = on_of B ((on_b.holds j l (get_or xs (set_at b j).base 0)).0 first) in
              let i = all.tracks A on.0 in
              let here = fits.named A on.0 on.1.below in
              let left_end = (ended on.0 on.1.below).0 in
              absurd (omega (arith, left_end.from, left_end.below, none i here, on_a.none_done i here))

      gathered : AllGathered a n → AllGathered b n → (u : Side) (j : ℕ) → j < n → NothingAdded (set_at (books_of a b u) j)
      gathered p q A = p.each
      gathered p q B = q.each

      pub begun-open : AllGathered a n → AllGathered b n → (hits : Kind → Side → ℕ)
          → ((w : Kind) (u : Side) → hits w u ≡ 0) → Open all n cap xs (books_of a b) hits A
      begun-open p q hits zeros = record {
        shelf = λ u. (begun u).shelf;
        sound = λ u s m. seed-cut u (((begun u).holds s.track m.set s.position).0 m.member);
        ended = ended;
        marked = marked;
        taken = λ w u j y m. absurd (unfinished u (named w u m.below) m.taken);
        settled = settled;
        gathered = gathered p q;
        counted = λ u. record {
          carried = λ j. [];
          once = λ j l. tt;
          finished = λ j l x. (λ i. absurd (Memᴰ.not-nil i), λ m. absurd (unfinished u l m));
          hits_are = λ w. zeros w u ∙ sym (lane-none (lane w all u) (count_of c));
        };
        few = λ w u. omega (arith, zeros w u);
      }

  -- ---- what the calls did, one after the other

  -- the ends and then the marks have come to the sets of A
  pub seeds-a : (cap : ℕ) {xs a xs₁ a₁ xs₂ a₂ : List ℕ} → LaidOut n 0 (2 * cap) xs a
      → GrownShelf EndOn n 0 (2 * cap) xs a xs₁ a₁ → GrownShelf (MarkOn A) n 0 (2 * cap) xs₁ a₁ xs₂ a₂
      → Begun (Seed A) n 0 (2 * cap) xs₂ a₂
  seeds-a cap laid sown planted = begun-as (begun-grown (begun-grown (begun-laid laid) sown) planted) (λ j y. (
    ⊎_elim (λ p. inl (⊎_elim (λ h. absurd h) (λ h. h) p)) inr,
    ⊎_elim (λ p. inl (inr p)) inr,
  ))

  -- meanwhile those of B stayed empty
  pub laid_beside : (cap : ℕ) {P Q : ℕ → ℕ → Type 0} {xs a b xs₁ a₁ xs₂ a₂ : List ℕ}
      → LaidOut n (2 * cap) (4 * cap) xs b → GrownShelf P n 0 (2 * cap) xs a xs₁ a₁ → GrownShelf Q n 0 (2 * cap) xs₁ a₁ xs₂ a₂ → length xs₂ ≡ length xs
      → Begun (λ j y. ⊥) n (2 * cap) (4 * cap) xs₂ b
  laid_beside cap {xs₂ = xs₂} laid one two e =
      begun-beside (begun-laid laid) xs₂ (λ k h. two.outside k h ∙ one.outside k h) (inl (omega arith)) e

  -- the marks have come to the sets of B
  pub seeds-b : (cap : ℕ) {xs b ys b' : List ℕ} → Begun (λ j y. ⊥) n (2 * cap) (4 * cap) xs b
      → GrownShelf (MarkOn B) n (2 * cap) (4 * cap) xs b ys b' → Begun (Seed B) n (2 * cap) (4 * cap) ys b'
  seeds-b cap empty planted =
      begun-as (begun-grown empty planted) (λ j y. (⊎_elim (λ h. absurd h) (λ h. h), inr))

  -- and both are gathered
  pub seeded-open : (cap : ℕ) {xs a b xs₁ a₁ xs₂ a₂ xs₃ b₁ xs₄ a₃ xs₅ b₂ : List ℕ}
      → LaidOut n 0 (2 * cap) xs a → LaidOut n (2 * cap) (4 * cap) xs b
      → GrownShelf EndOn n 0 (2 * cap) xs a xs₁ a₁ → GrownShelf (MarkOn A) n 0 (2 * cap) xs₁ a₁ xs₂ a₂
      → length xs₂ ≡ length xs → GrownShelf (MarkOn B) n (2 * cap) (4 * cap) xs₂ b xs₃ b₁
      → length xs₃ ≡ length xs₂ → GatheredSets n 0 (2 * cap) xs₃ a₂ xs₄ a₃
      → length xs₄ ≡ length xs₃ → GatheredSets n (2 * cap) (4 * cap) xs₄ b₁ xs₅ b₂
      → length xs₅ ≡ length xs₄ → (hits : Kind → Side → ℕ) → ((w : Kind) (u : Side) → hits w u ≡ 0)
      → Open all n cap xs₅ (books_of a₃ b₂) hits A
  seeded-open cap {xs₃ = xs₃} {xs₄ = xs₄} {xs₅ = xs₅} laid-a laid-b sown on_a e₂ on_b e₃ kept-a e₄ kept_b e₅ =
      let a-seeds = begun-beside (seeds-a cap laid-a sown on_a) xs₃ on_b.outside (inr (omega arith)) e₃ in
      let b-seeds = seeds-b cap (laid_beside cap laid-b sown on_a e₂) on_b in
      let a-kept = begun-beside (begun-gathered a-seeds kept-a) xs₅ kept_b.grown.outside (inr (omega arith)) e₅ in
      let b-kept = begun-gathered (begun-beside b-seeds xs₄ kept-a.grown.outside (inl (omega arith)) e₄) kept_b in
      begun-open cap a-kept b-kept kept-a.ready kept_b.ready

  -- no place for an end: nothing was there before
  pub sown-exceeds : {cap : ℕ} {xs a : List ℕ} → LaidOut n 0 (2 * cap) xs a
      → Jammed (λ p. Shelved xs a n p ⊎ EndOn p.track p.position) (2 * cap - 0) → EveryExceeds (given_in all) cap
  sown-exceeds laid j = seeds-exceed A (begun-laid laid) (λ j y p. absurd p) (λ p. end-cut) j

  -- no place for a mark on A: ends are there; none for one on B: nothing is there
  pub planted-exceeds-a : {cap : ℕ} {xs a ys a' : List ℕ} → LaidOut n 0 (2 * cap) xs a
      → GrownShelf EndOn n 0 (2 * cap) xs a ys a'
      → Jammed (λ p. Shelved ys a' n p ⊎ MarkOn A p.track p.position) (2 * cap - 0)
      → EveryExceeds (given_in all) cap
  planted-exceeds-a laid sown j =
      seeds-exceed A (begun-grown (begun-laid laid) sown) (λ j y. ⊎_elim (λ p. absurd p) end-cut) (λ p. mark-cut A) j

  pub planted-exceeds-b : {cap : ℕ} {xs b : List ℕ} → Begun (λ j y. ⊥) n (2 * cap) (4 * cap) xs b
      → Jammed (λ p. Shelved xs b n p ⊎ MarkOn B p.track p.position) (4 * cap - 2 * cap)
      → EveryExceeds (given_in all) cap
  planted-exceeds-b empty j = seeds-exceed B empty (λ j y p. absurd p) (λ p. mark-cut B) j
