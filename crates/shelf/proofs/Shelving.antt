-- Laws of sets that stand side by side, for the crates above.
--     grown-same, stored-grown, gathered-grown        what nothing changed has grown; storing and gathering are growing
--     grown-then, grown-wide, grown-as                growing twice; by numbers of a wider kind, or of the same
--     shelf-none, shelf-then, shelf-wide, shelf-as    the same of all sets
--     good-is, base_is, limit_is      what is known of a set holds of one that is the same
--     others_same, shelf-outside      what a change in the part of one set leaves as it was
--     shelf-moved, set-moved      one set is changed, in places between its neighbours: a shelf, and how it has grown
--     shelf-kept, set_grown       the same of a set that stands where it stood
--     filled-most, filled_same, filled-grown, filled-lt, filled_more     how many places hold gathered members
--     jammed, jammed-as           every place holds a member, and there is one number more; the same of a wider kind
-- Assumes nothing.
use Prim.Native.Nat.{ℕ, zero, suc, ◌+◌, ◌-◌, ◌≤◌, ◌<◌}
use native.Mathlib.Omega.{arith}
use native.Mathlib.Decide.{dec_lt, ℕ_discrete}
use mathlib.Core.Path.{◌≡◌, refl, sym, ap, ◌∙◌}
use mathlib.Core.List.Memᴰ
use mathlib.Core.List.{List, [], ◌∷◌}
use mathlib.Core.Logic.Iff
use mathlib.Core.Logic.{◌↔◌, ◌⊎◌, inl, inr, ⊎_elim, ◌≢◌}
use lib.ListN.{length, get_or}
use Rattle.refinement.specs.Order.{◌∈◌, Distinct}
use Rattle.refinement.specs.Match.{Place}
use Rattle.runs.specs.Runs.{In, DistinctIn, Same}
use Rattle.runs.proofs.Membership.{in-wide, in-same}
use Rattle.cut_set.specs.Store.{Good, Member, Stored, Gathered}
use Rattle.cut_set.specs.declared.CutSet.{CutSet}
use Rattle.cut_set.proofs.Gathering.{base_done, base-fresh, used-limit}
use Rattle.cut_set.proofs.Laws.{done-used, good-same}
use Rattle.shelf.specs.Shelf.{set_at, Outside, Shelf, filled, Grown, GrownShelf, Saved, Jammed, Shelved}

pub grown-same : (xs ys : List ℕ) {s : CutSet} → Good xs s → Same xs ys s.base s.limit → Grown (λ y. ⊥) xs s ys s
grown-same xs ys {s} g same = record {
  finished = λ y. (back (omega arith) done-limit, forth (omega arith) done-limit);
  stays = λ y. forth (omega arith) (used-limit g);
  run_kept = λ y. forth (base_done g) fresh-limit;
  only = λ y p. inl (back (base_done g) (used-limit g) p);
  held = λ y p. absurd p;
  more = omega arith;
  done_same = refl;
}
  where
    done-limit : s.done ≤ s.limit
    done-limit = omega (arith, done-used g, used-limit g)

    fresh-limit : s.fresh ≤ s.limit
    fresh-limit = omega (arith, g.added, used-limit g)

    forth : {lo hi y : ℕ} → s.base ≤ lo → hi ≤ s.limit → In xs lo hi y → In ys lo hi y
    forth l h p = in-same (λ k a b. same k (omega arith) (omega arith)) p

    back : {lo hi y : ℕ} → s.base ≤ lo → hi ≤ s.limit → In ys lo hi y → In xs lo hi y
    back l h p = in-same (λ k a b. sym (same k (omega arith) (omega arith))) p

pub stored-grown : {P : ℕ → Type 0} {xs ys : List ℕ} {s t : CutSet} → Stored P xs s ys t → Grown P xs s ys t
stored-grown p = record {
  finished = p.finished;
  stays = p.stays;
  run_kept = p.run_kept;
  only = p.only;
  held = p.held;
  more = omega (arith, p.base_same, p.more);
  done_same = omega (arith, p.base_same, p.done_same);
}

pub gathered-grown : {xs ys : List ℕ} {s t : CutSet} → Gathered xs s ys t → Grown (λ y. ⊥) xs s ys t
gathered-grown g = record {
  finished = g.finished;
  stays = λ y m. (g.kept.members y).1 m;
  run_kept = g.run_kept;
  only = λ y m. inl (g.only y m);
  held = λ y p. absurd p;
  more = omega (arith, g.kept.base_same, g.more);
  done_same = omega (arith, g.kept.base_same, g.done_same);
}

pub grown-then : {P Q : ℕ → Type 0} {xs ys zs : List ℕ} {s t u : CutSet} → Grown P xs s ys t → Grown Q ys t zs u →
    Grown (λ y. P y ⊎ Q y) xs s zs u
grown-then p q = record {
  finished = λ y. Iff.trans (q.finished y) (p.finished y);
  stays = λ y m. q.stays y (p.stays y m);
  run_kept = λ y m. q.run_kept y (p.run_kept y m);
  only = λ y m. ⊎_elim (λ f. ⊎_elim inl (λ h. inr (inl h)) (p.only y f)) (λ h. inr (inr h)) (q.only y m);
  held = λ y h. ⊎_elim (λ h'. q.stays y (p.held y h')) (q.held y) h;
  more = omega (arith, p.more, q.more);
  done_same = q.done_same ∙ p.done_same;
}

pub grown-wide : {P Q : ℕ → Type 0} {xs ys : List ℕ} {s t : CutSet} → Grown P xs s ys t → ((y : ℕ) → P y → Q y) →
    ((y : ℕ) → Q y → Member ys t y) → Grown Q xs s ys t
grown-wide p wide held = record {
  finished = p.finished;
  stays = p.stays;
  run_kept = p.run_kept;
  only = λ y m. ⊎_elim inl (λ h. inr (wide y h)) (p.only y m);
  held = held;
  more = p.more;
  done_same = p.done_same;
}

pub grown-as : {P Q : ℕ → Type 0} {xs ys : List ℕ} {s t : CutSet} → Grown P xs s ys t → ((y : ℕ) → P y ↔ Q y) →
    Grown Q xs s ys t
grown-as p e = grown-wide p (λ y. (e y).0) (λ y h. p.held y ((e y).1 h))

pub shelf-none : {n lo hi : ℕ} {xs b : List ℕ} → Shelf xs b n lo hi → GrownShelf (λ i y. ⊥) n lo hi xs b xs b
shelf-none {xs = xs} s = record {
  shelf = s;
  sets = λ j l. grown-same xs xs (s.good j l) (λ k a b. refl);
  outside = λ k o. refl;
}

pub shelf-then : {P Q : ℕ → ℕ → Type 0} {n lo hi : ℕ} {xs b ys b' zs b'' : List ℕ} →
    GrownShelf P n lo hi xs b ys b' → GrownShelf Q n lo hi ys b' zs b'' →
    GrownShelf (λ i y. P i y ⊎ Q i y) n lo hi xs b zs b''
shelf-then p q = record {
  shelf = q.shelf;
  sets = λ j l. grown-then (p.sets j l) (q.sets j l);
  outside = λ k o. q.outside k o ∙ p.outside k o;
}

pub shelf-wide : {P Q : ℕ → ℕ → Type 0} {n lo hi : ℕ} {xs b ys b' : List ℕ} → GrownShelf P n lo hi xs b ys b' →
    ((i y : ℕ) → P i y → Q i y) → ((i y : ℕ) → Q i y → Member ys (set_at b' i) y) → GrownShelf Q n lo hi xs b ys b'
shelf-wide p wide held = record {
  shelf = p.shelf;
  sets = λ j l. grown-wide (p.sets j l) (wide j) (held j);
  outside = p.outside;
}

pub shelf-as : {P Q : ℕ → ℕ → Type 0} {n lo hi : ℕ} {xs b ys b' : List ℕ} → GrownShelf P n lo hi xs b ys b' →
    ((i : ℕ) → i < n → (y : ℕ) → P i y ↔ Q i y) → GrownShelf Q n lo hi xs b ys b'
shelf-as p e = record {
  shelf = p.shelf;
  sets = λ j l. grown-as (p.sets j l) (e j l);
  outside = p.outside;
}

-- what is known of a set holds of one that is the same
pub good-is : {xs : List ℕ} {s t : CutSet} → s ≡ t → Good xs t → Good xs s
good-is e g = rw e g

grown-is : {P : ℕ → Type 0} {xs ys : List ℕ} {s t u : CutSet} → t ≡ u → Grown P xs s ys u → Grown P xs s ys t
grown-is e g = rw e g

pub base_is : {s t : CutSet} → s ≡ t → s.base ≡ t.base
base_is e = ap (λ s. s.base) e

pub limit_is : {s t : CutSet} → s ≡ t → s.limit ≡ t.limit
limit_is e = ap (λ s. s.limit) e

-- the set number j is t now
saved-here : {b b' : List ℕ} {i j : ℕ} {t : CutSet} → Saved b j t b' → i ≡ j → set_at b' i ≡ t
saved-here saved e = rw e saved.here

-- nothing has changed outside of the part of the set number j
module _ (xs ys : List ℕ) {b : List ℕ} {n lo hi j : ℕ} (s : Shelf xs b n lo hi) (in-book : j < n)
    (apart : Outside (set_at b j).base (set_at b j).limit xs ys) where
  pub others_same : (i : ℕ) → i < n → i ≢ j → Same xs ys (set_at b i).base (set_at b i).limit
  others_same i l u = same (dec_lt i j)
    where
      same : Dec (i < j) → Same xs ys (set_at b i).base (set_at b i).limit
      same (yes h) k low high = apart k (inl (omega (arith, s.order i j h in-book)))
      same (no h) k low high = apart k (inr (omega (arith, s.order j i (omega arith) l)))

  pub shelf-outside : Outside lo hi xs ys
  shelf-outside k = ⊎_elim (λ h. apart k (inl (omega (arith, s.from j in-book))))
      (λ h. apart k (inr (omega (arith, s.to j in-book))))

-- the set number j is t now, and the lists are as long as they were
module _ {xs b ys b' : List ℕ} {n lo hi j : ℕ} {t : CutSet} (s : Shelf xs b n lo hi) (in-book : j < n)
    (good : Good ys t) (saved : Saved b j t b') (length_work : length ys ≡ length xs)
    (length_book : length b' ≡ length b) where
  -- it stands between the same neighbours, and no other set's numbers have changed
  pub shelf-moved : lo ≤ t.base → t.limit ≤ hi →
      ((i : ℕ) → i < j → (set_at b i).limit ≤ t.base) → ((i : ℕ) → j < i → i < n → t.limit ≤ (set_at b i).base) →
      ((i : ℕ) → i < n → i ≢ j → Same xs ys (set_at b i).base (set_at b i).limit) → Shelf ys b' n lo hi
  shelf-moved from to lower upper same = record {
    book = length_book ∙ s.book;
    good = λ i l. good-at i l (ℕ_discrete i j);
    from = λ i l. from_at i l (ℕ_discrete i j);
    to = λ i l. to_at i l (ℕ_discrete i j);
    order = λ i k u l. order-at i k u l (ℕ_discrete i j) (ℕ_discrete k j);
    part = s.part;
    within = omega (arith, length_work, s.within);
  }
    where
      good-at : (i : ℕ) → i < n → Dec (i ≡ j) → Good ys (set_at b' i)
      good-at i l (yes e) = good-is (saved-here saved e) good
      good-at i l (no u) = good-is (saved.others i u) (good-same xs ys (same i l u) length_work (s.good i l))

      from_at : (i : ℕ) → i < n → Dec (i ≡ j) → lo ≤ (set_at b' i).base
      from_at i l (yes e) = omega (arith, base_is (saved-here saved e))
      from_at i l (no u) = omega (arith, base_is (saved.others i u), s.from i l)

      to_at : (i : ℕ) → i < n → Dec (i ≡ j) → (set_at b' i).limit ≤ hi
      to_at i l (yes e) = omega (arith, limit_is (saved-here saved e))
      to_at i l (no u) = omega (arith, limit_is (saved.others i u), s.to i l)

      order-at : (i k : ℕ) → i < k → k < n → Dec (i ≡ j) → Dec (k ≡ j) → (set_at b' i).limit ≤ (set_at b' k).base
      order-at i k u l (yes e) (yes f) = absurd (omega arith)
      order-at i k u l (yes e) (no v) =
          omega (arith, limit_is (saved-here saved e), base_is (saved.others k v), upper k (omega arith) l)
      order-at i k u l (no v) (yes f) =
          omega (arith, limit_is (saved.others i v), base_is (saved-here saved f), lower i (omega arith))
      order-at i k u l (no v) (no w) =
          omega (arith, limit_is (saved.others i v), base_is (saved.others k w), s.order i k u l)

  -- it stands where it stood
  pub shelf-kept : t.base ≡ (set_at b j).base → t.limit ≡ (set_at b j).limit →
      Outside (set_at b j).base (set_at b j).limit xs ys → Shelf ys b' n lo hi
  shelf-kept base limit apart = shelf-moved
      (omega (arith, base, s.from j in-book))
      (omega (arith, limit, s.to j in-book))
      (λ i l. omega (arith, base, s.order i j l in-book))
      (λ i l u. omega (arith, limit, s.order j i l u))
      (others_same xs ys s in-book apart)

-- besides, the set has grown
module _ {P : ℕ → Type 0} {xs b ys b' : List ℕ} {n lo hi j : ℕ} {t : CutSet} (s : Shelf xs b n lo hi) (in-book : j < n)
    (good : Good ys t) (grown : Grown P xs (set_at b j) ys t) (saved : Saved b j t b')
    (length_work : length ys ≡ length xs) (length_book : length b' ≡ length b) where
  grown-at : ((i : ℕ) → i < n → i ≢ j → Same xs ys (set_at b i).base (set_at b i).limit) → (i : ℕ) → i < n →
      Dec (i ≡ j) → Grown (λ y. (i ≡ j) × P y) xs (set_at b i) ys (set_at b' i)
  grown-at same i l (yes e) =
      grown-is (saved-here saved e) (grown-as (rw e grown) (λ y. ((λ p. (e, p)), (λ p. p.1))))
  grown-at same i l (no u) = grown-is (saved.others i u)
      (grown-as (grown-same xs ys (s.good i l) (same i l u)) (λ y. ((λ p. absurd p), (λ p. absurd (u p.0)))))

  pub set-moved : lo ≤ t.base → t.limit ≤ hi →
      ((i : ℕ) → i < j → (set_at b i).limit ≤ t.base) → ((i : ℕ) → j < i → i < n → t.limit ≤ (set_at b i).base) →
      ((i : ℕ) → i < n → i ≢ j → Same xs ys (set_at b i).base (set_at b i).limit) → Outside lo hi xs ys →
      GrownShelf (λ i y. (i ≡ j) × P y) n lo hi xs b ys b'
  set-moved from to lower upper same outside = record {
    shelf = shelf-moved s in-book good saved length_work length_book from to lower upper same;
    sets = λ i l. grown-at same i l (ℕ_discrete i j);
    outside = outside;
  }

  pub set_grown : t.base ≡ (set_at b j).base → t.limit ≡ (set_at b j).limit →
      Outside (set_at b j).base (set_at b j).limit xs ys → GrownShelf (λ i y. (i ≡ j) × P y) n lo hi xs b ys b'
  set_grown base limit apart = record {
    shelf = shelf-kept s in-book good saved length_work length_book base limit apart;
    sets = λ i l. grown-at (others_same xs ys s in-book apart) i l (ℕ_discrete i j);
    outside = shelf-outside xs ys s in-book apart;
  }

-- how many places of the set number j hold gathered members
abbrev pub size_at : List ℕ → ℕ → ℕ
size_at b j = (set_at b j).fresh - (set_at b j).base

-- the gathered members of the first k sets stand before all later ones
filled-to : {xs b : List ℕ} {n lo hi : ℕ} → Shelf xs b n lo hi → (k m : ℕ) → k ≤ n → lo ≤ m →
    ((i : ℕ) → i < k → (set_at b i).limit ≤ m) → lo + filled b k ≤ m
filled-to s zero m l o f = omega arith
filled-to {b = b} s (suc k) m l o f =
    let g = s.good k (omega arith) in
    let before = filled-to s k (set_at b k).base (omega arith) (s.from k (omega arith))
    (λ i h. s.order i k h (omega arith))
    in
    omega (arith, before, base-fresh g, g.added, used-limit g, f k (omega arith))

pub filled-most : {xs b : List ℕ} {n lo hi : ℕ} → Shelf xs b n lo hi → filled b n ≤ hi - lo
filled-most {b = b} {n} {lo} {hi} s = omega (arith, filled-to s n hi (omega arith) s.part s.to)

filled-le : (b b' : List ℕ) (n : ℕ) → ((j : ℕ) → j < n → size_at b j ≤ size_at b' j) → filled b n ≤ filled b' n
filled-le b b' zero f = omega arith
filled-le b b' (suc n) f =
    omega (arith, filled-le b b' n (λ j l. f j (omega arith)), f n (omega arith))

pub filled_same : (b b' : List ℕ) (n : ℕ) → ((j : ℕ) → j < n → size_at b' j ≡ size_at b j) → filled b' n ≡ filled b n
filled_same b b' n f = omega (
  arith,
  filled-le b b' n (λ j l. omega (arith, f j l)),
  filled-le b' b n (λ j l. omega (arith, f j l)),
)

pub filled-grown : {P : ℕ → ℕ → Type 0} {n lo hi : ℕ} {xs b ys b' : List ℕ} → GrownShelf P n lo hi xs b ys b' →
    filled b n ≤ filled b' n
filled-grown {n = n} {b = b} {b' = b'} g = filled-le b b' n (λ j l. (g.sets j l).more)

pub filled-lt : (b b' : List ℕ) (n : ℕ) → ((j : ℕ) → j < n → size_at b j ≤ size_at b' j) →
    (j : ℕ) → j < n → size_at b j < size_at b' j → filled b n < filled b' n
filled-lt b b' zero f j l h = absurd (omega arith)
filled-lt b b' (suc n) f j l h = go (ℕ_discrete j n) (λ u. filled-lt b b' n (λ i v. f i (omega arith)) j u h)
  where
    go : Dec (j ≡ n) → (j < n → filled b n < filled b' n) → filled b (suc n) < filled b' (suc n)
    go (yes e) later =
        let h' : size_at b n < size_at b' n = rw (← e) h in
        omega (arith, filled-le b b' n (λ i v. f i (omega arith)), h')
    go (no u) later = omega (arith, later (omega arith), f n (omega arith))

pub filled_more : {P : ℕ → ℕ → Type 0} {n lo hi : ℕ} {xs b ys b' : List ℕ} → GrownShelf P n lo hi xs b ys b' →
    (j : ℕ) → j < n → (set_at b j).fresh - (set_at b j).base < (set_at b' j).fresh - (set_at b' j).base →
    filled b n < filled b' n
filled_more {n = n} {b = b} {b' = b'} g j l h = filled-lt b b' n (λ i u. (g.sets i u).more) j l h

-- the numbers at n places from at on, as positions of the track k, before what else there is
abbrev placed : List ℕ → ℕ → ℕ → ℕ → List Place → List Place
placed xs k at zero rest = rest
placed xs k at (suc n) rest = record { track = k; position = get_or xs at 0 } ∷ placed xs k (suc at) n rest

-- p is one of these
record Among (xs : List ℕ) (k lo hi : ℕ) (p : Place) : Type 0 where
  track_is : p.track ≡ k
  stands : In xs lo hi p.position

placed-in : (xs : List ℕ) (k at n : ℕ) {rest : List Place} {p : Place} → p ∈ placed xs k at n rest →
    Among xs k at (at + n) p ⊎ (p ∈ rest)
placed-in xs k at zero m = inr m
placed-in xs k at (suc n) m = ⊎_elim
    (λ e. inl (record {
      track_is = ap (λ p. p.track) e;
      stands = record { place = at; from = omega arith; below = omega arith; is = sym (ap (λ p. p.position) e) };
    }))
    (λ q. ⊎_elim
    (λ a. inl (record { track_is = a.track_is; stands = in-wide (omega arith) (omega arith) a.stands }))
    inr
    (placed-in xs k (suc at) n q))
    (Memᴰ.cases_cons m)

placed-distinct : (xs : List ℕ) (k at n : ℕ) {rest : List Place} → DistinctIn xs at (at + n) → Distinct rest →
    ((p : Place) → p ∈ rest → p.track < k) → Distinct (placed xs k at n rest)
placed-distinct xs k at zero d r f = r
placed-distinct xs k at (suc n) {rest} d r f = (
  λ p m e. ⊎_elim
      (λ (a : Among xs k (suc at) (suc at + n) p). let i = a.stands in
      let same : at ≡ i.place = d at i.place (omega arith) (omega arith) (omega (arith, i.from))
      (omega (arith, i.below)) (ap (λ q. q.position) e ∙ sym i.is)
      in
      omega (arith, i.from))
      (λ (q : p ∈ rest). omega (arith, f p q, ap (λ q. q.track) e))
      (placed-in xs k (suc at) n m),
  placed-distinct xs k (suc at) n (λ i j a u b v. d i j (omega arith) (omega arith) (omega arith) (omega arith)) r f,
)

placed-length : (xs : List ℕ) (k at n : ℕ) (rest : List Place) → length (placed xs k at n rest) ≡ n + length rest
placed-length xs k at zero rest = omega arith
placed-length xs k at (suc n) rest = omega (arith, placed-length xs k (suc at) n rest)

-- the gathered members of the first n sets
abbrev shelved_of : List ℕ → List ℕ → ℕ → List Place
shelved_of xs b zero = []
shelved_of xs b (suc k) = placed xs k (set_at b k).base ((set_at b k).fresh - (set_at b k).base) (shelved_of xs b k)

module _ {xs b : List ℕ} {n lo hi : ℕ} (s : Shelf xs b n lo hi) where
  fresh_is : (k : ℕ) → k < n → (set_at b k).base + size_at b k ≡ (set_at b k).fresh
  fresh_is k l = omega (arith, base-fresh (s.good k l))

  shelved-in : (k : ℕ) → k ≤ n → (p : Place) → p ∈ shelved_of xs b k → (p.track < k) × Shelved xs b n p
  shelved-in zero l p m = absurd (Memᴰ.not-nil m)
  shelved-in (suc k) l p m = ⊎_elim
      (λ a. (omega (arith, a.track_is), here a))
      (λ q. let before = shelved-in k (omega arith) p q in (omega (arith, before.0), before.1))
      (placed-in xs k (set_at b k).base (size_at b k) m)
    where
      here : Among xs k (set_at b k).base ((set_at b k).base + size_at b k) p → Shelved xs b n p
      here a = record {
        set = omega (arith, a.track_is);
        member = rw a.track_is
            (in-wide (omega arith) (omega (arith, fresh_is k l, (s.good k l).added)) a.stands);
      }

  shelved-distinct : (k : ℕ) → k ≤ n → Distinct (shelved_of xs b k)
  shelved-distinct zero l = tt
  shelved-distinct (suc k) l = placed-distinct xs k (set_at b k).base (size_at b k)
      (rw (fresh_is k l) (s.good k l).distinct) (shelved-distinct k (omega arith))
      (λ p m. (shelved-in k (omega arith) p m).0)

  shelved-length : (k : ℕ) → length (shelved_of xs b k) ≡ filled b k
  shelved-length zero = refl
  shelved-length (suc k) =
      omega (arith, placed-length xs k (set_at b k).base (size_at b k) (shelved_of xs b k), shelved-length k)

  pub jammed : {j x : ℕ} → filled b n ≡ hi - lo → (Member xs (set_at b j) x → ⊥) →
      Jammed (λ p. Shelved xs b n p ⊎ (p ≡ record { track = j; position = x })) (hi - lo)
  jammed {j} {x} full absent = record {
    list = record { track = j; position = x } ∷ shelved_of xs b n;
    distinct = (
      λ p m e. absent (rw (← e) at (shelved-in n (omega arith) p m).1.member),
      shelved-distinct n (omega arith),
    );
    all = λ p m. ⊎_elim inr (λ q. inl (shelved-in n (omega arith) p q).1) (Memᴰ.cases_cons m);
    more = ap suc (shelved-length n ∙ full);
  }

pub jammed-as : {P Q : Place → Type 0} {places : ℕ} → ((p : Place) → P p → Q p) → Jammed P places → Jammed Q places
jammed-as wide j = record {
  list = j.list;
  distinct = j.distinct;
  all = λ p m. wide p (j.all p m);
  more = j.more;
}
