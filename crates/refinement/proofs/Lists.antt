-- Lists as sets and as rising rows: what the theory needs of them, with no word of matches.
--     on-ite                   what holds of both branches of a test
--     ∈-filter, ∈-unfilter     the members that pass a test
--     ∈-flat_map, ∈-unflat_map   the members of joined lists
--     rising-append, rising-filter, rising-map, rising-weaken     lists that rise, made from lists that rise
--     pigeonhole               a list without repeats is no longer than one that contains it
--     rising-equal             two rising lists of equal length, one within the other, are equal
--     rising-same              two rising lists with the same members are equal
--     ∈-sort, ∈-unsort, length-sort, rising-sort     sorting moves elements, and yields a list that rises
-- Assumes nothing.
use Prim.Native.Nat.{suc, ◌≤◌}
use mathlib.Core.Path.{◌≡◌, refl, ap, sym, ◌∙◌}
use mathlib.Core.Logic.{◌⊎◌, inl, inr, ⊎_elim, ite, ◌≢◌}
use mathlib.Core.List.Memᴰ
use mathlib.Core.List.{List, [], ◌∷◌, ◌++◌, map, flat_map, filter}
use mathlib.Core.List.Memᴰ.{head as here}
use mathlib.Core.List.Memᴰ.{tail as there}
use native.Mathlib.Omega.{arith}
use lib.ListN.{length}
use Rattle.refinement.specs.Order.{◌∈◌, Rising, Distinct, insert_by, sort_by}

pub on-ite :
    {P C : Type 0} (Q : C → Type 0) (d : Dec P) {a b : C} → (P → Q a) → (¬ P → Q b) → Q (ite d a b)
on-ite Q (yes p) f g = f p
on-ite Q (no n) f g = g n

module _ {X Y : Type 0} (f : X → List Y) where
  pub ∈-flat_map : {x : X} {xs : List X} {y : Y} → x ∈ xs → y ∈ f x → y ∈ flat_map f xs
  unfolding flat_map
  ∈-flat_map {xs} (here {xs = zs} e) j = Memᴰ.append_left (flat_map f zs) (rw e at j)
  ∈-flat_map (there {x = z} i) j = Memᴰ.append_right (f z) (∈-flat_map i j)

  pub ∈-unflat_map : (xs : List X) {y : Y} → y ∈ flat_map f xs → (x : X) × (x ∈ xs) × (y ∈ f x)
  unfolding flat_map
  ∈-unflat_map [] j = absurd (Memᴰ.not-nil j)
  ∈-unflat_map (x ∷ xs) j =
      ⊎_elim (λ t. (x, here refl, t)) (λ t. let b = ∈-unflat_map xs t in (b.0, there b.1, b.2))
      (Memᴰ.append_cases (f x) j)

module _ {X : Type 0} where
  module _ {P : X → Type 0} (dec : (x : X) → Dec (P x)) where
    pub ∈-filter : {x : X} {xs : List X} → x ∈ xs → P x → x ∈ filter dec xs
    ∈-filter {x} (here {x = y} e) p = on-ite (λ l. x ∈ l) (dec y) (λ _. here e) (λ n. absurd (n (rw e at p)))
    ∈-filter {x} (there {x = y} h) p =
        let t = ∈-filter h p in on-ite (λ l. x ∈ l) (dec y) (λ _. there t) (λ _. t)

    pub ∈-unfilter : {x : X} (xs : List X) → x ∈ filter dec xs → (x ∈ xs) × P x
    ∈-unfilter [] h = absurd (Memᴰ.not-nil h)
    ∈-unfilter {x} (y ∷ ys) h =
        let below : x ∈ filter dec ys → (x ∈ (y ∷ ys)) × P x =
        λ t. let b = ∈-unfilter ys t in (there b.0, b.1)
        in
        on-ite (λ l. x ∈ l → (x ∈ (y ∷ ys)) × P x) (dec y)
        (λ p t. ⊎_elim (λ e. (here e, rw e p)) below (Memᴰ.cases_cons t)) (λ _. below) h

    pub rising-filter : (R : X → X → Type 0) (xs : List X) → Rising R xs → Rising R (filter dec xs)
    rising-filter R [] h = tt
    rising-filter R (x ∷ xs) h =
        let t = rising-filter R xs h.1 in
        on-ite (Rising R) (dec x) (λ _. (λ y m. h.0 y (∈-unfilter xs m).0, t)) (λ _. t)

  pub rising-append :
      (R : X → X → Type 0) (xs ys : List X) → Rising R xs → Rising R ys → ((x y : X) → x ∈ xs → y ∈ ys → R x y)
      → Rising R (xs ++ ys)
  rising-append R [] ys p q between = q
  rising-append R (x ∷ xs) ys p q between =
      let rest = rising-append R xs ys p.1 q (λ a b s t. between a b (there s) t) in
      (λ y m. ⊎_elim (p.0 y) (between x y (here refl)) (Memᴰ.append_cases xs m), rest)

  pub rising-weaken :
      (R S : X → X → Type 0) (xs : List X) → ((x y : X) → x ∈ xs → y ∈ xs → R x y → S x y) → Rising R xs → Rising S xs
  rising-weaken R S [] f h = tt
  rising-weaken R S (x ∷ xs) f h =
      let rest = rising-weaken R S xs (λ a b s t. f a b (there s) (there t)) h.1 in
      (λ y m. f x y (here refl) (there m) (h.0 y m), rest)

  pub rising-map :
      {Y : Type 0} (R : X → X → Type 0) (S : Y → Y → Type 0) (f : X → Y) (xs : List X)
      → ((x y : X) → x ∈ xs → y ∈ xs → R x y → S (f x) (f y)) → Rising R xs → Rising S (map f xs)
  rising-map R S f [] g h = tt
  rising-map R S f (x ∷ xs) g h = (
    λ y m. let b = Memᴰ.of_map f xs m in
        rw (← b.2) (g x b.0 (here refl) (there b.1) (h.0 b.0 b.1)),
    rising-map R S f xs (λ a b s t. g a b (there s) (there t)) h.1,
  )

  -- a list with one member taken out
  without : {x : X} {ys : List X} → x ∈ ys → List X
  without (here {xs = ys} e) = ys
  without (there {x = y} h) = y ∷ without h

  length_without : {x : X} {ys : List X} (h : x ∈ ys) → length ys ≡ suc (length (without h))
  unfolding without
  length_without (here e) = refl
  length_without (there h) = ap suc (length_without h)

  ∈-without : {x z : X} {ys : List X} (h : x ∈ ys) → x ≢ z → z ∈ ys → z ∈ without h
  unfolding without
  ∈-without (here e) n t = ⊎_elim (λ q. absurd (n (e ∙ sym q))) (λ q. q) (Memᴰ.cases_cons t)
  ∈-without (there h) n t = ⊎_elim here (λ q. there (∈-without h n q)) (Memᴰ.cases_cons t)

  pub pigeonhole : (xs ys : List X) → Distinct xs → ((x : X) → x ∈ xs → x ∈ ys) → length xs ≤ length ys
  pigeonhole [] ys d h = omega arith
  pigeonhole (x ∷ xs) ys d h =
      let m = h x (here refl) in
      omega
      (arith, length_without m, pigeonhole xs (without m) d.1 (λ z t. ∈-without m (d.0 z t) (h z (there t))))

  module _ (R : X → X → Type 0) (asym : (x y : X) → R x y → R y x → ⊥) where
    related-apart : (x y : X) → R x y → x ≢ y
    related-apart x y r e = let s : R y y = rw e at r in asym y y s s

    rising-distinct : (xs : List X) → Rising R xs → Distinct xs
    rising-distinct xs h = rising-weaken R ◌≢◌ xs (λ x y _ _ r. related-apart x y r) h

    pub rising-equal :
        (xs ys : List X) → Rising R xs → Rising R ys → ((x : X) → x ∈ xs → x ∈ ys) → length xs ≡ length ys → xs ≡ ys
    rising-equal [] [] p q h e = refl
    rising-equal [] (y ∷ ys) p q h e = absurd (omega arith)
    rising-equal (x ∷ xs) [] p q h e = absurd (omega arith)
    rising-equal (x ∷ xs) (y ∷ ys) p q h e =
        ⊎_elim
        (λ f.
        let past : (z : X) → z ∈ xs → z ∈ ys =
        λ z m.
        ⊎_elim (λ g. absurd (related-apart x z (p.0 z m) (f ∙ sym g))) (λ t. t)
        (Memᴰ.cases_cons (h z (there m)))
        in
        ap (◌∷ xs) f ∙ ap (y ∷◌) (rising-equal xs ys p.1 q.1 past (omega arith)))
        (λ i.
        let l : length (x ∷ xs) ≤ length ys =
        pigeonhole (x ∷ xs) ys (rising-distinct (x ∷ xs) p) (λ z m.
        ⊎_elim (λ g. absurd (clash i g (Memᴰ.cases_cons m))) (λ t. t) (Memᴰ.cases_cons (h z m)))
        in
        absurd (omega arith))
        (Memᴰ.cases_cons (h x (here refl)))
      where
        clash : {z : X} → x ∈ ys → z ≡ y → (z ≡ x) ⊎ (z ∈ xs) → ⊥
        clash i g (inl f) = related-apart y x (q.0 x i) (sym g ∙ f)
        clash {z} i g (inr m) = asym y x (q.0 x i) (rw g at (p.0 z m))

    pub rising-same :
        (xs ys : List X) → Rising R xs → Rising R ys → ((x : X) → x ∈ xs → x ∈ ys) → ((x : X) → x ∈ ys → x ∈ xs)
        → xs ≡ ys
    rising-same xs ys p q f g =
        rising-equal xs ys p q f
        (omega (arith, pigeonhole xs ys (rising-distinct xs p) f, pigeonhole ys xs (rising-distinct ys q) g))

  module _ (R : X → X → Type 0) (dec : (x y : X) → Dec (R x y)) where
    ∈-insert : (x : X) (ys : List X) {z : X} → (z ≡ x) ⊎ (z ∈ ys) → z ∈ insert_by dec x ys
    unfolding insert_by
    ∈-insert x [] h = ⊎_elim here there h
    ∈-insert x (y ∷ ys) {z} h =
        on-ite (λ l. z ∈ l) (dec x y) (λ _. ⊎_elim here there h)
        (λ _.
        ⊎_elim (λ e. there (∈-insert x ys (inl e)))
        (λ t. ⊎_elim here (λ j. there (∈-insert x ys (inr j))) (Memᴰ.cases_cons t)) h)

    ∈-uninsert : (x : X) (ys : List X) {z : X} → z ∈ insert_by dec x ys → (z ≡ x) ⊎ (z ∈ ys)
    unfolding insert_by
    ∈-uninsert x [] h = Memᴰ.cases_cons h
    ∈-uninsert x (y ∷ ys) {z} h =
        on-ite (λ l. z ∈ l → (z ≡ x) ⊎ (z ∈ (y ∷ ys))) (dec x y) (λ _ t. Memᴰ.cases_cons t)
        (λ _ t.
        ⊎_elim (λ e. inr (here e)) (λ j. ⊎_elim inl (λ k. inr (there k)) (∈-uninsert x ys j)) (Memᴰ.cases_cons t))
        h

    length-insert : (x : X) (ys : List X) → length (insert_by dec x ys) ≡ suc (length ys)
    unfolding insert_by
    length-insert x [] = refl
    length-insert x (y ∷ ys) =
        on-ite (λ (l : List X). length l ≡ suc (suc (length ys))) (dec x y) (λ _. refl)
        (λ _. ap suc (length-insert x ys))

    pub ∈-sort : {z : X} {xs : List X} → z ∈ xs → z ∈ sort_by dec xs
    unfolding sort_by
    ∈-sort (here {x = x} {xs = xs} e) = ∈-insert x (sort_by dec xs) (inl e)
    ∈-sort (there {x = x} {xs = xs} h) = ∈-insert x (sort_by dec xs) (inr (∈-sort h))

    pub ∈-unsort : {z : X} (xs : List X) → z ∈ sort_by dec xs → z ∈ xs
    unfolding sort_by
    ∈-unsort [] h = h
    ∈-unsort (x ∷ xs) h = ⊎_elim here (λ t. there (∈-unsort xs t)) (∈-uninsert x (sort_by dec xs) h)

    pub length-sort : (xs : List X) → length (sort_by dec xs) ≡ length xs
    unfolding sort_by
    length-sort [] = refl
    length-sort (x ∷ xs) = length-insert x (sort_by dec xs) ∙ ap suc (length-sort xs)

    module _ (trans : (x y z : X) → R x y → R y z → R x z) where
      rising-insert :
          (x : X) (ys : List X) → ((y : X) → y ∈ ys → R x y ⊎ R y x) → Rising R ys → Rising R (insert_by dec x ys)
      unfolding insert_by
      rising-insert x [] apart h = (λ z t. absurd (Memᴰ.not-nil t), tt)
      rising-insert x (y ∷ ys) apart h =
          on-ite (Rising R) (dec x y)
          (λ r. (λ z m. ⊎_elim (λ e. rw e r) (λ t. trans x y z r (h.0 z t)) (Memᴰ.cases_cons m), h))
          (λ n.
          let r : R y x = ⊎_elim (λ r. absurd (n r)) (λ r. r) (apart y (here refl)) in (
            λ z m. ⊎_elim (λ e. rw e r) (h.0 z) (∈-uninsert x ys m),
            rising-insert x ys (λ z t. apart z (there t)) h.1,
          ))

      -- elements of which each two stand one way or the other
      pub rising-sort : (xs : List X) → Rising (λ x y. R x y ⊎ R y x) xs → Rising R (sort_by dec xs)
      unfolding sort_by
      rising-sort [] h = tt
      rising-sort (x ∷ xs) h = rising-insert x (sort_by dec xs) (λ y t. h.0 y (∈-unsort xs t)) (rising-sort xs h.1)
