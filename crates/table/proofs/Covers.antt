-- The letters that rows cover: what is worked out by hand is the number of them, each counted once.
--     covered-iff                  the test says whether a letter is in at least one row's stretch
--     covered_more                 the test with one more row
--     cover-tally                  what is worked out by hand, as a tally of the test
--     cover-counted, letters-once  so it is the number of letters in at least one row's stretch, on each side
--     counted-alike                letters that are told by another test as well are as many
--     covers-same                  rows that cover the same letters cover as many ..
--     cover-order                  .. and so do the same rows in every order
--     cover-at-most                no more letters than lie before the furthest right end
-- Assumes nothing.
use Prim.Native.Nat.{ℕ, ◌+◌, ◌≤◌, ◌<◌, max}
use mathlib.Core.Bool.{Bool, true, false, cond, and-false, or-false, or_assoc, ◌&&◌, ◌||◌}
use mathlib.Core.Logic.{◌↔◌, ◌⊎◌, inl, inr, ⊎_elim}
use mathlib.Core.Path.{◌≡◌, refl, sym, ap, ◌∙◌}
use mathlib.Core.List.Memᴰ
use mathlib.Core.List.{List, [], ◌∷◌, ◌++◌, Permᴰ}
use mathlib.Core.List.Memᴰ.{head as here}
use mathlib.Core.List.Memᴰ.{tail as there}
use native.Mathlib.Omega.{arith}
use native.Mathlib.Decide.{dec_lt}
use native.Mathlib.Nat.{le_trans, le-max_left, le-max_right, max-le}
use borrow.Author.Tests.{ltb-true, leb-true, le-leb, lt-leb}
use lib.ListN.{length, take}
use lib.Dec.{leb}
use Rattle.refinement.specs.declared.Side.{Side}
use Rattle.refinement.specs.declared.Side.TheVariants.{A, B}
use Rattle.refinement.specs.Order.{◌∈◌, Rising, sort_by}
use Rattle.refinement.proofs.Lists.{∈-sort, ∈-unsort, rising-sort}
use Rattle.rows.specs.Rows.{row_at}
use Rattle.rows.specs.declared.Row.{Row}
use Rattle.rows.proofs.TableRows.{take_more}
use Rattle.table.specs.Covering.{left_of, right_of, not_past?, letters_from, cover_of}
use Rattle.table.specs.Covering.{CountedOnce, InStretch, Covered, LettersOnce}
use Rattle.table.specs.Tally.{within, is_covered, tally}
use Rattle.table.proofs.Pieces.{false_of, bool_same, and_left, and_right, or_right, or_cases, or_turned}
use Rattle.table.proofs.Tally.{tally-agrees, tally-joined, tally-empty, tally-within, tally-at-most}
use Rattle.table.proofs.Tally.{tally-counts}
use Rattle.table.proofs.Tally.{within-true, within-before, within-behind}

-- of the letters behind h₀, those from l to e are apart from those behind e, if what is tested lies behind l
parted-numbers : (h₀ l e h : ℕ) (b : Bool) → (h < l → b ≡ false)
    → cond (within (max h₀ l) e h) 1 0 + cond (leb (max h₀ e) h && b) 1 0 ≡ cond (leb h₀ h && (within l e h || b)) 1 0
parted-numbers h₀ l e h b before =
    let low = le-max_left h₀ l in
    let left = le-max_right h₀ l in
    let high = le-max_left h₀ e in
    let right = le-max_right h₀ e in
    elim (dec_lt h h₀) [
      | yes t ↦
          rw (within-before (max h₀ l) e h (omega arith), lt-leb (max h₀ e) h (omega arith), lt-leb h₀ h t)
      | no t ↦
          elim (dec_lt h l) [
            | yes u ↦
                rw (
                  within-before (max h₀ l) e h (omega arith),
                  before u,
                  within-before l e h u,
                  and-false (leb (max h₀ e) h),
                  and-false (leb h₀ h),
                )
            | no u ↦
                elim (dec_lt h e) [
                  | yes v ↦
                      rw (
                        within-true (max h₀ l) e h (max-le (omega arith) (omega arith)) v,
                        lt-leb (max h₀ e) h (omega arith),
                        within-true l e h (omega arith) v,
                        le-leb h₀ h (omega arith),
                      )
                  | no v ↦
                      rw (
                        within-behind (max h₀ l) e h (omega arith),
                        le-leb (max h₀ e) h (max-le (omega arith) (omega arith)),
                        within-behind l e h (omega arith),
                        le-leb h₀ h (omega arith),
                      )
                      (omega arith)
                ]
          ]
    ]

-- letters such that P are letters such that Q, and the other way round
pub counted-alike : {P Q : ℕ → Type 0} {n : ℕ} → ((h : ℕ) → P h ↔ Q h) → CountedOnce P n → CountedOnce Q n
counted-alike same c =
    record {
      letters = c.letters;
      once = c.once;
      just = λ h. (λ i. (same h).0 ((c.just h).0 i), λ o. (c.just h).1 ((same h).1 o));
      many = c.many;
      every = λ hs once just. c.every hs once (λ h. (λ i. (same h).1 ((just h).0 i), λ o. (just h).1 ((same h).0 o)));
    }

module _ (s : Side) where
  -- ---- the test

  in-stretch : (r : Row) (h : ℕ) → within (left_of s r) (right_of s r) h ≡ true → InStretch s r h
  in-stretch r h e =
      record {
        from_left = leb-true (left_of s r) h (and_left (leb (left_of s r) h) _ e);
        before_right = ltb-true h (right_of s r) (and_right (leb (left_of s r) h) _ e);
      }

  covered_of : (rs : List Row) (h : ℕ) → is_covered s rs h ≡ true → Covered s rs h
  unfolding is_covered
  covered_of [] h e = absurd (let never : ◌≡◌ {A = ℕ} 0 1 = cc in omega arith)
  covered_of (r ∷ rs) h e =
      ⊎_elim (λ t. record { row = r; among = here refl; inside = in-stretch r h t })
      (λ t. let c = covered_of rs h t in record { row = c.row; among = there c.among; inside = c.inside })
      (or_cases (within (left_of s r) (right_of s r) h) (is_covered s rs h) e)

  covered-by : {r : Row} (rs : List Row) (h : ℕ) → r ∈ rs → InStretch s r h → is_covered s rs h ≡ true
  unfolding is_covered
  covered-by rs h (here {x = q} e) i = rw (← e) (rw (within-true _ _ h i.from_left i.before_right))
  covered-by rs h (there {x = q} {xs = qs} m) i =
      or_right (within (left_of s q) (right_of s q) h) (is_covered s qs h) (covered-by qs h m i)

  pub covered-iff : (rs : List Row) (h : ℕ) → (is_covered s rs h ≡ true) ↔ Covered s rs h
  covered-iff rs h = (covered_of rs h, λ c. covered-by rs h c.among c.inside)

  covered-append : (rs : List Row) (r : Row) (h : ℕ)
      → is_covered s (rs ++ r ∷ []) h ≡ (is_covered s rs h || within (left_of s r) (right_of s r) h)
  unfolding is_covered
  covered-append [] r h = or-false (within (left_of s r) (right_of s r) h)
  covered-append (q ∷ rs) r h =
      ap (λ (b : Bool). within (left_of s q) (right_of s q) h || b) (covered-append rs r h)
      ∙ sym (or_assoc (within (left_of s q) (right_of s q) h) (is_covered s rs h) (within (left_of s r) (right_of s r) h))

  pub covered_more : (rs : List Row) (k h : ℕ) → k < length rs
      → is_covered s (take (k + 1) rs) h
      ≡ (is_covered s (take k rs) h || within (left_of s (row_at rs k)) (right_of s (row_at rs k)) h)
  covered_more rs k h inside = rw (take_more rs k inside) (covered-append (take k rs) (row_at rs k) h)

  covered-alike : (rs ss : List Row) (h : ℕ) → (Covered s rs h → Covered s ss h) → (Covered s ss h → Covered s rs h)
      → is_covered s rs h ≡ is_covered s ss h
  covered-alike rs ss h f g =
      bool_same (is_covered s rs h) (is_covered s ss h)
      (λ e. (covered-iff ss h).1 (f ((covered-iff rs h).0 e)))
      (λ e. (covered-iff rs h).1 (g ((covered-iff ss h).0 e)))

  -- ---- by hand

  -- every row ends at n or before
  abbrev Ending : List Row → ℕ → Type 0
  Ending rs n = (r : Row) → r ∈ rs → right_of s r ≤ n

  abbrev Onward : List Row → Type 0
  Onward rs = Rising (λ r q. left_of s r ≤ left_of s q) rs

  parted : (h₀ : ℕ) (r : Row) (rs : List Row) → Onward (r ∷ rs) → (h : ℕ)
      → cond (within (max h₀ (left_of s r)) (right_of s r) h) 1 0
      + cond (leb (max h₀ (right_of s r)) h && is_covered s rs h) 1 0
      ≡ cond (leb h₀ h && is_covered s (r ∷ rs) h) 1 0
  unfolding is_covered
  parted h₀ r rs up h =
      parted-numbers h₀ (left_of s r) (right_of s r) h (is_covered s rs h)
      (λ l. false_of (is_covered s rs h) (λ e.
      let c = covered_of rs h e in
      omega (arith, up.0 c.row c.among, c.inside.from_left)))

  swept : (h₀ : ℕ) (rs : List Row) → Onward rs → (n : ℕ) → Ending rs n
      → letters_from s h₀ rs ≡ tally (λ h. leb h₀ h && is_covered s rs h) n
  unfolding letters_from is_covered
  swept h₀ [] up n ends =
      sym (tally-empty (λ h. leb h₀ h && is_covered s [] h) n (λ h l. and-false (leb h₀ h)))
  swept h₀ (r ∷ rs) up n ends =
      let own = tally-within (max h₀ (left_of s r)) (right_of s r) n (ends r (here refl)) in
      let others = swept (max h₀ (right_of s r)) rs up.1 n (λ q m. ends q (there m)) in
      let both = tally-joined (within (max h₀ (left_of s r)) (right_of s r))
      (λ h. leb (max h₀ (right_of s r)) h && is_covered s rs h)
      (λ h. leb h₀ h && is_covered s (r ∷ rs) h) n (λ h l. parted h₀ r rs up h) in
      omega (arith, own, others, both)

  in_order : (rs : List Row) → Onward (sort_by (not_past? s) rs)
  in_order rs =
      rising-sort (λ r q. left_of s r ≤ left_of s q) (not_past? s) (λ r q t l l'. le_trans l l') rs (either rs)
    where
      one_way : (a b : ℕ) → (a ≤ b) ⊎ (b ≤ a)
      one_way a b = elim (dec_lt b a) [ yes l ↦ inr (omega arith) | no l ↦ inl (omega arith) ]

      either : (rs : List Row) → Rising (λ r q. (left_of s r ≤ left_of s q) ⊎ (left_of s q ≤ left_of s r)) rs
      either [] = tt
      either (r ∷ rs) = (λ q _. one_way (left_of s r) (left_of s q), either rs)

  sorted-alike : (rs : List Row) (h : ℕ) → is_covered s (sort_by (not_past? s) rs) h ≡ is_covered s rs h
  sorted-alike rs h =
      covered-alike (sort_by (not_past? s) rs) rs h
      (λ c. record { row = c.row; among = ∈-unsort _ (not_past? s) rs c.among; inside = c.inside })
      (λ c. record { row = c.row; among = ∈-sort _ (not_past? s) c.among; inside = c.inside })

  pub cover-tally : (rs : List Row) (n : ℕ) → Ending rs n → cover_of s rs ≡ tally (is_covered s rs) n
  cover-tally rs n ends =
      let sorted = sort_by (not_past? s) rs in
      swept 0 sorted (in_order rs) n (λ r m. ends r (∈-unsort _ (not_past? s) rs m))
      ∙ tally-agrees (λ h. leb 0 h && is_covered s sorted h) (is_covered s rs) n
      (λ h l. rw (le-leb 0 h (omega arith)) (sorted-alike rs h))

  pub cover-at-most : (rs : List Row) (n : ℕ) → Ending rs n → cover_of s rs ≤ n
  cover-at-most rs n ends = rw (cover-tally rs n ends) (tally-at-most (is_covered s rs) n)

  -- ---- in words

  unfoldable furthest : List Row → ℕ
  furthest [] = 0
  furthest (r ∷ rs) = max (right_of s r) (furthest rs)

  furthest-ends : (rs : List Row) → Ending rs (furthest rs)
  unfolding furthest
  furthest-ends [] q m = absurd (Memᴰ.not-nil m)
  furthest-ends (r ∷ rs) q m =
      ⊎_elim (λ e. rw e (le-max_left (right_of s r) (furthest rs)))
      (λ t. le_trans (furthest-ends rs q t) (le-max_right (right_of s r) (furthest rs))) (Memᴰ.cases_cons m)

  pub cover-counted : (rs : List Row) → CountedOnce (Covered s rs) (cover_of s rs)
  cover-counted rs =
      rw (cover-tally rs (furthest rs) (furthest-ends rs))
      (tally-counts (is_covered s rs) (furthest rs) (covered-iff rs) before-end)
    where
      before-end : (h : ℕ) → is_covered s rs h ≡ true → h < furthest rs
      before-end h e =
          let c = covered_of rs h e in
          omega (arith, c.inside.before_right, furthest-ends rs c.row c.among)

  pub covers-same : (rs ss : List Row) → ((h : ℕ) → Covered s rs h ↔ Covered s ss h) → cover_of s rs ≡ cover_of s ss
  covers-same rs ss same =
      let c = counted-alike same (cover-counted rs) in
      sym c.many ∙ (cover-counted ss).every c.letters c.once c.just

  covered-order : {rs ss : List Row} → Permᴰ rs ss → (h : ℕ) → is_covered s rs h ≡ is_covered s ss h
  unfolding is_covered
  covered-order Permᴰ.nil h = refl
  covered-order (Permᴰ.cons e p) h = rw (e, covered-order p h)
  covered-order (Permᴰ.swap {a} {b} {l = l} e e') h =
      rw (← e, ← e')
      (or_turned (within (left_of s a) (right_of s a) h) (within (left_of s b) (right_of s b) h) (is_covered s l h))
  covered-order (Permᴰ.trans p q) h = covered-order p h ∙ covered-order q h

  pub cover-order : {rs ss : List Row} → Permᴰ rs ss → cover_of s rs ≡ cover_of s ss
  cover-order {rs} {ss} p =
      covers-same rs ss (λ h. let e = covered-order p h in (
        λ c. (covered-iff ss h).0 (sym e ∙ (covered-iff rs h).1 c),
        λ c. (covered-iff rs h).0 (e ∙ (covered-iff ss h).1 c),
      ))

pub letters-once : (rs : List Row) → LettersOnce rs (cover_of A rs ∷ cover_of B rs ∷ [])
letters-once rs = record { two = refl; on_a = cover-counted A rs; on_b = cover-counted B rs }
