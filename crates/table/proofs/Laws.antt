-- What holds of every summary.
--     distinct-inside        no more distinct pieces than pieces
--     classes-sum            the class counts add up to the pieces of 1 to 2^30 - 1 letters
--     classes-inside         and so to no more than the pieces
--     firsts-order           what the first rows of all pieces add up to is the same in every order of the rows
--     summary-order          and so is the summary
--     table-ends             in a table of 32-bit numbers no stretch ends at 2^33 or behind ..
--     covers-fit             .. and so neither number of letters reaches it
-- Assumes nothing.
use Prim.Native.Nat.{ℕ, zero, suc, ◌+◌, ◌-◌, ◌/◌, ◌^◌, ◌≤◌, ◌<◌}
use mathlib.Core.Bool.{Bool, true, false, cond, ◌&&◌, ◌||◌}
use mathlib.Core.Path.{◌≡◌, refl, sym, ap, ◌∙◌}
use mathlib.Core.Logic.{⊎_elim}
use mathlib.Core.List.Memᴰ
use mathlib.Core.List.{List, [], ◌∷◌, Permᴰ}
use native.Mathlib.Omega.{arith}
use native.Mathlib.Decide.{dec_lt}
use native.Mathlib.Nat.{add-zero}
use native.Mathlib.Numerals.{add-one}
use borrow.Author.Tests.{lt-ltb, le-ltb, le-leb, lt-leb}
use lib.ListN.{length, get_or, drop}
use lib.Dec.{leb, ltb}
use lib.Pow.{pow_mono}
use lib.Seq.{get_or-drop}
use Rattle.refinement.specs.declared.Side.{Side}
use Rattle.refinement.specs.declared.Side.TheVariants.{A, B}
use Rattle.refinement.specs.Order.{◌∈◌}
use Rattle.rows.specs.Rows.{row_width, row_of, first_rows, rows_of}
use Rattle.table.specs.Distinct.{same, occurs, firsts_after, first_of_each}
use Rattle.table.specs.Covering.{right_of, cover_of}
use Rattle.table.specs.Summing.{total, count, class_count, in_class, classes_from}
use Rattle.table.specs.Summing.{summary_of_rows, summary_of}
use Rattle.rows.specs.declared.Row.{Row}
use Rattle.table.proofs.Counting.{count-inside, count-agrees, count-every, count-no-one, count-joined}
use Rattle.table.proofs.Pieces.{bool_same, or_turned, same-sym, occurs-same, firsts-inside}
use Rattle.table.proofs.Covers.{cover-order, cover-at-most}

-- ---- no more than the pieces

pub distinct-inside : (t : List ℕ) → (summary_of t).distinct ≤ (summary_of t).pieces
distinct-inside t = firsts-inside [] (rows_of t)

unfoldable pub sum_of : List ℕ → ℕ
sum_of [] = 0
sum_of (n ∷ ns) = n + sum_of ns

abbrev pub between : ℕ → ℕ → Row → Bool
between low high r = leb low r.length && ltb r.length high

between-joined : (a b d x : ℕ) → a ≤ b → b ≤ d
    → cond (leb a x && ltb x b) 1 0 + cond (leb b x && ltb x d) 1 0 ≡ cond (leb a x && ltb x d) 1 0
between-joined a b d x l l' =
    elim (dec_lt x a) [
      | yes under ↦ rw (lt-leb a x under, lt-leb b x (omega arith))
      | no from-a ↦
          elim (dec_lt x b) [
            | yes below ↦ rw (le-leb a x (omega arith), lt-ltb x b below, lt-leb b x below, lt-ltb x d (omega arith))
            | no from-b ↦
                rw (le-leb a x (omega arith), le-ltb x b (omega arith), le-leb b x (omega arith)) (omega arith)
          ]
    ]

between_none : (a x : ℕ) → (leb a x && ltb x a) ≡ false
between_none a x =
    elim (dec_lt x a) [
      | yes under ↦ rw (lt-leb a x under)
      | no from-a ↦ rw (le-leb a x (omega arith), le-ltb x a (omega arith))
    ]

classes-from-sum : (n c : ℕ) (rs : List Row) → sum_of (classes_from n c rs) ≡ count (between (2 ^ c) (2 ^ (c + n))) rs
unfolding classes_from sum_of
classes-from-sum zero c rs =
    rw (add-zero c)
    (sym (count-agrees (between (2 ^ c) (2 ^ c)) false (λ r. between_none (2 ^ c) r.length) rs ∙ count-no-one rs))
classes-from-sum (suc n) c rs =
    let next : c + 1 ≡ suc c = add-one c in
    let end : c + 1 + n ≡ c + suc n = omega arith in
    let low = pow_mono {i = c} {j = c + 1} (omega arith) in
    let high = pow_mono {i = c + 1} {j = c + 1 + n} (omega arith) in
    rw (classes-from-sum n (suc c) rs, ← next, ← end)
    (count-joined (in_class c) (between (2 ^ (c + 1)) (2 ^ (c + 1 + n))) (between (2 ^ c) (2 ^ (c + 1 + n)))
    (λ r. between-joined (2 ^ c) (2 ^ (c + 1)) (2 ^ (c + 1 + n)) r.length low high) rs)

-- a piece of no letters, or of 2^30 or more, is in no class
pub classes-sum : (t : List ℕ) → sum_of (summary_of t).classes ≡ count (between 1 (2 ^ class_count)) (rows_of t)
classes-sum t = classes-from-sum class_count 0 (rows_of t)

pub classes-inside : (t : List ℕ) → sum_of (summary_of t).classes ≤ (summary_of t).pieces
classes-inside t = omega (arith, classes-sum t, count-inside (between 1 (2 ^ class_count)) (rows_of t))

-- ---- in every order

total-order : (f : Row → ℕ) {rs ss : List Row} → Permᴰ rs ss → total f rs ≡ total f ss
unfolding total
total-order f Permᴰ.nil = refl
total-order f (Permᴰ.cons e p) = rw (e, total-order f p)
total-order f (Permᴰ.swap {a} {b} {l = l} e e') = rw (← e, ← e') (omega arith)
total-order f (Permᴰ.trans p q) = total-order f p ∙ total-order f q

firsts-seen : (s s' : List Row) → ((r : Row) → occurs r s ≡ occurs r s') → (rs : List Row)
    → firsts_after s rs ≡ firsts_after s' rs
unfolding firsts_after occurs
firsts-seen s s' h [] = refl
firsts-seen s s' h (r ∷ rs) =
    rw (h r, firsts-seen (r ∷ s) (r ∷ s') (λ q. ap (λ (b : Bool). same r q || b) (h q)) rs)

turned : (seen : List Row) (r s q : Row) → occurs q (s ∷ r ∷ seen) ≡ occurs q (r ∷ s ∷ seen)
unfolding occurs
turned seen r s q = or_turned (same s q) (same r q) (occurs q seen)

-- f gives the same for rows of the same piece
module _ (f : Row → ℕ) (alike : (r s : Row) → same r s ≡ true → f r ≡ f s) where
  first_counted : (seen : List Row) (r : Row) (rs : List Row)
      → total f (firsts_after seen (r ∷ rs)) ≡ cond (occurs r seen) 0 (f r) + total f (firsts_after (r ∷ seen) rs)
  unfolding firsts_after total
  first_counted seen r rs = go (occurs r seen)
    where
      go : (b : Bool) → total f (cond b (firsts_after (r ∷ seen) rs) (r ∷ firsts_after (r ∷ seen) rs))
          ≡ cond b 0 (f r) + total f (firsts_after (r ∷ seen) rs)
      go true = omega arith
      go false = refl

  either_first : (seen : List Row) (r s : Row)
      → cond (occurs r seen) 0 (f r) + cond (occurs s (r ∷ seen)) 0 (f s)
      ≡ cond (occurs s seen) 0 (f s) + cond (occurs r (s ∷ seen)) 0 (f r)
  unfolding occurs
  either_first seen r s =
      let mirrored : same r s ≡ same s r = bool_same (same r s) (same s r) (same-sym r s) (same-sym s r) in
      rw (← mirrored) (go (same r s) refl)
    where
      go : (b : Bool) → same r s ≡ b
          → cond (occurs r seen) 0 (f r) + cond (b || occurs s seen) 0 (f s)
          ≡ cond (occurs s seen) 0 (f s) + cond (b || occurs r seen) 0 (f r)
      go true e =
          let back = same-sym r s e in
          let both = bool_same (occurs r seen) (occurs s seen) (occurs-same r s seen e) (occurs-same s r seen back) in
          rw (both, alike r s e)
      go false e = omega arith

  firsts-swapped : (seen : List Row) (r s : Row) (rs : List Row)
      → total f (firsts_after seen (r ∷ s ∷ rs)) ≡ total f (firsts_after seen (s ∷ r ∷ rs))
  firsts-swapped seen r s rs =
      omega (
        arith,
        first_counted seen r (s ∷ rs),
        first_counted (r ∷ seen) s rs,
        first_counted seen s (r ∷ rs),
        first_counted (s ∷ seen) r rs,
        either_first seen r s,
        ap (total f) (firsts-seen (s ∷ r ∷ seen) (r ∷ s ∷ seen) (turned seen r s) rs),
      )

  pub firsts-order : {rs ss : List Row} → Permᴰ rs ss → (seen : List Row)
      → total f (firsts_after seen rs) ≡ total f (firsts_after seen ss)
  firsts-order Permᴰ.nil seen = refl
  firsts-order (Permᴰ.cons {a} {b} {l₁} {l₂} e p) seen =
      rw (← e) (omega (arith, first_counted seen a l₁, first_counted seen a l₂, firsts-order p (a ∷ seen)))
  firsts-order (Permᴰ.swap {a} {b} {l = l} e e') seen = rw (← e, ← e') (firsts-swapped seen a b l)
  firsts-order (Permᴰ.trans p q) seen = firsts-order p seen ∙ firsts-order q seen

classes-order : (n c : ℕ) {rs ss : List Row} → Permᴰ rs ss → classes_from n c rs ≡ classes_from n c ss
unfolding classes_from
classes-order zero c p = refl
classes-order (suc n) c p = rw (total-order (λ r. cond (in_class c r) 1 0) p, classes-order n (suc c) p)

rows-order : {rs ss : List Row} → Permᴰ rs ss → summary_of_rows rs ≡ summary_of_rows ss
rows-order {rs} {ss} p =
    let pieces : length rs ≡ length ss = sym (count-every rs) ∙ total-order (λ r. 1) p ∙ count-every ss in
    let firsts = firsts-order (λ r. 1) (λ r s e. refl) p [] in
    let distinct : length (first_of_each rs) ≡ length (first_of_each ss)
    = sym (count-every (first_of_each rs)) ∙ firsts ∙ count-every (first_of_each ss) in
    rw (pieces, distinct, cover-order A p, cover-order B p, classes-order class_count 0 p)

pub summary-order : (t t' : List ℕ) → Permᴰ (rows_of t) (rows_of t') → summary_of t ≡ summary_of t'
summary-order t t' p = rows-order p

-- ---- no sum wraps

-- a right end is at most twice the largest number
rows_end : (s : Side) (n : ℕ) (t : List ℕ) → ((k : ℕ) → get_or t k 0 < 2 ^ 32) → (r : Row) → r ∈ first_rows n t
    → right_of s r < 2 ^ 33
unfolding first_rows
rows_end s zero t fits r m = absurd (Memᴰ.not-nil m)
rows_end s (suc n) t fits r m =
    ⊎_elim (λ e. rw e (first s))
    (rows_end s n (drop row_width t) (λ k. rw get_or-drop (fits (row_width + k))) r) (Memᴰ.cases_cons m)
  where
    first : (s : Side) → right_of s (row_of t) < 2 ^ 33
    first A = omega (arith, fits 1, fits 3)
    first B = omega (arith, fits 2, fits 3)

pub table-ends : (s : Side) (t : List ℕ) → ((k : ℕ) → get_or t k 0 < 2 ^ 32) → (r : Row) → r ∈ rows_of t
    → right_of s r < 2 ^ 33
unfolding rows_of
table-ends s t fits r m = rows_end s (length t / row_width) t fits r m

pub covers-fit : (s : Side) (t : List ℕ) → ((k : ℕ) → get_or t k 0 < 2 ^ 32) → cover_of s (rows_of t) < 2 ^ 33
covers-fit s t fits =
    let most = cover-at-most s (rows_of t) (2 ^ 33 - 1) (λ r m. omega (arith, table-ends s t fits r m)) in
    omega arith
