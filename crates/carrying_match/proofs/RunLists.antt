-- The numbers at the places [lo, hi) as a list, `slice lo hi xs`.
--     slice_in, in-slice      the list holds what stands at the places
--     slice-rising            what holds of each two places holds along the list
--     slice-same              the same numbers at the places make the same list
--     hits-past, hits-none    places of which none is spanned add no hit
-- Assumes nothing.
use Prim.Native.Nat.{ℕ, zero, suc, ◌+◌, ◌-◌, ◌≤◌, ◌<◌}
use native.Mathlib.Omega.{arith}
use native.Mathlib.Decide.{ℕ_discrete}
use mathlib.Core.Path.{◌≡◌, sym, ap, ◌∙◌}
use mathlib.Core.Bool.{false}
use mathlib.Core.List.Memᴰ
use mathlib.Core.List.{List, [], ◌∷◌}
use mathlib.Core.List.Memᴰ.{head as here}
use mathlib.Core.List.Memᴰ.{tail as there}
use mathlib.Core.Logic.{⊎_elim}
use lib.ListN.{length, get_or}
use lib.Seq.{slice, slice_empty, slice-cons}
use Rattle.refinement.specs.Order.{◌∈◌, Rising}
use Rattle.refinement.specs.Match.{between}
use Rattle.runs.specs.Runs.{In, Same}
use Rattle.runs.proofs.Membership.{in-wide}
use Rattle.carrying_match.specs.OneMatch.{hits_on}

module _ (xs : List ℕ) {hi : ℕ} (w : hi ≤ length xs) where
  none : (lo : ℕ) → lo + 0 ≡ hi → slice lo hi xs ≡ []
  none lo e = let f : lo ≡ hi = omega arith in rw f (slice_empty hi xs)

  first : (n lo : ℕ) → lo + suc n ≡ hi → slice lo hi xs ≡ get_or xs lo 0 ∷ slice (suc lo) hi xs
  first n lo e = slice-cons lo hi xs 0 (omega arith) w

  in-from : (n lo : ℕ) {y : ℕ} → lo + n ≡ hi → y ∈ slice lo hi xs → In xs lo hi y
  in-from zero lo {y} e m = let q : y ∈ [] = rw (none lo e) at m in absurd (Memᴰ.not-nil q)
  in-from (suc n) lo {y} e m = let q : y ∈ (get_or xs lo 0 ∷ slice (suc lo) hi xs) = rw (first n lo e) at m in
      ⊎_elim
      (λ f. record { place = lo; from = omega arith; below = omega arith; is = sym f })
      (λ t. in-wide (omega arith) (omega arith) (in-from n (suc lo) (omega arith) t))
      (Memᴰ.cases_cons q)

  from_in : (n lo k : ℕ) {y : ℕ} → lo + n ≡ hi → lo ≤ k → k < hi → get_or xs k 0 ≡ y → y ∈ slice lo hi xs
  from_in zero lo k e l u f = absurd (omega arith)
  from_in (suc n) lo k {y} e l u f =
      rw (first n lo e) (go (ℕ_discrete lo k) (λ q. from_in n (suc lo) k (omega arith) (omega arith) u f))
    where
      go : Dec (lo ≡ k) → ((lo ≡ k → ⊥) → y ∈ slice (suc lo) hi xs) → y ∈ (get_or xs lo 0 ∷ slice (suc lo) hi xs)
      go (yes q) later = here {x = get_or xs lo 0} (rw q (sym f))
      go (no q) later = there (later q)

  rising-from :
      (R : ℕ → ℕ → Type 0) (n lo : ℕ) → lo + n ≡ hi
      → ((i j : ℕ) → lo ≤ i → i < j → j < hi → R (get_or xs i 0) (get_or xs j 0)) → Rising R (slice lo hi xs)
  rising-from R zero lo e h = rw (none lo e) tt
  rising-from R (suc n) lo e h = rw (first n lo e) (
    λ y m. let q = in-from n (suc lo) (omega arith) m in
        rw (← q.is) (h lo q.place (omega arith) (omega (arith, q.from)) q.below),
    rising-from R n (suc lo) (omega arith) (λ i j l u v. h i j (omega arith) u v),
  )

  past-from :
      (i g n lo : ℕ) → lo + n ≤ hi → ((k : ℕ) → lo ≤ k → k < lo + n → between i g (get_or xs k 0) ≡ false)
      → hits_on i g (slice lo hi xs) ≡ hits_on i g (slice (lo + n) hi xs)
  past-from i g zero lo h f = let e : lo + 0 ≡ lo = omega arith in rw e
  past-from i g (suc n) lo h f =
      let e : lo + suc n ≡ suc lo + n = omega arith in
      let b : hits_on i g (slice (suc lo) hi xs) ≡ hits_on i g (slice (suc lo + n) hi xs) =
      past-from i g n (suc lo) (omega arith) (λ k l u. f k (omega arith) (omega arith))
      in
      rw (e, slice-cons lo hi xs 0 (omega arith) w, f lo (omega arith) (omega arith)) (omega arith)

  module _ {lo : ℕ} (o : lo ≤ hi) where
    pub slice_in : {y : ℕ} → y ∈ slice lo hi xs → In xs lo hi y
    slice_in m = in-from (hi - lo) lo (omega arith) m

    pub in-slice : {y : ℕ} → In xs lo hi y → y ∈ slice lo hi xs
    in-slice q = from_in (hi - lo) lo q.place (omega arith) q.from q.below q.is

    pub slice-rising :
        (R : ℕ → ℕ → Type 0) → ((i j : ℕ) → lo ≤ i → i < j → j < hi → R (get_or xs i 0) (get_or xs j 0))
        → Rising R (slice lo hi xs)
    slice-rising R h = rising-from R (hi - lo) lo (omega arith) h

    pub hits-past :
        (i g mid : ℕ) → lo ≤ mid → mid ≤ hi → ((k : ℕ) → lo ≤ k → k < mid → between i g (get_or xs k 0) ≡ false)
        → hits_on i g (slice lo hi xs) ≡ hits_on i g (slice mid hi xs)
    hits-past i g mid l u f =
        let e : lo + (mid - lo) ≡ mid = omega arith in
        rw e at (past-from i g (mid - lo) lo (omega arith) (λ k a b. f k a (omega arith)))

    pub hits-none :
        (i g : ℕ) → ((k : ℕ) → lo ≤ k → k < hi → between i g (get_or xs k 0) ≡ false) → hits_on i g (slice lo hi xs) ≡ 0
    hits-none i g f = hits-past i g hi o (omega arith) f ∙ ap (hits_on i g) (slice_empty hi xs)

same_from :
    (xs ys : List ℕ) (n lo hi : ℕ) → hi ≤ length xs → hi ≤ length ys → lo + n ≡ hi → Same xs ys lo hi
    → slice lo hi ys ≡ slice lo hi xs
same_from xs ys zero lo hi v w e s = rw (none xs v lo e, none ys w lo e)
same_from xs ys (suc n) lo hi v w e s =
    let b : slice (suc lo) hi ys ≡ slice (suc lo) hi xs =
    same_from xs ys n (suc lo) hi v w (omega arith) (λ k l u. s k (omega arith) u)
    in
    rw (first xs v n lo e, first ys w n lo e, s lo (omega arith) (omega arith), b)

pub slice-same :
    (xs ys : List ℕ) {lo hi : ℕ} → hi ≤ length xs → hi ≤ length ys → lo ≤ hi → Same xs ys lo hi
    → slice lo hi ys ≡ slice lo hi xs
slice-same xs ys {lo} {hi} v w o s = same_from xs ys (hi - lo) lo hi v w (omega arith) s
