-- Carrying newly found cuts one after the other, each over every match.
--     CutsPassed          the invariant: the cuts at the places [done, at) are carried over all matches
--     cuts-step, cuts-end      one cut more, and the end
--     cuts-stop           no room for the images of one cut more, or for its hits
-- Assumes nothing.
use Prim.Native.Nat.{ℕ, zero, suc, ◌+◌, ◌≤◌, ◌<◌}
use native.Mathlib.Omega.{arith}
use mathlib.Core.Path.{◌≡◌, refl, sym, ap, ◌∙◌}
use mathlib.Core.List.{List, [], ◌∷◌}
use mathlib.Core.Logic.{◌↔◌, ◌⊎◌, inl, inr, ⊎_elim}
use lib.ListN.{length, get_or}
use lib.Seq.{slice, slice-cons, slice_empty}
use Rattle.runs.specs.Runs.{In}
use Rattle.runs.proofs.Membership.{in-wide, in_parts}
use Rattle.cut_set.specs.Store.{Found, found_in, found_end, Stored, Cramped}
use Rattle.cut_set.specs.declared.CutSet.{CutSet}
use Rattle.cut_set.proofs.Laws.{stored_same, stored-then, cramped-wide, cramped-then}
use Rattle.refining.specs.Columns.{Columns, count_of}
use Rattle.carrying_match.specs.OneMatch.{Ready, Carrying}
use Rattle.std.specs.Prelude.{Err}
use Rattle.carrying_match.specs.declared.Stop.{Stop}
use Rattle.cut_set.proofs.Gathering.{base_done, used-limit, used-within}
use Rattle.carrying_match.proofs.Storing.{same-apart}
use Rattle.carrying_cuts.specs.Worker.{Images, hits_over, Working}

pub record CutsPassed (columns : Columns) (xs : List ℕ) (from to : CutSet) (hits most end : ℕ) (ys : List ℕ)
    (set : CutSet) (count at : ℕ) : Type 0 where
  pub ends : end ≡ found_end from
  pub start : from.done ≤ at
  pub until : at ≤ from.used
  pub lengths : length ys ≡ length xs
  pub stored : Stored (Images columns (count_of columns) (In xs from.done at)) xs to ys set
  pub counted :
      hits + hits_over columns (count_of columns) (found_in xs from)
      ≡ count + hits_over columns (count_of columns) (slice at from.used xs)
  pub few : count ≤ most

-- the hits of a list are those of its first cut and those of the others
hits-cons :
    (columns : Columns) (n x : ℕ) (ns : List ℕ)
    → hits_over columns n (x ∷ ns) ≡ hits_over columns n (x ∷ []) + hits_over columns n ns
hits-cons columns zero x ns = refl
hits-cons columns (suc n) x ns = let before = hits-cons columns n x ns in omega (arith, before)

hits-nothing : (columns : Columns) (n : ℕ) → hits_over columns n [] ≡ 0
hits-nothing columns zero = refl
hits-nothing columns (suc n) = let before = hits-nothing columns n in omega (arith, before)

-- the images of more numbers
images-of :
    {columns : Columns} {n y : ℕ} {P Q : ℕ → Type 0} → ((x : ℕ) → P x → Q x) → Images columns n P y
    → Images columns n Q y
images-of h m = record {
  index = m.index;
  below = m.below;
  x = m.x;
  carried = h m.x m.carried;
  image = m.image;
}

module _ {columns : Columns} {xs : List ℕ} {from to : CutSet} {hits most end : ℕ} (r : Ready xs from to) where
  module _ {ys : List ℕ} {set : CutSet} {count at : ℕ}
      (p : CutsPassed columns xs from to hits most end ys set count at) where
    module _ {cut : ℕ} (more : at < end) (here : cut ≡ get_or ys at 0) where
      h : at < from.used
      h = omega (arith, p.ends)

      cut-same : cut ≡ get_or xs at 0
      cut-same = here ∙ same-apart xs ys r.apart p.stored.outside at
          (omega (arith, base_done r.from_good, p.start)) (omega (arith, h, used-limit r.from_good))

      next-cut :
          (x : ℕ) → (In xs from.done at x ⊎ (x ≡ cut)) ↔ In xs from.done (at + 1) x
      next-cut x = (
        λ q. ⊎_elim
            (in-wide (omega arith) (omega arith))
            (λ e. record { place = at; from = p.start; below = omega arith; is = sym cut-same ∙ sym e })
            q,
        λ m. ⊎_elim
            inl
            (λ u. let e : u.place ≡ at = omega (arith, u.from, u.below) in
            inr (sym u.is ∙ ap (λ (j : ℕ). get_or xs j 0) e ∙ sym cut-same))
            (in_parts at m),
      )

      next :
          (y : ℕ)
          → (Images columns (count_of columns) (In xs from.done at) y
          ⊎ Images columns (count_of columns) (λ z. z ≡ cut) y)
          ↔ Images columns (count_of columns) (In xs from.done (at + 1)) y
      next y = (
        ⊎_elim (images-of (λ x m. (next-cut x).0 (inl m))) (images-of (λ x m. (next-cut x).0 (inr m))),
        λ m. ⊎_elim
            (λ u. inl (record { index = m.index; below = m.below; x = m.x; carried = u; image = m.image }))
            (λ u. inr (record { index = m.index; below = m.below; x = m.x; carried = u; image = m.image }))
            ((next-cut m.x).1 m.carried),
      )

      hit :
          hits_over columns (count_of columns) (slice at from.used xs)
          ≡ hits_over columns (count_of columns) (cut ∷ [])
          + hits_over columns (count_of columns) (slice (at + 1) from.used xs)
      hit = let e : at + 1 ≡ suc at = omega arith in
          rw (e, cut-same, slice-cons at from.used xs 0 h (used-within r.from_good))
          (hits-cons columns (count_of columns) (get_or xs at 0) (slice (suc at) from.used xs))

      pub cuts-step :
          {zs : List ℕ} {t : CutSet} {c : ℕ} → length zs ≡ length ys
          → Stored (Images columns (count_of columns) (λ z. z ≡ cut)) ys set zs t
          × (c ≡ count + hits_over columns (count_of columns) (cut ∷ [])) × (c ≤ most)
          → CutsPassed columns xs from to hits most end zs t c (at + 1)
      cuts-step n q = record {
        ends = p.ends;
        start = omega (arith, p.start);
        until = omega (arith, h);
        lengths = n ∙ p.lengths;
        stored = stored_same next (stored-then p.stored q.0);
        counted = omega (arith, p.counted, hit, q.1);
        few = q.2;
      }

      cuts-full :
          {zs : List ℕ} {t : CutSet} → Cramped (Images columns (count_of columns) (λ z. z ≡ cut)) ys set zs t
          → Cramped (Images columns (count_of columns) (Found xs from)) xs to zs t
      cuts-full c = cramped-wide
          (λ y q. images-of (λ x. in-wide (omega arith) (omega (arith, h))) ((next y).0 q))
          (cramped-then p.stored c)

      cuts-excess :
          most < count + hits_over columns (count_of columns) (cut ∷ [])
          → most < hits + hits_over columns (count_of columns) (found_in xs from)
      cuts-excess m = omega (arith, p.counted, hit)

      pub cuts-stop :
          (zs : List ℕ) (stop : Stop)
          → Carrying (Images columns (count_of columns) (λ z. z ≡ cut)) (hits_over columns (count_of columns) (cut ∷ []))
          ys set count most zs (Err stop)
          → Working columns (count_of columns) xs from to (found_in xs from) hits most zs (Err stop)
      cuts-stop zs (Stop.Full t) c = cuts-full c
      cuts-stop zs Stop.TooMany m = cuts-excess m

    pub cuts-end :
        end ≤ at
        → Stored (Images columns (count_of columns) (Found xs from)) xs to ys set
        × (count ≡ hits + hits_over columns (count_of columns) (found_in xs from)) × (count ≤ most)
    cuts-end past =
        let e : at ≡ from.used = omega (arith, p.until, p.ends) in
        let none : hits_over columns (count_of columns) (slice at from.used xs) ≡ 0 =
        rw (e, slice_empty from.used xs) (hits-nothing columns (count_of columns))
        in
        (rw e at p.stored, omega (arith, p.counted, none), p.few)
