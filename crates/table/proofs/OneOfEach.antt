-- The first rows of all pieces are one row of each, and however one row of each is chosen, there are as many: their
-- pieces are the same list of numbers without repeats, whoever chose them (`pigeonhole`).
--     firsts-each         the first rows of all pieces are one of each
--     chosen-same         two choices of one row of each piece have as many rows
--     distinct-counted    so the table has as many distinct pieces as first rows
-- Assumes nothing.
use Prim.Native.Nat.{ℕ, ◌≤◌}
use mathlib.Core.Bool.{Bool, true, false, cond}
use mathlib.Core.Path.{◌≡◌, refl, sym, ◌∙◌}
use mathlib.Core.Logic.{◌⊎◌, inl, inr, ⊎_elim, ◌≢◌}
use mathlib.Core.List.Memᴰ
use mathlib.Core.List.{List, [], ◌∷◌, map}
use mathlib.Core.List.Memᴰ.{head as here}
use mathlib.Core.List.Memᴰ.{tail as there}
use native.Mathlib.Omega.{arith}
use lib.ListN.{length, length-map}
use Rattle.refinement.specs.Order.{◌∈◌, Rising, Distinct}
use Rattle.refinement.proofs.Lists.{rising-map, pigeonhole}
use Rattle.table.specs.Distinct.{same, occurs, firsts_after, first_of_each, piece_of, SamePiece}
use Rattle.table.specs.Distinct.{OneOfEach, DistinctPieces}
use Rattle.rows.specs.declared.Row.{Row}
use Rattle.table.proofs.Pieces.{never_both, or_right, or_cases, false_of, same-fields, fields-same}
use Rattle.table.proofs.Pieces.{piece-numbers, numbers-piece, same-itself, occurs-same}

-- ---- the first rows

-- the first rows behind r, with r before them unless its piece is known
abbrev firsts_of : Bool → Row → List Row → List Row
firsts_of known r rest = cond known rest (r ∷ rest)

firsts-cases : (known : Bool) (r : Row) {q : Row} {rest : List Row} → q ∈ firsts_of known r rest
    → ((known ≡ false) × (q ≡ r)) ⊎ (q ∈ rest)
firsts-cases true r m = inr m
firsts-cases false r m = ⊎_elim (λ e. inl (refl, e)) inr (Memᴰ.cases_cons m)

firsts-there : (known : Bool) (r : Row) {q : Row} {rest : List Row} → q ∈ rest → q ∈ firsts_of known r rest
firsts-there true r m = m
firsts-there false r m = there m

firsts-among : (seen rs : List Row) {q : Row} → q ∈ firsts_after seen rs → q ∈ rs
unfolding firsts_after
firsts-among seen [] m = m
firsts-among seen (r ∷ rs) m =
    ⊎_elim (λ f. here f.1) (λ t. there (firsts-among (r ∷ seen) rs t)) (firsts-cases (occurs r seen) r m)

-- no first row is a piece that was seen
firsts-unseen : (seen rs : List Row) {q : Row} → q ∈ firsts_after seen rs → occurs q seen ≡ false
unfolding firsts_after occurs
firsts-unseen seen [] m = absurd (Memᴰ.not-nil m)
firsts-unseen seen (r ∷ rs) {q} m =
    ⊎_elim (λ f. rw f.1 f.0)
    (λ t.
    let later = firsts-unseen (r ∷ seen) rs t in
    false_of (occurs q seen) (λ o. never_both (or_right (same r q) (occurs q seen) o) later))
    (firsts-cases (occurs r seen) r m)

firsts-apart : (seen rs : List Row) → Rising (λ q r. ¬ SamePiece q r) (firsts_after seen rs)
unfolding firsts_after occurs
firsts-apart seen [] = tt
firsts-apart seen (r ∷ rs) = go (occurs r seen) (firsts-apart (r ∷ seen) rs)
  where
    other : (q : Row) → q ∈ firsts_after (r ∷ seen) rs → ¬ SamePiece r q
    other q m p = never_both (rw (fields-same r q p)) (firsts-unseen (r ∷ seen) rs m)

    go : (known : Bool) → Rising (λ q s. ¬ SamePiece q s) (firsts_after (r ∷ seen) rs)
        → Rising (λ q s. ¬ SamePiece q s) (firsts_of known r (firsts_after (r ∷ seen) rs))
    go true apart = apart
    go false apart = (other, apart)

-- a first row among qs that is the piece of r
abbrev FirstFor : List Row → Row → Type 0
FirstFor qs r = (q : Row) × (q ∈ qs) × SamePiece q r

-- the piece of a row was seen, or one of the first rows is that piece
firsts-for : (seen rs : List Row) (r : Row) → r ∈ rs → (occurs r seen ≡ true) ⊎ FirstFor (firsts_after seen rs) r
unfolding firsts_after occurs
firsts-for seen [] r m = absurd (Memᴰ.not-nil m)
firsts-for seen (s ∷ rs) r m =
    ⊎_elim (λ e. at_first r (rw e (same-itself s)))
    (λ t.
    ⊎_elim (λ o. ⊎_elim (at_first r) inl (or_cases (same s r) (occurs r seen) o))
    (λ f. inr (f.0, firsts-there (occurs s seen) s f.1, f.2)) (firsts-for (s ∷ seen) rs r t))
    (Memᴰ.cases_cons m)
  where
    at_first : (r : Row) → same s r ≡ true
        → (occurs r seen ≡ true) ⊎ FirstFor (firsts_of (occurs s seen) s (firsts_after (s ∷ seen) rs)) r
    at_first r e = go (occurs s seen) refl
      where
        go : (known : Bool) → occurs s seen ≡ known
            → (occurs r seen ≡ true) ⊎ FirstFor (firsts_of known s (firsts_after (s ∷ seen) rs)) r
        go true o = inl (occurs-same s r seen e o)
        go false o = inr (s, here refl, same-fields s r e)

pub firsts-each : (rs : List Row) → OneOfEach rs (first_of_each rs)
unfolding occurs
firsts-each rs =
    record {
      among = λ q m. firsts-among [] rs m;
      apart = firsts-apart [] rs;
      each = λ r m. ⊎_elim (λ o. absurd (never_both o refl)) (λ f. f) (firsts-for [] rs r m);
    }

-- ---- one row of each, however it is chosen

module _ {rs qs qs' : List Row} (c : OneOfEach rs qs) (c' : OneOfEach rs qs') where
  pieces-once : Distinct (map piece_of qs)
  pieces-once =
      rising-map (λ q r. ¬ SamePiece q r) ◌≢◌ piece_of qs (λ q r _ _ apart e. apart (numbers-piece q r e)) c.apart

  pieces-among : (p : List ℕ) → p ∈ map piece_of qs → p ∈ map piece_of qs'
  pieces-among p m =
      let f = Memᴰ.of_map piece_of qs m in
      let e = c'.each f.0 (c.among f.0 f.1) in
      Memᴰ.cast (sym (piece-numbers e.0 f.0 e.2 ∙ f.2)) (Memᴰ.map piece_of e.1)

  chosen-most : length qs ≤ length qs'
  chosen-most =
      let most = pigeonhole (map piece_of qs) (map piece_of qs') pieces-once pieces-among in
      omega (arith, most, length-map qs piece_of, length-map qs' piece_of)

pub chosen-same : {rs qs qs' : List Row} → OneOfEach rs qs → OneOfEach rs qs' → length qs ≡ length qs'
chosen-same c c' = omega (arith, chosen-most c c', chosen-most c' c)

pub distinct-counted : (rs : List Row) → DistinctPieces rs (length (first_of_each rs))
distinct-counted rs =
    record {
      chosen = first_of_each rs;
      one_of_each = firsts-each rs;
      every = λ qs c. chosen-same c (firsts-each rs);
    }
