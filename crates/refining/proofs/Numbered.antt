-- The matches of an admitted script as the theory has them, and as columns of their fields hold them.
--     admitted_of        a script that is read as admitted is Admitted
--     admitted-unique    its matches and its marks are no others
--     admitted-matches   each has a letter, and their numbers rise
--     admitted-fits      their ends fit 32 bits
--     numbered-range     numbers from n on, as many as there are matches
--     get_d-∈             what a list holds at an index below its length is a member
--     columns-numbered   columns of their fields hold them
--     columns-fit        and are FitRead
--     held-admitted, held-fit     both laws, by what the reader's reply tells of the matches, with the places of the
--                        marks beside them
-- Assumes nothing.
use Prim.Native.Nat.{ℕ, zero, suc, ◌+◌, ◌^◌, ◌≤◌, ◌<◌}
use mathlib.Core.Path.{◌≡◌, refl, sym, ap, ap₂, ◌∙◌}
use mathlib.Core.Bool.{Bool, false}
use mathlib.Core.Logic.{⊎_elim}
use mathlib.Core.List.Memᴰ
use mathlib.Core.List.{List, [], ◌∷◌, map}
use mathlib.Core.List.Memᴰ.{head as here}
use mathlib.Core.List.Memᴰ.{tail as there}
use native.Mathlib.Omega.{arith}
use lib.ListN.{length, get_or, length-map, get_or-map}
use Rattle.script.specs.Reading.{admitted, read_script}
use Rattle.script.specs.Outcomes.{InRange, Within, Outcome}
use Rattle.script.specs.declared.command.Match.{Match as ScriptMatch}
use Rattle.script.specs.declared.command.Mark.{Mark}
use Rattle.script.proofs.Outcome.{reach-within, reach-range, read-outcome, outcome-admitted}
use Rattle.script.proofs.Holding.{Holds}
use Rattle.refinement.specs.Order.{◌∈◌, Rising}
use Rattle.refinement.specs.declared.Side.{Side}
use Rattle.refinement.specs.declared.Side.TheVariants.{A, B}
use Rattle.refinement.specs.Match.{Match, right, Place}
use Rattle.refinement.specs.Refinement.{Matches}
use Rattle.refining.specs.Columns.{FitRead, columns_read, letters_at, up_from, match_at, matches_of}
use Rattle.refining.specs.Refining.{with_number, numbered, mark_place, Given, given_by, held_in}
use Rattle.refining.specs.Demands.{Admitted, reads}
use Rattle.refining.proofs.RightEnds.{rights-worked}

-- ---- the theory's list

pub numbered-range :
    {m : Match} (n : ℕ) (ms : List ScriptMatch) → m ∈ numbered n ms
    → (n ≤ m.number) × (m.number < n + length (numbered n ms))
numbered-range n [] i = absurd (Memᴰ.not-nil i)
numbered-range n (x ∷ ms) i =
    ⊎_elim (λ e. omega (arith, ap (λ (z : Match). z.number) e)) (λ j. omega (arith, numbered-range (suc n) ms j))
    (Memᴰ.cases_cons i)

numbered-rises : (n : ℕ) (ms : List ScriptMatch) → Rising (λ m m'. m.number < m'.number) (numbered n ms)
numbered-rises n [] = tt
numbered-rises n (x ∷ ms) = (λ m i. (numbered-range (suc n) ms i).0, numbered-rises (suc n) ms)

numbered-lettered : {m : Match} (n : ℕ) (ms : List ScriptMatch) → ((x : ScriptMatch) → x ∈ ms → 1 ≤ x.length)
    → m ∈ numbered n ms → 1 ≤ m.length
numbered-lettered n [] h i = absurd (Memᴰ.not-nil i)
numbered-lettered n (x ∷ ms) h i =
    ⊎_elim (λ e. omega (arith, ap (λ (z : Match). z.length) e, h x (here refl)))
    (λ j. numbered-lettered (suc n) ms (λ y k. h y (there k)) j) (Memᴰ.cases_cons i)

-- the number of a match is no matter for its ends
numbered-fits :
    {m : Match} (n : ℕ) (ms : List ScriptMatch)
    → ((x : ScriptMatch) → x ∈ ms → (s : Side) → right (with_number n x) s < 2 ^ 32) → m ∈ numbered n ms → (s : Side)
    → right m s < 2 ^ 32
numbered-fits n [] fits i s = absurd (Memᴰ.not-nil i)
numbered-fits n (x ∷ ms) fits i s =
    ⊎_elim (λ e. rw e (fits x (here refl) s)) (λ j. numbered-fits (suc n) ms (λ y k. fits y (there k)) j s)
    (Memᴰ.cases_cons i)

-- ---- admitted scripts

module _ {script : List ℕ} where
  pub admitted_of :
      {ls : List ℕ} {ms : List ScriptMatch} {ks : List Mark} → read_script script ≡ admitted ls ms ks
      → Admitted script (given_by ms ks)
  admitted_of e = reads (read-outcome e)

  pub admitted-unique : {g g' : Given} → Admitted script g → Admitted script g' → g ≡ g'
  admitted-unique (reads {ms = xs} {ks = ks} o) (reads {ms = ys} {ks = ls} o') =
      let e : xs ≡ ys = cc (outcome-admitted o, outcome-admitted o') in
      let e' : ks ≡ ls = cc (outcome-admitted o, outcome-admitted o') in
      ap₂ given_by e e'

  pub admitted-matches : {g : Given} → Admitted script g → Matches g.matches
  admitted-matches (reads {ms = ms} (Outcome.is_admitted r b e)) =
      record {
        lettered = λ m i. numbered-lettered 1 ms (λ x k. (reach-within r k).some) i;
        numbered = numbered-rises 1 ms;
      }

  pub admitted-fits : {g : Given} {m : Match} → Admitted script g → m ∈ g.matches → (s : Side) → right m s < 2 ^ 32
  admitted-fits (reads {ms = ms} (Outcome.is_admitted r b e)) i s = numbered-fits 1 ms fits i s
    where
      fits : (x : ScriptMatch) → x ∈ ms → (s : Side) → right (with_number 1 x) s < 2 ^ 32
      fits x k A = omega (arith, reach-within r k, (reach-range r).0.few)
      fits x k B = omega (arith, reach-within r k, (reach-range r).1.few)

-- ---- columns

blank : ScriptMatch
blank = record { track_a = 0; track_b = 1; left_a = 0; left_b = 0; length = 0; reversed = false }

-- if f yields the matches one by one with their numbers, it yields their numbered list
numbered-map :
    (f : ℕ → Match) (n : ℕ) (ms : List ScriptMatch)
    → ((k i : ℕ) → i ≡ n + k → k < length ms → f i ≡ with_number (suc i) (get_or ms k blank))
    → map f (up_from n (length ms)) ≡ numbered (suc n) ms
unfolding up_from
numbered-map f n [] h = refl
numbered-map f n (m ∷ ms) h =
    ap₂ ◌∷◌ (h 0 n (omega arith) (omega arith))
    (numbered-map f (suc n) ms (λ k i e below. h (suc k) i (omega arith) (omega arith)))

pub get_d-∈ : {X : Type 0} (xs : List X) (k : ℕ) (d : X) → k < length xs → get_or xs k d ∈ xs
get_d-∈ [] k d h = absurd (omega arith)
get_d-∈ (x ∷ xs) zero d h = here refl
get_d-∈ (x ∷ xs) (suc k) d h = there (get_d-∈ xs k d (omega arith))

module _ {a b d : List ℕ} {r : List Bool} (ms : List ScriptMatch) (left_a : a ≡ map (λ m. m.left_a) ms)
    (left_b : b ≡ map (λ m. m.left_b) ms) (letters : d ≡ map (λ m. m.length) ms)
    (reversed : r ≡ map (λ m. m.reversed) ms) where
  field_at : {X : Type 0} (field : ScriptMatch → X) {column : List X} → column ≡ map field ms → (k : ℕ)
      → get_or column k (field blank) ≡ field (get_or ms k blank)
  field_at field e k = ap (λ l. get_or l k (field blank)) e ∙ get_or-map field ms k blank

  length-of :
      {X : Type 0} (field : ScriptMatch → X) {column : List X} → column ≡ map field ms → length column ≡ length ms
  length-of field e = ap length e ∙ length-map ms field

  count : length d ≡ length ms
  count = length-of (λ m. m.length) letters

  same_length : (field : ScriptMatch → ℕ) {column : List ℕ} → column ≡ map field ms → length column ≡ length d
  same_length field e = length-of field e ∙ sym count

  -- the columns name no tracks: a match of the first edition is between 0, which is A, and 1, which is B
  pub columns-numbered : ((m : ScriptMatch) → m ∈ ms → (m.track_a ≡ 0) × (m.track_b ≡ 1))
      → matches_of (columns_read a b d r) ≡ numbered 1 ms
  unfolding matches_of blank
  columns-numbered tracks =
      let rights = rights-worked b d (same_length (λ m. m.left_b) left_b) in
      ap (λ (n : ℕ). map (match_at (columns_read a b d r)) (up_from 0 n)) (length-of (λ m. m.reversed) reversed)
      ∙ numbered-map (match_at (columns_read a b d r)) 0 ms (λ k i e below.
      let here : i ≡ k = omega arith in
      let between = tracks (get_or ms k blank) (get_d-∈ ms k blank below) in
      let letters-at : letters_at (columns_read a b d r) k ≡ get_or d k 0 =
      omega (arith, rights.left_plus_length k (omega (arith, count, same_length (λ m. m.left_b) left_b))) in
      rw (
        here,
        letters-at,
        field_at (λ m. m.left_a) left_a k,
        field_at (λ m. m.left_b) left_b k,
        field_at (λ m. m.length) letters k,
        field_at (λ m. m.reversed) reversed k,
        between.0,
        between.1,
      ))

  pub columns-fit : {p q : ℕ} → InRange p → InRange q → ((m : ScriptMatch) → m ∈ ms → Within p q m) → FitRead a b d r
  unfolding blank
  columns-fit {p} {q} rp rq within =
      let letters-at = field_at (λ m. m.length) letters in
      let at : (k : ℕ) → k < length d → Within p q (get_or ms k blank) =
      λ k below. within (get_or ms k blank) (get_d-∈ ms k blank (omega (arith, count))) in
      record {
        on_a = record {
          same_length = same_length (λ m. m.left_a) left_a;
          fits = λ k below.
              omega (arith, (at k below).in_a, rp.few, letters-at k, field_at (λ m. m.left_a) left_a k);
        };
        on_b = record {
          same_length = same_length (λ m. m.left_b) left_b;
          fits = λ k below.
              omega (arith, (at k below).in_b, rq.few, letters-at k, field_at (λ m. m.left_b) left_b k);
        };
        way_length = length-of (λ m. m.reversed) reversed ∙ sym count;
        lettered = λ k below. omega (arith, (at k below).some, letters-at k);
      }

-- columns of the fields of an admitted script's matches
module _ {script : List ℕ} {p q count marks : ℕ} (held : Holds script p q count marks) {a b d : List ℕ} {r : List Bool}
    (left_a : a ≡ map (λ m. m.left_a) held.matches) (left_b : b ≡ map (λ m. m.left_b) held.matches)
    (letters : d ≡ map (λ m. m.length) held.matches) (reversed : r ≡ map (λ m. m.reversed) held.matches) where
  pub held-admitted : {ps : List Place} → ps ≡ map mark_place held.points
      → Admitted script (held_in (columns_read a b d r) ps)
  held-admitted places =
      let same = columns-numbered held.matches left_a left_b letters reversed (λ m i. held.tracks i) in
      rw (places, same) (admitted_of held.read)

  pub held-fit : FitRead a b d r
  held-fit =
      columns-fit held.matches left_a left_b letters reversed held.p_range held.q_range (λ m i. held.within i)
