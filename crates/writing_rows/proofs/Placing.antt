-- Rows in the table, written one after the other.
--     five-stores         the five stores of a piece write its row
--     Remaining, remaining-..   the loop over the cuts of one match: what remains to be written; a turn keeps it
--     Done, done-..       the loop over the matches: what is written; a turn keeps it
-- Assumes nothing.
use Prim.Native.Nat.{ℕ, zero, suc, ◌+◌, ◌-◌, ◌*◌, ◌≤◌, ◌<◌, min}
use mathlib.Core.Path.{◌≡◌, refl, sym, ap, ap₂, ◌∙◌}
use mathlib.Core.Bool.{Bool, true, false, cond}
use mathlib.Core.List.{List, [], ◌∷◌, ◌++◌, map, map-append}
use native.Mathlib.Omega.{arith}
use mir.Val.{bool_byte}
use lib.ListN.{length, get_or, set, length-append}
use lib.Seq.{slice, slice-cons, slice_empty, sets, length-sets}
use Rattle.script.specs.Commands.{bit_of}
use Rattle.script.proofs.Stores.{sets-append}
use Rattle.rows.specs.Rows.{row_width, row_numbers, numbers_of}
use Rattle.rows.proofs.Numbers.{numbers-append}
use Rattle.refinement.specs.Match.{Match, match_ab, carry_over, carry_to}
use Rattle.refinement.specs.Least.{piece_of, pieces_between}
use Rattle.refinement.proofs.Geometry.{carry-ends}
use Rattle.runs.specs.Runs.{Bound}
use Rattle.refining.specs.Columns.{Columns, count_of, from_at, from_right_at, to_at, letters_at, way_at}
use Rattle.refining.specs.Columns.{Fit, match_at}
use Rattle.refining.specs.Rows.{row_of_piece, piece_numbers, within, pieces_cut}
use Rattle.refining.proofs.Standing.{length-numbers}
use Rattle.writing_rows.specs.Writing.{Stretch, Cutting, Placed, Writable, Written}
use Rattle.writing_rows.proofs.Within.{cutting, within-bounds, stretch}

-- Rows as numbers.
pieces-append : (rs qs : List Match) → piece_numbers (rs ++ qs) ≡ piece_numbers rs ++ piece_numbers qs
pieces-append rs qs =
    ap numbers_of (map-append row_of_piece rs qs) ∙ numbers-append (map row_of_piece rs) (map row_of_piece qs)

sets_rows :
    (rs qs : List Match) (xs : List ℕ)
    → sets (sets xs 0 (piece_numbers rs)) (row_width * length rs) (piece_numbers qs) ≡ sets xs 0 (piece_numbers (rs ++ qs))
sets_rows rs qs xs =
    let e : 0 + length (piece_numbers rs) ≡ row_width * length rs = omega (arith, length-numbers rs) in
    sym
    (ap (sets xs 0) (pieces-append rs qs) ∙ sets-append (piece_numbers rs) (piece_numbers qs) xs 0
    ∙ ap (λ n. sets (sets xs 0 (piece_numbers rs)) n (piece_numbers qs)) e)

-- One piece.
low-of-ends :
    (b : Bool) {i k l x y : ℕ} → Stretch i k l x y
    → carry_to b i k l (cond b y x) ≡ min (carry_to b i k l x) (carry_to b i k l y)
low-of-ends false s = omega (arith, s.some)
low-of-ends true s = omega (arith, s.some)

low_end :
    (b : Bool) {i k l x y : ℕ} → Stretch i k l x y
    → carry_to b i k l (cond b y x) ≡ min (carry_over b i k (l - k) x) (carry_over b i k (l - k) y)
low_end b {i} {k} {l} {x} {y} s =
    let e : l ≡ k + (l - k) = omega (arith, s.to) in
    low-of-ends b s ∙ ap₂ min (carry-ends b i k (l - k) x e) (carry-ends b i k (l - k) y e)

way : (b : Bool) → bool_byte b ≡ bit_of b
way false = refl
way true = refl

pub five-stores :
    (xs : List ℕ) (at n : ℕ) (b : Bool) {i k l x y low image turn : ℕ} → Stretch i k l x y → low ≡ cond b y x
    → image ≡ carry_to b i k l low → turn ≡ bool_byte b
    → set (set (set (set (set xs at n) (at + 1) x) (at + 2) image) (at + 3) (y - x)) (at + 4) turn
    ≡ sets xs at (row_numbers (row_of_piece (piece_of (match_ab n i k (l - k) b) x y)))
unfolding piece_of
five-stores xs at n b {i} {k} {l} {x} {y} s is-low is-image is-turn =
    let e₁ : at + 1 ≡ suc at = omega arith in
    let e₂ : at + 2 ≡ suc (suc at) = omega arith in
    let e₃ : at + 3 ≡ suc (suc (suc at)) = omega arith in
    let e₄ : at + 4 ≡ suc (suc (suc (suc at))) = omega arith in
    let to = is-image ∙ ap (carry_to b i k l) is-low ∙ low_end b s in
    let turned = is-turn ∙ way b in
    λ j. set (set (set (set (set xs at n) (e₁ j) x) (e₂ j) (to j)) (e₃ j) (y - x)) (e₄ j) (turned j)

-- One match: the rows between its cuts from `at` to `last`.
abbrev rows_from : Match → List ℕ → ℕ → ℕ → List Match
rows_from m work last at = pieces_between m (slice at (suc last) work)

-- the rows from the row `next` on are those between the cuts from `at` on, with what is written before them
pub record Remaining (m : Match) (l : ℕ) (work : List ℕ) (first last row : ℕ) (before table : List ℕ)
    (at next : ℕ) : Type 0 where
  pub cuts : Cutting work first last m.left_a (m.left_a + m.length)
  pub facing : m.left_b + m.length ≡ l
  pub room : row_width * (row + length (rows_from m work last first)) ≤ length before
  pub from : first ≤ at
  pub to : at ≤ last
  pub count : row + length (rows_from m work last first) ≡ next + length (rows_from m work last at)
  pub long : length table ≡ length before
  pub is :
      sets before (row_width * row) (piece_numbers (rows_from m work last first))
      ≡ sets table (row_width * next) (piece_numbers (rows_from m work last at))

module _ {m : Match} {l : ℕ} {work : List ℕ} {first last row : ℕ} {before table : List ℕ} {at next : ℕ}
    (left : Remaining m l work first last row before table at next) where
  rows_step :
      at < last
      → rows_from m work last at ≡ piece_of m (get_or work at 0) (get_or work (suc at) 0) ∷ rows_from m work last (suc at)
  unfolding pieces_between
  rows_step h =
      let x = get_or work at 0 in
      let y = get_or work (suc at) 0 in
      let inside = left.cuts.run.within in
      let e = slice-cons (suc at) (suc last) work 0 (omega arith) inside in
      ap (pieces_between m) (slice-cons at (suc last) work 0 (omega arith) inside ∙ ap (λ zs. x ∷ zs) e)
      ∙ ap (λ zs. piece_of m x y ∷ pieces_between m zs) (sym e)

  rows_end : last ≤ at → rows_from m work last at ≡ []
  unfolding pieces_between
  rows_end h =
      let e : at ≡ last = omega (arith, left.to) in
      ap (rows_from m work last) e
      ∙ ap (pieces_between m)
      (slice-cons last (suc last) work 0 (omega arith) left.cuts.run.within
      ∙ ap (λ zs. get_or work last 0 ∷ zs) (slice_empty (suc last) work))

  pub remaining-stretch :
      at < last → Stretch m.left_a m.left_b l (get_or work at 0) (get_or work (at + 1) 0)
  remaining-stretch = stretch m.left_b l at left.cuts (omega (arith, left.facing)) left.from

  pub remaining-room : at < last → row_width * next + row_width ≤ length table
  remaining-room h = omega (arith, left.room, left.count, left.long, ap length (rows_step h))

  pub remaining-step :
      at < last → {after : List ℕ}
      → after
      ≡ sets table (row_width * next) (row_numbers (row_of_piece (piece_of m (get_or work at 0) (get_or work (at + 1) 0))))
      → Remaining m l work first last row before after (at + 1) (next + 1)
  unfolding numbers_of
  remaining-step h {after} is =
      let e : at + 1 ≡ suc at = omega arith in
      let written = row_numbers (row_of_piece (piece_of m (get_or work at 0) (get_or work (at + 1) 0))) in
      let rest = piece_numbers (rows_from m work last (at + 1)) in
      let n : row_width * next + length written ≡ row_width * (next + 1) = omega arith in
      record {
        cuts = left.cuts;
        facing = left.facing;
        room = left.room;
        from = omega (arith, left.from);
        to = omega arith;
        count = rw e (omega (arith, left.count, ap length (rows_step h)));
        long = ap length is ∙ length-sets table (row_width * next) written ∙ left.long;
        is =
            left.is ∙ ap (λ rs. sets table (row_width * next) (piece_numbers rs)) (rows_step h)
            ∙ rw (← e) (sets-append written rest table (row_width * next) ∙ rw (is, ← n) refl);
      }

  pub remaining-end : last ≤ at → Placed (rows_from m work last first) row before table next
  unfolding numbers_of
  remaining-end h = record {
    count = omega (arith, left.count, ap length (rows_end h));
    table = sym (left.is ∙ ap (λ rs. sets table (row_width * next) (piece_numbers rs)) (rows_end h));
  }

-- All matches: the rows of the first k are written.
pub record Done (columns : Columns) (work : List ℕ) (lo hi : ℕ) (before table : List ℕ)
    (row k : ℕ) : Type 0 where
  pub fit : Fit columns
  pub writable : Writable columns work lo hi before
  pub to : k ≤ count_of columns
  pub count : row ≡ length (pieces_cut columns (slice lo hi work) k)
  pub is : table ≡ sets before 0 (piece_numbers (pieces_cut columns (slice lo hi work) k))

rows_grow :
    (columns : Columns) (run : List ℕ) (n k : ℕ) → k + n ≡ count_of columns
    → length (pieces_cut columns run k) ≤ length (pieces_cut columns run (count_of columns))
unfolding pieces_cut
rows_grow columns run zero k e = let same : k ≡ count_of columns = omega arith in rw same (omega arith)
rows_grow columns run (suc n) k e =
    let here = pieces_between (match_at columns k) (within (from_at columns k) (from_right_at columns k) run) in
    omega (arith, rows_grow columns run n (suc k) (omega arith), length-append (pieces_cut columns run k) here)

module _ {columns : Columns} {work : List ℕ} {lo hi : ℕ} {before : List ℕ} where
  pub done-start : Fit columns → Writable columns work lo hi before → Done columns work lo hi before before 0 0
  unfolding pieces_cut numbers_of
  done-start fit writable =
      record { fit = fit; writable = writable; to = omega arith; count = refl; is = refl }

  module _ {table : List ℕ} {row k : ℕ} (done : Done columns work lo hi before table row k) where
    pub done-long : length table ≡ length before
    done-long = ap length done.is ∙ length-sets before 0 (piece_numbers (pieces_cut columns (slice lo hi work) k))

    pub done_end : count_of columns ≤ k → Written columns (slice lo hi work) before table row
    done_end l =
        let run = slice lo hi work in
        let e : k ≡ count_of columns = omega (arith, done.to) in
        record {
          count = done.count ∙ ap (λ n. length (pieces_cut columns run n)) e;
          table = done.is ∙ ap (λ n. sets before 0 (piece_numbers (pieces_cut columns run n))) e;
        }

    -- the match at k, with the lower bounds of its ends
    module _ (less : k < count_of columns) {first last : ℕ} (left : Bound work lo hi (from_at columns k) first)
        (right : Bound work lo hi (from_right_at columns k) last) where
      ends : from_at columns k ≤ from_right_at columns k
      ends = omega (arith, done.fit.from_right k less)

      pub done-cuts : Cutting work first last (from_at columns k) (from_at columns k + letters_at columns k)
      done-cuts =
          let w = done.writable in
          rw (done.fit.from_right k less) at
          (cutting ends w.run (w.left_in k less) (w.right_in k less) left right)

      -- its rows, numbered as the code does
      abbrev here : List Match
      here =
          pieces_between (match_ab (k + 1) (from_at columns k) (to_at columns k) (letters_at columns k) (way_at columns k))
          (slice first (suc last) work)

      rows-here : pieces_cut columns (slice lo hi work) (k + 1) ≡ pieces_cut columns (slice lo hi work) k ++ here
      unfolding pieces_cut
      rows-here =
          let w = done.writable in
          let e : k + 1 ≡ suc k = omega arith in
          let are = within-bounds ends w.run (w.left_in k less) (w.right_in k less) left right in
          rw (e, are) refl

      pub done-room : row_width * (row + length here) ≤ length table
      done-room =
          let run = slice lo hi work in
          omega (
            arith,
            done-long,
            done.count,
            done.writable.room,
            rows_grow columns run (count_of columns - (k + 1)) (k + 1) (omega arith),
            ap length rows-here,
            length-append (pieces_cut columns run k) here,
          )

      pub done-step :
          {after : List ℕ} {next : ℕ} → Placed here row table after next
          → Done columns work lo hi before after next (k + 1)
      done-step placed =
          let rows = pieces_cut columns (slice lo hi work) k in
          record {
            fit = done.fit;
            writable = done.writable;
            to = omega arith;
            count =
                placed.count ∙ ap (λ n. n + length here) done.count ∙ sym (length-append rows here)
                ∙ ap length (sym rows-here);
            is =
                placed.table ∙ ap (λ n. sets table (row_width * n) (piece_numbers here)) done.count
                ∙ ap (λ t. sets t (row_width * length rows) (piece_numbers here)) done.is
                ∙ sets_rows rows here before ∙ ap (λ rs. sets before 0 (piece_numbers rs)) (sym rows-here);
          }
