-- What `column_of` leaves in a lent column, as its demand says it, and in one that is long enough.
--     column-demand      the demand holds of every column, of matches or of marks
--     columns-demand, marks-demand     and of those that are lent
--     column-length      a column stays as long as it was
--     column-next        one more is stored behind those that are
--     column-filled      a column that is long enough begins with the fields of all
-- Assumes nothing.
use Prim.Native.Nat.{ℕ, ◌+◌, ◌≤◌}
use mathlib.Core.Path.{◌≡◌, refl, ap, ◌∙◌}
use mathlib.Core.Bool.{Bool}
use mathlib.Core.List.{List, [], ◌∷◌, ◌++◌, map, map-append}
use native.Mathlib.Omega.{arith}
use lib.ListN.{length, set, take, drop, length-map}
use lib.Seq.{sets, sets-eq, length-sets, take_at}
use Rattle.script.specs.Reading.{Reading, admitted, refused, read_script}
use Rattle.script.specs.Columns.{matches_read, marks_read, column_of, ColumnsRead, MarksRead}
use Rattle.script.specs.Answers.{value, Contents, contents}
use Rattle.script.specs.Outcomes.{Outcome}
use Rattle.script.specs.Demands.{matches_in, marks_in, ColumnDemand, ColumnsDemand, MarksDemand}
use Rattle.script.proofs.Stores.{sets-append, sets_behind, sets-at}
use Rattle.script.proofs.Outcome.{outcome-admitted, outcome-refused}

-- what a reading gives of its contents
abbrev items_read : {X : Type 0} → (Contents → List X) → Reading → List X
items_read items (admitted ls ms ks) = items (contents ls ms ks)
items_read items (refused r) = []

module _ {X Y : Type 0} (s : List ℕ) (items : Contents → List X) (field : X → Y) (column : List Y) where
  -- an outcome's contents are what is read
  contents-read : (c : Contents) → Outcome s (value c) → items_read items (read_script s) ≡ items c
  contents-read (contents ls ms ks) o = rw (outcome-admitted o)

  pub column-demand : {after : List Y} → after ≡ column_of (items_read items (read_script s)) field column
      → ColumnDemand s items field column after
  unfolding column_of
  column-demand is =
      rw is (record {
        as_long = simp length-sets;
        held = λ c o others rest x e below blank.
            rw (contents-read c o, e, map-append)
            (sets-at blank (map field others) (map field rest) (field x) column 0 (length others)
            (omega (arith, length-map others field)) below);
        past = λ c o k h blank.
            rw (contents-read c o)
            (sets_behind blank (map field (items c)) column 0 k (omega (arith, length-map (items c) field)));
        refused = λ o. rw (outcome-refused o).read;
      })

module _ {X Y : Type 0} (xs : List X) (field : X → Y) (column : List Y) where
  pub column-length : length (column_of xs field column) ≡ length column
  unfolding column_of
  column-length = simp length-sets

  pub column-next : (x : X)
      → column_of (xs ++ x ∷ []) field column ≡ set (column_of xs field column) (length xs) (field x)
  unfolding column_of
  column-next x =
      let behind : 0 + length (map field xs) ≡ length xs = omega (arith, length-map xs field) in
      rw (map-append)
      (sets-append (map field xs) (field x ∷ []) column 0
      ∙ ap (λ (n : ℕ). set (sets column 0 (map field xs)) n (field x)) behind)

  pub column-filled : length xs ≤ length column → take (length xs) (column_of xs field column) ≡ map field xs
  unfolding column_of
  column-filled room =
      let rest : List Y = drop (0 + length (map field xs)) column in
      rw (sets-eq (map field xs) column 0 (omega (arith, length-map xs field)))
      (take_at (map field xs) rest (length xs) (length-map xs field))

matches-items : (r : Reading) → matches_read r ≡ items_read matches_in r
matches-items (admitted ls ms ks) = refl
matches-items (refused r) = refl

marks-items : (r : Reading) → marks_read r ≡ items_read marks_in r
marks-items (admitted ls ms ks) = refl
marks-items (refused r) = refl

pub columns-demand : {s a b d a' b' d' : List ℕ} {r r' : List Bool} → ColumnsRead s a b d r a' b' d' r'
    → ColumnsDemand s a b d r a' b' d' r'
columns-demand {s} {a} {b} {d} {r = r} h =
    let same = matches-items (read_script s) in
    record {
      left_a = column-demand s matches_in (λ m. m.left_a) a (rw same at h.left_a);
      left_b = column-demand s matches_in (λ m. m.left_b) b (rw same at h.left_b);
      letters = column-demand s matches_in (λ m. m.length) d (rw same at h.letters);
      reversed = column-demand s matches_in (λ m. m.reversed) r (rw same at h.reversed);
    }

pub marks-demand : {s sides positions sides' positions' : List ℕ} → MarksRead s sides positions sides' positions'
    → MarksDemand s sides positions sides' positions'
marks-demand {s} {sides} {positions} h =
    let same = marks-items (read_script s) in
    record {
      side = column-demand s marks_in (λ k. k.side) sides (rw same at h.side);
      position = column-demand s marks_in (λ k. k.position) positions (rw same at h.position);
    }
