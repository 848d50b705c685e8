-- What a reading leaves in columns that are lent for its matches and its marks. TO READ: contracts mean what stands
-- here.
--     matches_read r, marks_read r       the matches and the marks of a reading; of a refused script there are none
--     column_of items field column      the column with one field of each item, as far as it reaches
--     column_read s field column        the column of the matches of the bytes s
--     mark_column_read s field column    the column of its marks
--     ColumnsRead, MarksRead           the four columns of the matches and the two of the marks, by one equation each
-- 01, "The script" and "Refused scripts and calls": match k stands at k - 1, a refused call leaves each lent number
-- unaltered, and after success those that nothing is written to keep their values. 02, #106. Assumes nothing.
use Rattle.std.specs.Prelude.{ℕ, ◌≡◌, Bool, List, [], map}
use Rattle.std.proofs.lemmas.List.Edits.{sets}
use Rattle.script.specs.Reading.{Reading, admitted, refused, read_script}
use Rattle.script.specs.declared.command.Match.{Match}
use Rattle.script.specs.declared.command.Mark.{Mark}

abbrev pub matches_read : Reading → List Match
matches_read (admitted ls ms ks) = ms
matches_read (refused r) = []

abbrev pub marks_read : Reading → List Mark
marks_read (admitted ls ms ks) = ks
marks_read (refused r) = []

-- SCOPE, "Numbering": the fields are stored from the column's start, in the order of the script; a store past the
-- column's end changes nothing
unfoldable pub column_of : {X Y : Type 0} → List X → (X → Y) → List Y → List Y
column_of items field column = sets column 0 (map field items)

abbrev pub column_read : {Y : Type 0} → List ℕ → (Match → Y) → List Y → List Y
column_read s field column = column_of (matches_read (read_script s)) field column

-- SCOPE, "Marks": the same of the marks
abbrev pub mark_column_read : {Y : Type 0} → List ℕ → (Mark → Y) → List Y → List Y
mark_column_read s field column = column_of (marks_read (read_script s)) field column

-- each column before and after
pub record ColumnsRead (s a b d : List ℕ) (r : List Bool) (a' b' d' : List ℕ) (r' : List Bool) : Type 0 where
  pub left_a : a' ≡ column_read s (λ m. m.left_a) a
  pub left_b : b' ≡ column_read s (λ m. m.left_b) b
  pub letters : d' ≡ column_read s (λ m. m.length) d
  pub reversed : r' ≡ column_read s (λ m. m.reversed) r

pub record MarksRead (s sides positions sides' positions' : List ℕ) : Type 0 where
  pub side : sides' ≡ mark_column_read s (λ k. k.side) sides
  pub position : positions' ≡ mark_column_read s (λ k. k.position) positions
