-- What the refining call does, on every script and any two lent buffers. TO READ: contracts mean what stands here.
--     with_number n m                a match of a script as one of the theory, with the number n
--     numbered n ms                 the matches of a script as those of the theory, numbered from n on
--     mark_place k                   the place that a mark of a script names
--     Given                         what is refined: matches and marks
--     given_by ms ks                 what a script with the matches ms and the marks ks gives
--     held_in c marks                what the columns c hold, beside marks
--     least_of g                     the least table of what is given
--     capacity_of table              how many rows the lent table has room for
--     work_needed table              how many numbers the work buffer needs
--     zeroed work                   the work buffer, all zero
--     Refining                      the reply, and what the table and the work buffer hold after the call
--     refining_of script table work  all three, by what the script and the two buffers hold before it
-- 01, "The table and its buffers" and "Refused scripts and calls"; 02, #106. Assumes nothing.
use Rattle.std.specs.Prelude.{ℕ, suc, ◌*◌, ◌/◌, cond, List, [], ◌∷◌, ◌++◌, map, length, drop, replicate, ltb}
use Rattle.std.specs.Prelude.{Result, Ok, Err}
use Rattle.script.specs.Reading.{Reading, admitted, refused, read_script}
use Rattle.script.specs.declared.command.Match.{Match as ScriptMatch}
use Rattle.script.specs.declared.command.Mark.{Mark}
use Rattle.script.specs.declared.refusal.Refusal.{Refusal}
use Rattle.script.specs.declared.refusal.Refusal.TheVariants.{WorkTooShort, TooManyPieces}
use Rattle.rows.specs.Rows.{row_width}
use Rattle.refinement.specs.Match.{Match, Place}
use Rattle.refinement.specs.Least.{least_table}
use Rattle.refining.specs.Columns.{Columns, matches_of}
use Rattle.refining.specs.Rows.{piece_numbers}

abbrev pub with_number : ℕ → ScriptMatch → Match
with_number n m =
    record {
      number = n;
      track_a = m.track_a;
      left_a = m.left_a;
      track_b = m.track_b;
      left_b = m.left_b;
      length = m.length;
      reversed = m.reversed;
    }

-- SCOPE, "Numbering": in the order of the script, from 1 on
abbrev pub numbered : ℕ → List ScriptMatch → List Match
numbered n [] = []
numbered n (m ∷ ms) = with_number n m ∷ numbered (suc n) ms

-- SCOPE, "Marks": a mark's side is its track, A being 0 and B 1
abbrev pub mark_place : Mark → Place
mark_place k = record { track = k.side; position = k.position }

-- what is refined: matches, and the marks that have to be cuts where a match spans them
pub record Given : Type 0 where
  pub matches : List Match
  pub marks : List Place

-- SCOPE, "Numbering" and "Marks": the matches of a script, from 1 on, and its marks, which have no numbers
abbrev pub given_by : List ScriptMatch → List Mark → Given
given_by ms ks = record { matches = numbered 1 ms; marks = map mark_place ks }

-- the matches of columns, which are numbered so too
abbrev pub held_in : Columns → List Place → Given
held_in c marks = record { matches = matches_of c; marks = marks }

-- the rows that the call writes, where there is room
abbrev pub least_of : Given → List Match
least_of g = least_table g.matches g.marks

-- SCOPE, "Capacity": as many rows as the table has whole ones
abbrev pub capacity_of : List ℕ → ℕ
capacity_of table = length table / row_width

-- SCOPE, "Work": four numbers for each of these rows
abbrev pub work_needed : List ℕ → ℕ
work_needed table = 4 * capacity_of table

-- as many numbers as the buffer has, each 0
abbrev pub zeroed : List ℕ → List ℕ
zeroed work = replicate (length work) 0

pub record Refining : Type 0 where
  pub reply : Result ℕ Refusal
  pub table : List ℕ
  pub work : List ℕ

-- what an admitted script gives: 11, then 12, then the rows of the least table. SCOPE, "Past the rows" and "Work
-- after": the numbers behind the rows stay, and the work buffer is zero after success and after 12.
unfoldable pub refining_of_matches : Given → List ℕ → List ℕ → Refining
refining_of_matches g table work =
    let least = least_of g in
    let rows = piece_numbers least in
    let over = rows ++ drop (length rows) table in
    let short : Refining = record { reply = Err WorkTooShort; table = table; work = work } in
    let crowded : Refining = record { reply = Err TooManyPieces; table = table; work = zeroed work } in
    let written : Refining = record { reply = Ok (length least); table = over; work = zeroed work } in
    cond (ltb (length work) (work_needed table)) short (cond (ltb (capacity_of table) (length least)) crowded written)

-- SCOPE, "Order of refining" and "Kept when refused": the script's own refusal comes first, and alters nothing
abbrev pub refining_of_reading : Reading → List ℕ → List ℕ → Refining
refining_of_reading (refused r) table work = record { reply = Err r; table = table; work = work }
refining_of_reading (admitted ls ms ks) table work = refining_of_matches (given_by ms ks) table work

unfoldable pub refining_of : List ℕ → List ℕ → List ℕ → Refining
refining_of script table work = refining_of_reading (read_script script) table work
