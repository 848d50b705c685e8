-- The kinds of lines: a call, what the definitions say of it, and what must come of it.
--     Outcome           all that is there after a call
--     Line              what the definitions say, beside what must come
--     refines, reads, reads_marked, refuses, finds, finds_none, carries_a, carries_b     calls on a script, through the
--                       doors; a script that is `read` has no marks
--     carries_all_a, carries_all_b, carries_none_a, carries_none_b     calls on lists of positions, through the doors
--     chains, chains_none     calls for the backbone, through the door
--     writes, writes_none, lists, lists_none     calls on lists without marks, through the doors
--     writes_marked, writes_marked_none, lists_marked, lists_marked_none     the same with marks
--     stands, sums      calls on a table, through the doors
--     covers            the letters covered, in a table that refining made
--     prints, hands     what the program prints; and the same in a lent buffer, through the door
-- Every lent number, and every number behind a pointer, is 99 before the call, so that a number that is kept shows.
-- The table itself: specs/Lines. Assumes nothing.
use Rattle.std.specs.Prelude.{ℕ, ◌*◌, ◌-◌, cond, List, [], ◌∷◌, ◌++◌, length, take, replicate, eqb, Result, Ok, Err}
use Rattle.script.specs.declared.refusal.Refusal.{Refusal}
use Rattle.records.specs.Writing.{writing_of}
use Rattle.records.specs.Listing.{listing_of}
use Rattle.table.specs.Summing.{summary_of}
use Rattle.refining.specs.Refining.{refining_of}
use Rattle.backbone.specs.Chaining.{chaining_of}
use Rattle.reporting.specs.Reporting.{report_of, reporting_of}
use Rattle.doors.specs.Doors.{Reply, Read, OneMatch, OneChain, RowsReply, SummaryReply, ReportReply}
use Rattle.doors.specs.Doors.{read_door, match_door, refine_door, chain_door, carry_from_a, carry_from_b}
use Rattle.doors.specs.Doors.{carry_all_from_a, carry_all_from_b}
use Rattle.doors.specs.Doors.{write_door, records_door, rows_door, summary_door, report_door}

-- the number returned and all that stands behind the pointers and in the lent buffers after the call; of refining also
-- the distinct pieces of the rows it counts
pub data Outcome : Type 0 where
  refined : Reply ℕ → (distinct : ℕ) (table work : List ℕ) → Outcome
  chained : Reply OneChain → (table work chain scores : List ℕ) → Outcome
  read : Reply Read → Outcome
  found : Reply OneMatch → Outcome
  carried : Reply ℕ → Outcome
  carried_all : Reply (List ℕ) → Outcome
  written : Reply ℕ → (script : List ℕ) → Outcome
  listed : Reply Read → (records marks : List ℕ) → Outcome
  standing : RowsReply → Outcome
  summed : SummaryReply → Outcome
  covered : List ℕ → Outcome
  printed : (text : List ℕ) → Outcome
  handed : ReportReply → (text : List ℕ) → Outcome

pub record Line : Type 0 where
  pub comes : Outcome
  pub leaves : Outcome

abbrev old : ℕ
old = 99

-- ---- refining

-- a refusal's number and place; or the rows of the table, and how many pieces are distinct
pub data Expected : Type 0 where
  refused : (number place : ℕ) → Expected
  pieces : List (List ℕ) → (distinct : ℕ) → Expected

-- a script, the numbers lent as table and as work buffer, and what must come of it
pub record Refining : Type 0 where
  pub script : List ℕ
  pub table : ℕ
  pub work : ℕ
  pub expected : Expected

abbrev pub distinct_of : Result ℕ Refusal → List ℕ → ℕ
distinct_of (Ok n) table = (summary_of (take (5 * n) table)).distinct
distinct_of (Err r) table = 0

abbrev pub covers_of : Result ℕ Refusal → List ℕ → List ℕ
covers_of (Ok n) table = (summary_of (take (5 * n) table)).covers
covers_of (Err r) table = []

abbrev pub flat : List (List ℕ) → List ℕ
flat [] = []
flat (r ∷ rs) = r ++ flat rs

-- only success and 12 alter the work buffer, and only success the table
abbrev pub leaves_of : Expected → ℕ → ℕ → Outcome
leaves_of (refused number place) t w =
    refined (record { number = number; place = place; given = old }) 0 (replicate t old)
    (replicate w (cond (eqb number 12) 0 old))
leaves_of (pieces rows distinct) t w =
    refined (record { number = 0; place = old; given = length rows }) distinct
    (flat rows ++ replicate (t - length (flat rows)) old) (replicate w 0)

abbrev pub refines : Refining → Line
refines l =
    let table = replicate l.table old in
    let work = replicate l.work old in
    let x = refining_of l.script table work in
    record {
      comes =
          refined (refine_door l.script table work old old) (distinct_of x.reply x.table) x.table x.work;
      leaves = leaves_of l.expected l.table l.work;
    }

-- ---- reading, finding, carrying

-- no refusal, and what is handed out; or the refusal's number and place
abbrev gives : {X : Type 0} → X → Reply X
gives x = record { number = 0; place = old; given = x }

abbrev keeps : {X : Type 0} → X → ℕ → ℕ → Reply X
keeps was number place = record { number = number; place = place; given = was }

abbrev old_read : Read
old_read = record { p = old; q = old; count = old; marks = old }

abbrev reads_to : List ℕ → Reply Read → Line
reads_to script x = record { comes = read (read_door script old old_read); leaves = read x }

-- admitted: p, q and the counts of matches and marks
abbrev pub reads_marked : List ℕ → ℕ → ℕ → ℕ → ℕ → Line
reads_marked script p q count marks =
    reads_to script (gives (record { p = p; q = q; count = count; marks = marks }))

abbrev pub reads : List ℕ → ℕ → ℕ → ℕ → Line
reads script p q count = reads_marked script p q count 0

-- refused: the number and the place
abbrev pub refuses : List ℕ → ℕ → ℕ → Line
refuses script number place = reads_to script (keeps old_read number place)

abbrev old_match : OneMatch
old_match = record { left_a = old; left_b = old; letters = old; reversed = old }

abbrev finds_to : List ℕ → ℕ → Reply OneMatch → Line
finds_to script which x = record { comes = found (match_door script which old old_match); leaves = found x }

-- the match of that number: its left-A, left-B, length and direction; or the refusal's number and place
abbrev pub finds : List ℕ → ℕ → ℕ → ℕ → ℕ → ℕ → Line
finds script which left_a left_b letters reversed =
    finds_to script which
    (gives (record { left_a = left_a; left_b = left_b; letters = letters; reversed = reversed }))

abbrev pub finds_none : List ℕ → ℕ → ℕ → ℕ → Line
finds_none script which number place = finds_to script which (keeps old_match number place)

-- a position that is carried, and to where; or the refusal's number and place
abbrev pub to : ℕ → Reply ℕ
to x = gives x

abbrev pub stays : ℕ → ℕ → Reply ℕ
stays number place = keeps old number place

-- from A, and from B, over the match of that number: the position and what must come of it
abbrev pub carries_a : List ℕ → ℕ → ℕ → Reply ℕ → Line
carries_a script which position x =
    record { comes = carried (carry_from_a script which position old old); leaves = carried x }

abbrev pub carries_b : List ℕ → ℕ → ℕ → Reply ℕ → Line
carries_b script which position x =
    record { comes = carried (carry_from_b script which position old old); leaves = carried x }

-- from A, and from B: the positions, how many numbers are lent for them, and what must stand there
abbrev pub carries_all_a : List ℕ → ℕ → List ℕ → ℕ → List ℕ → Line
carries_all_a script which positions room xs = record {
  comes = carried_all (carry_all_from_a script which positions old (replicate room old));
  leaves = carried_all (gives xs);
}

abbrev pub carries_all_b : List ℕ → ℕ → List ℕ → ℕ → List ℕ → Line
carries_all_b script which positions room xs = record {
  comes = carried_all (carry_all_from_b script which positions old (replicate room old));
  leaves = carried_all (gives xs);
}

-- or the refusal's number and place, and all that is lent is kept
abbrev pub carries_none_a : List ℕ → ℕ → List ℕ → ℕ → ℕ → ℕ → Line
carries_none_a script which positions room number place = record {
  comes = carried_all (carry_all_from_a script which positions old (replicate room old));
  leaves = carried_all (keeps (replicate room old) number place);
}

abbrev pub carries_none_b : List ℕ → ℕ → List ℕ → ℕ → ℕ → ℕ → Line
carries_none_b script which positions room number place = record {
  comes = carried_all (carry_all_from_b script which positions old (replicate room old));
  leaves = carried_all (keeps (replicate room old) number place);
}

-- ---- the backbone

-- a script, a gap price, and the numbers lent in each buffer
pub record Chaining : Type 0 where
  pub script : List ℕ
  pub price : ℕ
  pub table : ℕ
  pub work : ℕ
  pub chain : ℕ
  pub scores : ℕ

abbrev old_chain : OneChain
old_chain = record { score = old; rows = old; length = old }

abbrev chains_to : Chaining → Outcome → Line
chains_to l leaves =
    let table = replicate l.table old in
    let work = replicate l.work old in
    let chain = replicate l.chain old in
    let scores = replicate l.scores old in
    let x = chaining_of l.script l.price table work chain scores in
    record {
      comes =
          chained (chain_door l.script l.price table work chain scores old old_chain) x.table x.work
          x.chain x.scores;
      leaves = leaves;
    }

-- the table's rows, the score, and the row numbers at the chain buffer's start
abbrev pub chains : Chaining → List (List ℕ) → ℕ → List ℕ → Line
chains l rows score ks =
    chains_to l
    (chained (gives (record { score = score; rows = length rows; length = length ks }))
    (flat rows ++ replicate (l.table - length (flat rows)) old) (replicate l.work 0)
    (ks ++ replicate (l.chain - length ks) old) (replicate l.scores 0))

-- the refusal's number and place; 12 alone alters a buffer: work and scores
abbrev pub chains_none : Chaining → ℕ → ℕ → Line
chains_none l number place =
    let left = cond (eqb number 12) 0 old in
    chains_to l
    (chained (keeps old_chain number place) (replicate l.table old) (replicate l.work left)
    (replicate l.chain old) (replicate l.scores left))

-- ---- lists

abbrev writes_to : ℕ → ℕ → List ℕ → List ℕ → ℕ → Reply ℕ → List ℕ → Line
writes_to p q records marks lent x script =
    let buffer = replicate lent old in
    record {
      comes = written (write_door p q records marks buffer old old) (writing_of p q records marks buffer).script;
      leaves = written x script;
    }

-- p, q, the records and the marks in a buffer of so many bytes: the script at its start; or the refusal's number and
-- place
abbrev pub writes_marked : ℕ → ℕ → List ℕ → List ℕ → ℕ → List ℕ → Line
writes_marked p q records marks lent script =
    writes_to p q records marks lent (gives (length script)) (script ++ replicate (lent - length script) old)

abbrev pub writes_marked_none : ℕ → ℕ → List ℕ → List ℕ → ℕ → ℕ → ℕ → Line
writes_marked_none p q records marks lent number place =
    writes_to p q records marks lent (keeps old number place) (replicate lent old)

abbrev pub writes : ℕ → ℕ → List ℕ → ℕ → List ℕ → Line
writes p q records lent script = writes_marked p q records [] lent script

abbrev pub writes_none : ℕ → ℕ → List ℕ → ℕ → ℕ → ℕ → Line
writes_none p q records lent number place = writes_marked_none p q records [] lent number place

abbrev lists_to : List ℕ → ℕ → ℕ → Reply Read → List ℕ → List ℕ → Line
lists_to script lent lent-marks x records marks =
    let buffer = replicate lent old in
    let points = replicate lent-marks old in
    let y = listing_of script buffer points in
    record {
      comes = listed (records_door script buffer points old old_read) y.records y.marks;
      leaves = listed x records marks;
    }

-- what was read: p and q, and the numbers of the records and of the marks
pub record Lists : Type 0 where
  pub p : ℕ
  pub q : ℕ
  pub count : ℕ
  pub records : List ℕ
  pub mark_count : ℕ
  pub marks : List ℕ

-- a script in buffers of so many numbers: both lists at their start; or number and place
abbrev pub lists_marked : List ℕ → ℕ → ℕ → Lists → Line
lists_marked script lent lent-marks l =
    lists_to script lent lent-marks
    (gives (record { p = l.p; q = l.q; count = l.count; marks = l.mark_count }))
    (l.records ++ replicate (lent - length l.records) old)
    (l.marks ++ replicate (lent-marks - length l.marks) old)

abbrev pub lists_marked_none : List ℕ → ℕ → ℕ → ℕ → ℕ → Line
lists_marked_none script lent lent-marks number place =
    lists_to script lent lent-marks (keeps old_read number place) (replicate lent old) (replicate lent-marks old)

abbrev pub lists : List ℕ → ℕ → ℕ → ℕ → ℕ → List ℕ → Line
lists script lent p q count records =
    lists_marked script lent 1
    (record { p = p; q = q; count = count; records = records; mark_count = 0; marks = [] })

abbrev pub lists_none : List ℕ → ℕ → ℕ → ℕ → Line
lists_none script lent number place = lists_marked_none script lent 1 number place

-- ---- tables

-- the rows of the match of that number: from where to where they stand
abbrev pub stands : List ℕ → ℕ → ℕ → ℕ → Line
stands table which start end =
    record {
      comes = standing (rows_door table which);
      leaves = standing (record { number = 0; start = start; end = end });
    }

-- pieces, distinct pieces, the letters covered on A and on B, and the classes
abbrev pub sums : List ℕ → ℕ → ℕ → ℕ → ℕ → List ℕ → Line
sums table all distinct on_a on_b classes =
    record {
      comes = summed (summary_door table);
      leaves =
          summed
          (record { number = 0; pieces = all; distinct = distinct; covers = on_a ∷ on_b ∷ []; classes = classes });
    }

-- of a script that is refined with room for so many rows, the letters covered on A and on B
abbrev pub covers : List ℕ → ℕ → ℕ → ℕ → Line
covers script rows on_a on_b =
    let x = refining_of script (replicate (5 * rows) old) (replicate (4 * rows) old) in
    record { comes = covered (covers_of x.reply x.table); leaves = covered (on_a ∷ on_b ∷ []) }

-- ---- the text

abbrev pub prints : List ℕ → List ℕ → Line
prints script text = record { comes = printed (report_of script); leaves = printed text }

-- in a buffer of so many bytes: the number, the length that is told, and the buffer after the call
abbrev pub hands : List ℕ → ℕ → ℕ → ℕ → List ℕ → Line
hands script lent number told text =
    let buffer = replicate lent old in
    record {
      comes = handed (report_door script buffer) (reporting_of script buffer).text;
      leaves = handed (record { number = number; length = told }) text;
    }
