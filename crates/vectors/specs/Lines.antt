-- 01's lines marked M as one table, and with them lines for what 01 says with numbers but does not mark: each refusal's
-- number and place, the order of a number's bytes, the limits, which classes are printed, where a position is carried,
-- and for lists, distinct pieces, the backbone, marks and lists of positions what 02 says of them.
-- TO READ beside 01, "Small scripts at the edges", "Refused scripts and calls" and "One run, complete". All bytes are
-- written out: the table says by itself in which order a number's bytes stand and how a number is printed.
--     lines               the table; `specs/Kinds` has the kinds of lines
--     most_pass, one_more, most_marks_pass, one_mark_more     four more lines, which are too long to be computed
-- Assumes nothing.
use Rattle.std.specs.Prelude.{ℕ, zero, suc, List, [], ◌∷◌, ◌++◌, replicate}
use Rattle.vectors.specs.Kinds.{Line, Expected, refused, pieces, flat, refines, reads, refuses, finds, finds_none}
use Rattle.vectors.specs.Kinds.{to, stays, carries_a, carries_b, stands, sums, covers, prints, hands}
use Rattle.vectors.specs.Kinds.{carries_all_a, carries_all_b, carries_none_a, carries_none_b}
use Rattle.vectors.specs.Kinds.{chains, chains_none, writes, writes_none, lists, lists_none}
use Rattle.vectors.specs.Kinds.{reads_marked, writes_marked, writes_marked_none, lists_marked, lists_marked_none}

-- ---- scripts

-- a number below 256, and the largest of four bytes
abbrev small : ℕ → List ℕ
small n = n ∷ 0 ∷ 0 ∷ 0 ∷ []

abbrev largest : List ℕ
largest = 255 ∷ 255 ∷ 255 ∷ 255 ∷ []

abbrev pub lengths : ℕ → ℕ → List ℕ
lengths p q = 0x4C ∷ small p ++ small q

abbrev pub direct : ℕ → ℕ → ℕ → List ℕ
direct a b d = 0x44 ∷ small a ++ small b ++ small d

abbrev backward : ℕ → ℕ → ℕ → List ℕ
backward a b d = 0x52 ∷ small a ++ small b ++ small d

-- a mark: one byte for the side, and a position
abbrev pub mark : ℕ → ℕ → List ℕ
mark side h = 0x4D ∷ side ∷ small h

abbrev pub end : List ℕ
end = 0x45 ∷ []

-- lengths of all four bytes each
abbrev lengths_in : List ℕ → List ℕ → List ℕ
lengths_in p q = 0x4C ∷ p ++ q

abbrev billion : List ℕ
billion = 0x00 ∷ 0xCA ∷ 0x9A ∷ 0x3B ∷ []

abbrev billion_and_one : List ℕ
billion_and_one = 0x01 ∷ 0xCA ∷ 0x9A ∷ 0x3B ∷ []

-- each number of four different bytes, least byte first: p is 975771399, and so on as in the table
abbrev four_bytes : List ℕ
four_bytes =
    flat
    (lengths_in (0x07 ∷ 0x17 ∷ 0x29 ∷ 0x3A ∷ []) (0x08 ∷ 0x18 ∷ 0x2A ∷ 0x3B ∷ [])
    ∷ (0x44 ∷ 0x0D ∷ 0x0C ∷ 0x0B ∷ 0x0A ∷ [])
    ∷ (0x11 ∷ 0x10 ∷ 0x0F ∷ 0x0E ∷ [])
    ∷ (0x15 ∷ 0x14 ∷ 0x13 ∷ 0x12 ∷ [])
    ∷ (0x52 ∷ 0x01 ∷ 0x02 ∷ 0x03 ∷ 0x04 ∷ [])
    ∷ (0x05 ∷ 0x06 ∷ 0x07 ∷ 0x08 ∷ [])
    ∷ (0x09 ∷ 0x0A ∷ 0x0B ∷ 0x0C ∷ [])
    ∷ end
    ∷ [])

-- its matches as records, and those of the run below
abbrev four_records : List ℕ
four_records = 168496141 ∷ 235868177 ∷ 303240213 ∷ 0 ∷ 67305985 ∷ 134678021 ∷ 202050057 ∷ 1 ∷ []

abbrev run_records : List ℕ
run_records = 0 ∷ 0 ∷ 6 ∷ 0 ∷ 2 ∷ 3 ∷ 5 ∷ 1 ∷ []

-- two matches, each with another left-A than left-B
abbrev pairs : List ℕ
pairs = lengths 30 40 ++ direct 3 11 6 ++ backward 12 20 5 ++ end

abbrev run : List ℕ
run = lengths 10 10 ++ direct 0 0 6 ++ backward 2 3 5 ++ end

abbrev run_rows : List (List ℕ)
run_rows =
    (1 ∷ 0 ∷ 0 ∷ 2 ∷ 0 ∷ [])
    ∷ (1 ∷ 2 ∷ 2 ∷ 1 ∷ 0 ∷ [])
    ∷ (1 ∷ 3 ∷ 3 ∷ 1 ∷ 0 ∷ [])
    ∷ (1 ∷ 4 ∷ 4 ∷ 2 ∷ 0 ∷ [])
    ∷ (2 ∷ 2 ∷ 7 ∷ 1 ∷ 1 ∷ [])
    ∷ (2 ∷ 3 ∷ 6 ∷ 1 ∷ 1 ∷ [])
    ∷ (2 ∷ 4 ∷ 4 ∷ 2 ∷ 1 ∷ [])
    ∷ (2 ∷ 6 ∷ 3 ∷ 1 ∷ 1 ∷ [])
    ∷ []

abbrev run_pieces : Expected
run_pieces = pieces run_rows 8

-- the run with a mark in the middle, and its rows with a cut at A 1, which match 1 carries to B 1
abbrev run_with : List ℕ → List ℕ
run_with m = lengths 10 10 ++ direct 0 0 6 ++ m ++ backward 2 3 5 ++ end

abbrev marked_rows : List (List ℕ)
marked_rows =
    (1 ∷ 0 ∷ 0 ∷ 1 ∷ 0 ∷ [])
    ∷ (1 ∷ 1 ∷ 1 ∷ 1 ∷ 0 ∷ [])
    ∷ (1 ∷ 2 ∷ 2 ∷ 1 ∷ 0 ∷ [])
    ∷ (1 ∷ 3 ∷ 3 ∷ 1 ∷ 0 ∷ [])
    ∷ (1 ∷ 4 ∷ 4 ∷ 2 ∷ 0 ∷ [])
    ∷ (2 ∷ 2 ∷ 7 ∷ 1 ∷ 1 ∷ [])
    ∷ (2 ∷ 3 ∷ 6 ∷ 1 ∷ 1 ∷ [])
    ∷ (2 ∷ 4 ∷ 4 ∷ 2 ∷ 1 ∷ [])
    ∷ (2 ∷ 6 ∷ 3 ∷ 1 ∷ 1 ∷ [])
    ∷ []

-- one match of four letters from 0 on, and a mark behind it
abbrev four_with : List ℕ → List ℕ
four_with m = lengths 10 10 ++ direct 0 0 4 ++ m ++ end

-- one match from A 0 to B 4, where a side's positions tell which side it is
abbrev shifted_with : List ℕ → List ℕ
shifted_with m = lengths 10 10 ++ direct 0 4 4 ++ m ++ end

-- marks and matches in this order, and with the matches first
abbrev mixed : List ℕ
mixed = lengths 10 12 ++ mark 1 12 ++ direct 0 0 6 ++ mark 0 1 ++ backward 2 3 5 ++ end

abbrev sorted : List ℕ
sorted = lengths 10 12 ++ direct 0 0 6 ++ backward 2 3 5 ++ mark 1 12 ++ mark 0 1 ++ end

-- the text of the run above, letter by letter
abbrev run_text : List ℕ
run_text =
    flat
    -- lengths 10 10
    ((108 ∷ 101 ∷ 110 ∷ 103 ∷ 116 ∷ 104 ∷ 115 ∷ 32 ∷ 49 ∷ 48 ∷ 32 ∷ 49 ∷ 48 ∷ 10 ∷ [])
    -- matches 2 pieces 8 distinct 8 covers 7 8
    ∷ (109 ∷ 97 ∷ 116 ∷ 99 ∷ 104 ∷ 101 ∷ 115 ∷ 32 ∷ 50 ∷ 32 ∷ 112 ∷ 105 ∷ 101 ∷ 99 ∷ 101 ∷ 115 ∷ 32 ∷ 56 ∷ 32
    ∷ 100 ∷ 105 ∷ 115 ∷ 116 ∷ 105 ∷ 110 ∷ 99 ∷ 116 ∷ 32 ∷ 56 ∷ 32 ∷ 99 ∷ 111 ∷ 118 ∷ 101 ∷ 114 ∷ 115
    ∷ 32 ∷ 55 ∷ 32 ∷ 56 ∷ 10 ∷ [])
    -- 1 0 0 2 +
    ∷ (49 ∷ 32 ∷ 48 ∷ 32 ∷ 48 ∷ 32 ∷ 50 ∷ 32 ∷ 43 ∷ 10 ∷ [])
    -- 1 2 2 1 +
    ∷ (49 ∷ 32 ∷ 50 ∷ 32 ∷ 50 ∷ 32 ∷ 49 ∷ 32 ∷ 43 ∷ 10 ∷ [])
    -- 1 3 3 1 +
    ∷ (49 ∷ 32 ∷ 51 ∷ 32 ∷ 51 ∷ 32 ∷ 49 ∷ 32 ∷ 43 ∷ 10 ∷ [])
    -- 1 4 4 2 +
    ∷ (49 ∷ 32 ∷ 52 ∷ 32 ∷ 52 ∷ 32 ∷ 50 ∷ 32 ∷ 43 ∷ 10 ∷ [])
    -- 2 2 7 1 -
    ∷ (50 ∷ 32 ∷ 50 ∷ 32 ∷ 55 ∷ 32 ∷ 49 ∷ 32 ∷ 45 ∷ 10 ∷ [])
    -- 2 3 6 1 -
    ∷ (50 ∷ 32 ∷ 51 ∷ 32 ∷ 54 ∷ 32 ∷ 49 ∷ 32 ∷ 45 ∷ 10 ∷ [])
    -- 2 4 4 2 -
    ∷ (50 ∷ 32 ∷ 52 ∷ 32 ∷ 52 ∷ 32 ∷ 50 ∷ 32 ∷ 45 ∷ 10 ∷ [])
    -- 2 6 3 1 -
    ∷ (50 ∷ 32 ∷ 54 ∷ 32 ∷ 51 ∷ 32 ∷ 49 ∷ 32 ∷ 45 ∷ 10 ∷ [])
    -- class 0 5
    ∷ (99 ∷ 108 ∷ 97 ∷ 115 ∷ 115 ∷ 32 ∷ 48 ∷ 32 ∷ 53 ∷ 10 ∷ [])
    -- class 1 3
    ∷ (99 ∷ 108 ∷ 97 ∷ 115 ∷ 115 ∷ 32 ∷ 49 ∷ 32 ∷ 51 ∷ 10 ∷ [])
    ∷ [])

-- matches apart from each other: one of class 0, none of class 1, two of class 2
abbrev apart : List ℕ
apart = lengths 20 30 ++ direct 0 0 1 ++ direct 2 3 4 ++ backward 7 9 5 ++ end

abbrev apart_text : List ℕ
apart_text =
    flat
    -- lengths 20 30
    ((108 ∷ 101 ∷ 110 ∷ 103 ∷ 116 ∷ 104 ∷ 115 ∷ 32 ∷ 50 ∷ 48 ∷ 32 ∷ 51 ∷ 48 ∷ 10 ∷ [])
    -- matches 3 pieces 3 distinct 3 covers 10 10
    ∷ (109 ∷ 97 ∷ 116 ∷ 99 ∷ 104 ∷ 101 ∷ 115 ∷ 32 ∷ 51 ∷ 32 ∷ 112 ∷ 105 ∷ 101 ∷ 99 ∷ 101 ∷ 115 ∷ 32 ∷ 51 ∷ 32
    ∷ 100 ∷ 105 ∷ 115 ∷ 116 ∷ 105 ∷ 110 ∷ 99 ∷ 116 ∷ 32 ∷ 51 ∷ 32 ∷ 99 ∷ 111 ∷ 118 ∷ 101 ∷ 114 ∷ 115
    ∷ 32 ∷ 49 ∷ 48 ∷ 32 ∷ 49 ∷ 48 ∷ 10 ∷ [])
    -- 1 0 0 1 +
    ∷ (49 ∷ 32 ∷ 48 ∷ 32 ∷ 48 ∷ 32 ∷ 49 ∷ 32 ∷ 43 ∷ 10 ∷ [])
    -- 2 2 3 4 +
    ∷ (50 ∷ 32 ∷ 50 ∷ 32 ∷ 51 ∷ 32 ∷ 52 ∷ 32 ∷ 43 ∷ 10 ∷ [])
    -- 3 7 9 5 -
    ∷ (51 ∷ 32 ∷ 55 ∷ 32 ∷ 57 ∷ 32 ∷ 53 ∷ 32 ∷ 45 ∷ 10 ∷ [])
    -- class 0 1
    ∷ (99 ∷ 108 ∷ 97 ∷ 115 ∷ 115 ∷ 32 ∷ 48 ∷ 32 ∷ 49 ∷ 10 ∷ [])
    -- class 2 2
    ∷ (99 ∷ 108 ∷ 97 ∷ 115 ∷ 115 ∷ 32 ∷ 50 ∷ 32 ∷ 50 ∷ 10 ∷ [])
    ∷ [])

-- two ways of two pieces each to a fifth piece, and the rows of the table
abbrev ways : List ℕ
ways = lengths 30 30 ++ direct 0 6 2 ++ direct 6 0 2 ++ direct 9 3 2 ++ direct 3 9 2 ++ direct 20 20 2 ++ end

abbrev ways_rows : List (List ℕ)
ways_rows =
    (1 ∷ 0 ∷ 6 ∷ 2 ∷ 0 ∷ [])
    ∷ (2 ∷ 6 ∷ 0 ∷ 2 ∷ 0 ∷ [])
    ∷ (3 ∷ 9 ∷ 3 ∷ 2 ∷ 0 ∷ [])
    ∷ (4 ∷ 3 ∷ 9 ∷ 2 ∷ 0 ∷ [])
    ∷ (5 ∷ 20 ∷ 20 ∷ 2 ∷ 0 ∷ [])
    ∷ []

-- direct 1 0 10, and its line, refused 8 9
abbrev beyond : List ℕ
beyond = lengths 10 10 ++ direct 1 0 10 ++ end

abbrev beyond_text : List ℕ
beyond_text = 114 ∷ 101 ∷ 102 ∷ 117 ∷ 115 ∷ 101 ∷ 100 ∷ 32 ∷ 56 ∷ 32 ∷ 57 ∷ 10 ∷ []

-- SCOPE, "Any contents": the run of 2 broken off and resumed, lengths in no class, directions of 7, a piece twice,
-- numbers at the end that form no row
abbrev anything : List ℕ
anything =
    flat
    ((4 ∷ 10 ∷ 20 ∷ 8 ∷ 7 ∷ [])
    ∷ (2 ∷ 0 ∷ 0 ∷ 1 ∷ 0 ∷ [])
    ∷ (2 ∷ 5 ∷ 6 ∷ 0 ∷ 7 ∷ [])
    ∷ (9 ∷ 10 ∷ 20 ∷ 8 ∷ 7 ∷ [])
    ∷ (2 ∷ 0 ∷ 0 ∷ 4294967295 ∷ 0 ∷ [])
    ∷ (2 ∷ 0 ∷ 7 ∷ 1073741824 ∷ 0 ∷ [])
    ∷ (0 ∷ 3 ∷ 7 ∷ 1073741823 ∷ 7 ∷ [])
    ∷ (3 ∷ 1 ∷ 1 ∷ [])
    ∷ [])

-- ---- the table

abbrev pub lines : List Line
lines =
    -- no bytes: 1 at 0
    refines (record { script = []; table = 5; work = 4; expected = refused 1 0 })
    -- lengths 1 1, end: no pieces
    ∷ refines (record { script = lengths 1 1 ++ end; table = 5; work = 4; expected = pieces [] 0 })
    -- the same with a byte behind: 10 at 10
    ∷ refines (record { script = lengths 1 1 ++ end ++ (0 ∷ []); table = 5; work = 4; expected = refused 10 10 })
    -- p = q = 10, direct 0 0 10: one piece
    ∷ refines (record {
      script = lengths 10 10 ++ direct 0 0 10 ++ end;
      table = 7;
      work = 4;
      expected = pieces ((1 ∷ 0 ∷ 0 ∷ 10 ∷ 0 ∷ []) ∷ []) 1;
    })
    -- direct 1 0 10: 8 at 9
    ∷ refines (record { script = beyond; table = 5; work = 4; expected = refused 8 9 })
    -- direct 1 0 4294967295: 8 at 9; the sum must not wrap
    ∷ refines (record {
      script = lengths 10 10 ++ (0x44 ∷ small 1 ++ small 0 ++ largest) ++ end;
      table = 5;
      work = 4;
      expected = refused 8 9;
    })
    -- the run above
    ∷ refines (record { script = run; table = 60; work = 50; expected = run_pieces })
    -- that run with 40 numbers of table gives 8 rows; with 39, and 28 of work or more, refusal 12
    ∷ refines (record { script = run; table = 40; work = 32; expected = run_pieces })
    ∷ refines (record { script = run; table = 39; work = 28; expected = refused 12 0 })
    -- (not M) with 40 numbers of table, 32 of work pass and 31 give 11
    ∷ refines (record { script = run; table = 40; work = 31; expected = refused 11 0 })
    -- (not M) 11 before 12, and the script's own refusal before both
    ∷ refines (record { script = run; table = 39; work = 27; expected = refused 11 0 })
    ∷ refines (record { script = lengths 1 1; table = 5; work = 3; expected = refused 3 9 })
    -- lengths 4 4, direct 0 0 4 twice: 2 pieces, 1 distinct
    ∷ refines (record {
      script = lengths 4 4 ++ direct 0 0 4 ++ direct 0 0 4 ++ end;
      table = 10;
      work = 8;
      expected = pieces ((1 ∷ 0 ∷ 0 ∷ 4 ∷ 0 ∷ []) ∷ (2 ∷ 0 ∷ 0 ∷ 4 ∷ 0 ∷ []) ∷ []) 1;
    })
    -- the same lengths, direct 0 0 4 and reversed 0 0 4: 2 pieces, 2 distinct
    ∷ refines (record {
      script = lengths 4 4 ++ direct 0 0 4 ++ backward 0 0 4 ++ end;
      table = 10;
      work = 8;
      expected = pieces ((1 ∷ 0 ∷ 0 ∷ 4 ∷ 0 ∷ []) ∷ (2 ∷ 0 ∷ 0 ∷ 4 ∷ 1 ∷ []) ∷ []) 2;
    })
    -- lengths 5 5, direct 0 0 4, direct 0 1 4: 8 pieces of length 1; one round of carrying would miss some
    ∷ refines (record {
      script = lengths 5 5 ++ direct 0 0 4 ++ direct 0 1 4 ++ end;
      table = 40;
      work = 32;
      expected =
          pieces
          ((1 ∷ 0 ∷ 0 ∷ 1 ∷ 0 ∷ [])
          ∷ (1 ∷ 1 ∷ 1 ∷ 1 ∷ 0 ∷ [])
          ∷ (1 ∷ 2 ∷ 2 ∷ 1 ∷ 0 ∷ [])
          ∷ (1 ∷ 3 ∷ 3 ∷ 1 ∷ 0 ∷ [])
          ∷ (2 ∷ 0 ∷ 1 ∷ 1 ∷ 0 ∷ [])
          ∷ (2 ∷ 1 ∷ 2 ∷ 1 ∷ 0 ∷ [])
          ∷ (2 ∷ 2 ∷ 3 ∷ 1 ∷ 0 ∷ [])
          ∷ (2 ∷ 3 ∷ 4 ∷ 1 ∷ 0 ∷ [])
          ∷ [])
          8;
    })
    -- (not M) a staircase that needs several rounds, direct and reversed
    ∷ refines (record {
      script = lengths 12 12 ++ direct 0 0 2 ++ direct 1 2 2 ++ direct 2 1 4 ++ backward 3 5 3 ++ end;
      table = 55;
      work = 44;
      expected =
          pieces
          ((1 ∷ 0 ∷ 0 ∷ 1 ∷ 0 ∷ [])
          ∷ (1 ∷ 1 ∷ 1 ∷ 1 ∷ 0 ∷ [])
          ∷ (2 ∷ 1 ∷ 2 ∷ 1 ∷ 0 ∷ [])
          ∷ (2 ∷ 2 ∷ 3 ∷ 1 ∷ 0 ∷ [])
          ∷ (3 ∷ 2 ∷ 1 ∷ 1 ∷ 0 ∷ [])
          ∷ (3 ∷ 3 ∷ 2 ∷ 1 ∷ 0 ∷ [])
          ∷ (3 ∷ 4 ∷ 3 ∷ 1 ∷ 0 ∷ [])
          ∷ (3 ∷ 5 ∷ 4 ∷ 1 ∷ 0 ∷ [])
          ∷ (4 ∷ 3 ∷ 7 ∷ 1 ∷ 1 ∷ [])
          ∷ (4 ∷ 4 ∷ 6 ∷ 1 ∷ 1 ∷ [])
          ∷ (4 ∷ 5 ∷ 5 ∷ 1 ∷ 1 ∷ [])
          ∷ [])
          11;
    })
    -- the program on the run above, and on direct 1 0 10
    ∷ prints run run_text
    ∷ prints beyond beyond_text
    -- (from here on not M) a class of one piece is printed, an empty one between others is not; p before q
    ∷ prints apart apart_text
    -- the same text in a lent buffer: the bytes behind it are kept; one byte too few gives 16 and alters none
    ∷ hands beyond 14 0 12 (beyond_text ++ (99 ∷ 99 ∷ []))
    ∷ hands beyond 12 0 12 beyond_text
    ∷ hands beyond 11 16 12 (replicate 11 99)
    -- 1 at 0: first byte isn't 4C
    ∷ refuses (direct 0 0 1 ++ end) 1 0
    -- 2 at its command byte, behind a match
    ∷ refuses (lengths 10 10 ++ direct 0 0 6 ++ (0x46 ∷ [])) 2 22
    -- 3: incomplete operands, at the command byte; of lengths, before 5 ..
    ∷ refuses (0x4C ∷ small 0 ++ (1 ∷ 0 ∷ 0 ∷ [])) 3 0
    -- .. and of a match
    ∷ refuses (lengths 10 10 ++ direct 0 0 6 ++ (0x52 ∷ small 2 ++ small 3 ++ (5 ∷ 0 ∷ 0 ∷ []))) 3 22
    -- 3: bytes that ran out where a command was due, at the script's length
    ∷ refuses (lengths 1 1) 3 9
    ∷ refuses (lengths 10 10 ++ direct 0 0 6) 3 22
    -- 4 at the second lengths, whether or not its operands are there
    ∷ refuses (lengths 1 1 ++ lengths 1 1 ++ end) 4 9
    ∷ refuses (lengths 10 10 ++ direct 0 0 6 ++ (0x4C ∷ [])) 4 22
    -- 5 at 0: p or q is 0
    ∷ refuses (lengths 0 1 ++ end) 5 0
    ∷ refuses (lengths 1 0 ++ end) 5 0
    -- 1000000000 passes as p and as q, and 1000000001 gives 5 at 0
    ∷ reads (lengths_in billion (small 1) ++ end) 1000000000 1 0
    ∷ reads (lengths_in (small 1) billion ++ end) 1 1000000000 0
    ∷ refuses (lengths_in billion_and_one (small 1) ++ end) 5 0
    ∷ refuses (lengths_in (small 1) billion_and_one ++ end) 5 0
    -- 7 at its command byte, behind a match; before 8 and 9
    ∷ refuses (lengths 10 10 ++ direct 0 0 6 ++ backward 0 0 0 ++ end) 7 22
    ∷ refuses (lengths 10 10 ++ direct 11 11 0 ++ end) 7 9
    -- 8 before 9: beyond both
    ∷ refuses (lengths 10 10 ++ direct 0 0 6 ++ direct 5 5 6 ++ end) 8 22
    -- 9 alone, by q and not by p
    ∷ refuses (lengths 30 10 ++ direct 0 0 6 ++ backward 5 5 6 ++ end) 9 22
    -- and 8 by p and not by q
    ∷ refuses (lengths 10 30 ++ direct 0 0 6 ++ backward 5 5 6 ++ end) 8 22
    -- the order of a number's bytes, in every operand
    ∷ reads four_bytes 975771399 992614408 2
    ∷ finds four_bytes 1 168496141 235868177 303240213 0
    ∷ finds four_bytes 2 67305985 134678021 202050057 1
    -- a match by its number; 13 for 0 and above the count; the script's own refusal before
    ∷ finds pairs 1 3 11 6 0
    ∷ finds pairs 2 12 20 5 1
    ∷ finds_none pairs 0 13 0
    ∷ finds_none pairs 3 13 0
    ∷ finds_none (lengths 10 10 ++ direct 0 0 6) 2 3 22
    -- carrying over a direct match, from A and from B, and over a reversed one
    ∷ carries_a pairs 1 5 (to 13)
    ∷ carries_b pairs 1 13 (to 5)
    ∷ carries_a pairs 2 13 (to 24)
    ∷ carries_b pairs 2 24 (to 13)
    -- a span's own ends are carried
    ∷ carries_a pairs 1 3 (to 11)
    ∷ carries_a pairs 2 17 (to 20)
    ∷ carries_b pairs 1 17 (to 9)
    ∷ carries_b pairs 2 20 (to 17)
    -- 14: what lies on the other side's span alone, and next to the ends
    ∷ carries_a pairs 1 13 (stays 14 0)
    ∷ carries_b pairs 1 5 (stays 14 0)
    ∷ carries_a pairs 2 11 (stays 14 0)
    ∷ carries_a pairs 2 18 (stays 14 0)
    ∷ carries_b pairs 2 19 (stays 14 0)
    ∷ carries_b pairs 2 26 (stays 14 0)
    -- 13 before 14, and the script before both
    ∷ carries_a pairs 0 99 (stays 13 0)
    ∷ carries_b pairs 3 99 (stays 13 0)
    ∷ carries_a (lengths 10 10 ++ direct 0 0 6) 2 99 (stays 3 22)
    ∷ carries_b [] 0 99 (stays 1 0)
    -- positions together: each as singly, in the order of the list, from A and from B; the ends, and one twice
    ∷ carries_all_a run 2 (2 ∷ 3 ∷ 7 ∷ []) 3 (8 ∷ 7 ∷ 3 ∷ [])
    ∷ carries_all_b run 2 (3 ∷ 8 ∷ []) 2 (7 ∷ 2 ∷ [])
    ∷ carries_all_a pairs 1 (9 ∷ 3 ∷ 5 ∷ 5 ∷ []) 4 (17 ∷ 11 ∷ 13 ∷ 13 ∷ [])
    ∷ carries_all_b pairs 1 (17 ∷ 13 ∷ 11 ∷ []) 3 (9 ∷ 5 ∷ 3 ∷ [])
    ∷ carries_all_a mixed 2 (7 ∷ 2 ∷ []) 2 (3 ∷ 8 ∷ [])
    -- 14 for one that is off, in the middle, first and last, next to either end or on the other side's span alone
    ∷ carries_none_a run 2 (2 ∷ 8 ∷ 3 ∷ []) 3 14 0
    ∷ carries_none_a pairs 2 (11 ∷ 12 ∷ []) 2 14 0
    ∷ carries_none_a pairs 2 (17 ∷ 18 ∷ []) 2 14 0
    ∷ carries_none_b pairs 2 (19 ∷ 20 ∷ []) 2 14 0
    ∷ carries_none_b pairs 2 (25 ∷ 26 ∷ []) 2 14 0
    ∷ carries_none_a pairs 1 (5 ∷ 13 ∷ []) 2 14 0
    ∷ carries_none_b pairs 1 (5 ∷ 13 ∷ []) 2 14 0
    -- an empty list passes
    ∷ carries_all_a run 2 [] 0 []
    ∷ carries_all_b run 1 [] 0 []
    -- 22 for a longer buffer and for a shorter one, before 14
    ∷ carries_none_a run 2 (99 ∷ []) 2 22 0
    ∷ carries_none_b run 2 (3 ∷ 8 ∷ []) 1 22 0
    ∷ carries_none_a run 2 [] 1 22 0
    ∷ carries_none_b run 2 (3 ∷ []) 0 22 0
    -- 13 before 22, and the script before both
    ∷ carries_none_a run 3 [] 1 13 0
    ∷ carries_none_b run 0 (99 ∷ []) 0 13 0
    ∷ carries_none_a (lengths 10 10 ++ direct 0 0 6) 2 (99 ∷ []) 2 3 22
    ∷ carries_none_b [] 0 [] 0 1 0
    -- the backbone of the run above at the lowest and the highest gap price, in buffers of the least length: 6
    ∷ chains (record { script = run; price = 0; table = 40; work = 32; chain = 8; scores = 8 })
    run_rows 6 (1 ∷ 2 ∷ 3 ∷ 4 ∷ [])
    ∷ chains (record { script = run; price = 1000; table = 40; work = 32; chain = 8; scores = 8 })
    run_rows 6 (1 ∷ 2 ∷ 3 ∷ 4 ∷ [])
    -- of equals the lower row number first; longer buffers
    ∷ chains (record { script = ways; price = 0; table = 28; work = 22; chain = 7; scores = 6 })
    ways_rows 6 (1 ∷ 4 ∷ 5 ∷ [])
    ∷ chains (record { script = ways; price = 1; table = 28; work = 22; chain = 6; scores = 7 })
    ways_rows 2 (1 ∷ [])
    -- a link of exactly 0 isn't taken
    ∷ chains
    (record {
      script = lengths 20 20 ++ direct 0 0 3 ++ direct 4 5 3 ++ end;
      price = 1;
      table = 10;
      work = 8;
      chain = 2;
      scores = 2;
    })
    ((1 ∷ 0 ∷ 0 ∷ 3 ∷ 0 ∷ []) ∷ (2 ∷ 4 ∷ 5 ∷ 3 ∷ 0 ∷ []) ∷ []) 3 (1 ∷ [])
    -- row numbers may fall
    ∷ chains
    (record {
      script = lengths 20 20 ++ direct 10 10 3 ++ direct 0 0 3 ++ end;
      price = 0;
      table = 10;
      work = 8;
      chain = 2;
      scores = 2;
    })
    ((1 ∷ 10 ∷ 10 ∷ 3 ∷ 0 ∷ []) ∷ (2 ∷ 0 ∷ 0 ∷ 3 ∷ 0 ∷ []) ∷ []) 6 (2 ∷ 1 ∷ [])
    -- .. and of equals the lower number first behind the first one too
    ∷ chains
    (record {
      script = lengths 40 40 ++ direct 0 0 2 ++ direct 20 20 2 ++ direct 4 10 3 ++ direct 10 4 3 ++ end;
      price = 0;
      table = 20;
      work = 16;
      chain = 4;
      scores = 4;
    })
    ((1 ∷ 0 ∷ 0 ∷ 2 ∷ 0 ∷ [])
    ∷ (2 ∷ 20 ∷ 20 ∷ 2 ∷ 0 ∷ [])
    ∷ (3 ∷ 4 ∷ 10 ∷ 3 ∷ 0 ∷ [])
    ∷ (4 ∷ 10 ∷ 4 ∷ 3 ∷ 0 ∷ [])
    ∷ [])
    7 (1 ∷ 3 ∷ 2 ∷ [])
    -- reversed matches alone, and none at all: an empty chain
    ∷ chains
    (record {
      script = lengths 10 10 ++ backward 0 0 3 ++ backward 4 4 3 ++ end;
      price = 0;
      table = 10;
      work = 8;
      chain = 2;
      scores = 2;
    })
    ((1 ∷ 0 ∷ 0 ∷ 3 ∷ 1 ∷ []) ∷ (2 ∷ 4 ∷ 4 ∷ 3 ∷ 1 ∷ []) ∷ []) 0 []
    ∷ chains (record { script = lengths 1 1 ++ end; price = 0; table = 4; work = 0; chain = 0; scores = 0 }) [] 0 []
    -- two faults or more at once: the order is script, 11, 17, 18, 12
    ∷ chains_none
    (record { script = lengths 10 10 ++ direct 0 0 6; price = 1001; table = 40; work = 31; chain = 7; scores = 7 })
    3 22
    ∷ chains_none (record { script = run; price = 1001; table = 40; work = 31; chain = 8; scores = 8 }) 11 0
    ∷ chains_none (record { script = run; price = 1001; table = 40; work = 32; chain = 7; scores = 8 }) 17 0
    ∷ chains_none (record { script = run; price = 1001; table = 39; work = 28; chain = 7; scores = 7 }) 17 0
    ∷ chains_none (record { script = run; price = 1000; table = 39; work = 28; chain = 6; scores = 7 }) 18 0
    ∷ chains_none (record { script = run; price = 1000; table = 39; work = 28; chain = 7; scores = 6 }) 18 0
    -- 18 by the capacity of 9, though the 8 rows have a number each
    ∷ chains_none (record { script = run; price = 0; table = 45; work = 36; chain = 8; scores = 9 }) 18 0
    ∷ chains_none (record { script = run; price = 0; table = 45; work = 36; chain = 9; scores = 8 }) 18 0
    -- 12 last of all, with a number for each row of the capacity: work and scores are zero, table and chain kept
    ∷ chains_none (record { script = run; price = 1000; table = 39; work = 28; chain = 7; scores = 7 }) 12 0
    -- a list as a script: the bytes behind it are kept; one byte too few gives 16 at 0 and alters none
    ∷ writes 10 10 run_records 36 run
    ∷ writes 10 10 run_records 39 run
    ∷ writes_none 10 10 run_records 35 16 0
    ∷ writes 975771399 992614408 four_records 36 four_bytes
    -- an empty one
    ∷ writes 1 1 [] 10 (lengths 1 1 ++ end)
    ∷ writes_none 1 1 [] 9 16 0
    -- 5 before 15 for the count, and that before 6 and before a record's fault
    ∷ writes_none 0 10 (1 ∷ 2 ∷ 3 ∷ []) 40 5 0
    ∷ writes_none 10 1000000001 (1 ∷ 2 ∷ 3 ∷ []) 40 5 0
    ∷ writes_none 10 10 (1 ∷ 2 ∷ 3 ∷ []) 40 15 0
    ∷ writes_none 10 10 (0 ∷ 0 ∷ 0 ∷ 2 ∷ 7 ∷ []) 40 15 0
    ∷ writes_none 10 10 (replicate 8197 2) 4 15 0
    -- 6 before a record's fault
    ∷ writes_none 10 10 (replicate 8196 2) 4 6 0
    -- at a record, counted from 1: 15 for its direction, 7, 8, 9
    ∷ writes_none 10 10 (0 ∷ 0 ∷ 0 ∷ 2 ∷ []) 40 15 1
    ∷ writes_none 10 10 (run_records ++ (11 ∷ 11 ∷ 11 ∷ 4294967295 ∷ [])) 60 15 3
    ∷ writes_none 10 10 (11 ∷ 11 ∷ 0 ∷ 1 ∷ []) 40 7 1
    ∷ writes_none 10 10 (0 ∷ 0 ∷ 6 ∷ 0 ∷ 1 ∷ 0 ∷ 4294967295 ∷ 0 ∷ []) 40 8 2
    ∷ writes_none 10 10 (0 ∷ 0 ∷ 6 ∷ 0 ∷ 5 ∷ 5 ∷ 6 ∷ 1 ∷ []) 40 8 2
    ∷ writes_none 30 10 (0 ∷ 0 ∷ 6 ∷ 0 ∷ 5 ∷ 5 ∷ 6 ∷ 1 ∷ []) 40 9 2
    -- the first faulty record counts, and 16 comes last of all
    ∷ writes_none 10 10 (0 ∷ 0 ∷ 0 ∷ 0 ∷ 0 ∷ 0 ∷ 6 ∷ 2 ∷ []) 40 7 1
    ∷ writes_none 10 10 (0 ∷ 0 ∷ 6 ∷ 0 ∷ 0 ∷ 0 ∷ 0 ∷ 0 ∷ []) 0 7 2
    -- and back: the numbers behind the records are kept; one number too few gives 16 at 0, the script before it
    ∷ lists run 8 10 10 2 run_records
    ∷ lists run 11 10 10 2 run_records
    ∷ lists_none run 7 16 0
    ∷ lists four_bytes 8 975771399 992614408 2 four_records
    ∷ lists (lengths 1 2 ++ end) 0 1 2 0 []
    ∷ lists_none (lengths 10 10 ++ direct 0 0 6) 0 3 22
    -- the rows of a match: up to the first break; none; and none by the numbers that form no row
    ∷ stands anything 2 5 15
    ∷ stands anything 9 15 20
    ∷ stands anything 0 30 35
    ∷ stands anything 5 0 0
    ∷ stands anything 3 0 0
    -- the summary of the same: seven rows, two of them the same piece, three in no class; classes 0, 3 and 29
    ∷ sums anything 7 6 4294967295 4294967295
    (flat ((1 ∷ 0 ∷ 0 ∷ 2 ∷ []) ∷ replicate 25 0 ∷ (1 ∷ []) ∷ []))
    -- a stretch and its mirror image are two pieces
    ∷ sums (flat ((1 ∷ 0 ∷ 0 ∷ 4 ∷ 0 ∷ []) ∷ (1 ∷ 0 ∷ 0 ∷ 4 ∷ 1 ∷ []) ∷ [])) 2 2 4 4 (0 ∷ 0 ∷ 2 ∷ replicate 27 0)
    -- directions are compared as numbers, not as zero and not zero
    ∷ sums
    (flat ((1 ∷ 0 ∷ 0 ∷ 4 ∷ 2 ∷ []) ∷ (1 ∷ 0 ∷ 0 ∷ 4 ∷ 3 ∷ []) ∷ (1 ∷ 0 ∷ 0 ∷ 4 ∷ 4294967295 ∷ []) ∷ []))
    3 3 4 4 (0 ∷ 0 ∷ 3 ∷ replicate 27 0)
    -- match numbers are not compared
    ∷ sums (flat ((1 ∷ 0 ∷ 0 ∷ 4 ∷ 3 ∷ []) ∷ (2 ∷ 0 ∷ 0 ∷ 4 ∷ 3 ∷ []) ∷ [])) 2 1 4 4 (0 ∷ 0 ∷ 2 ∷ replicate 27 0)
    -- of no row at all
    ∷ sums (1 ∷ 0 ∷ 0 ∷ 2 ∷ []) 0 0 0 0 (replicate 30 0)
    -- letters counted once: a row of 4 letters, one within it on A and behind it on B, one that touches, one of none
    ∷ sums
    (flat
    ((1 ∷ 0 ∷ 0 ∷ 4 ∷ 0 ∷ []) ∷ (1 ∷ 2 ∷ 4 ∷ 1 ∷ 0 ∷ []) ∷ (1 ∷ 4 ∷ 5 ∷ 2 ∷ 0 ∷ []) ∷ (1 ∷ 9 ∷ 9 ∷ 0 ∷ 1 ∷ []) ∷ []))
    4 4 6 7 (1 ∷ 1 ∷ 1 ∷ replicate 27 0)
    -- neither a right end nor the number wraps at 2^32, and a row that begins last may be the first
    ∷ sums (flat ((1 ∷ 4294967295 ∷ 0 ∷ 4294967295 ∷ 0 ∷ []) ∷ (1 ∷ 0 ∷ 4294967295 ∷ 1 ∷ 0 ∷ []) ∷ []))
    2 2 4294967296 4294967296 (1 ∷ replicate 29 0)
    -- in our own tables: the run above; lengths 5 5, direct 0 0 4, direct 0 1 4; matches that share letters on A alone
    ∷ covers run 8 7 8
    ∷ covers (lengths 5 5 ++ direct 0 0 4 ++ direct 0 1 4 ++ end) 8 4 5
    ∷ covers (lengths 10 20 ++ direct 0 0 3 ++ direct 2 10 3 ++ backward 7 19 1 ++ end) 5 6 7
    ∷ covers (lengths 1 1 ++ end) 0 0 0
    -- a spanned mark is a cut, and is carried on; one that no match spans changes nothing
    ∷ refines (record { script = run_with (mark 0 1); table = 45; work = 36; expected = pieces marked_rows 9 })
    ∷ refines (record { script = run_with (mark 1 1); table = 45; work = 36; expected = pieces marked_rows 9 })
    ∷ refines (record { script = run_with (mark 0 9); table = 40; work = 32; expected = run_pieces })
    -- .. nor takes a place: one row and four numbers of work
    ∷ refines (record {
      script = lengths 10 10 ++ direct 0 0 1 ++ mark 0 5 ++ mark 0 6 ++ mark 1 7 ++ end;
      table = 5;
      work = 4;
      expected = pieces ((1 ∷ 0 ∷ 0 ∷ 1 ∷ 0 ∷ []) ∷ []) 1;
    })
    -- 12 by the pieces that a mark adds; a mark at an end, or twice, adds none
    ∷ refines (record {
      script = four_with (mark 0 2);
      table = 10;
      work = 8;
      expected = pieces ((1 ∷ 0 ∷ 0 ∷ 2 ∷ 0 ∷ []) ∷ (1 ∷ 2 ∷ 2 ∷ 2 ∷ 0 ∷ []) ∷ []) 2;
    })
    ∷ refines (record { script = four_with (mark 0 2); table = 9; work = 8; expected = refused 12 0 })
    ∷ refines (record {
      script = four_with (mark 0 4 ++ mark 1 0 ++ mark 0 0);
      table = 9;
      work = 4;
      expected = pieces ((1 ∷ 0 ∷ 0 ∷ 4 ∷ 0 ∷ []) ∷ []) 1;
    })
    ∷ refines (record {
      script = four_with (mark 1 2 ++ mark 0 2 ++ mark 1 2);
      table = 10;
      work = 8;
      expected = pieces ((1 ∷ 0 ∷ 0 ∷ 2 ∷ 0 ∷ []) ∷ (1 ∷ 2 ∷ 2 ∷ 2 ∷ 0 ∷ []) ∷ []) 2;
    })
    -- on its own side alone
    ∷ refines (record {
      script = shifted_with (mark 1 2 ++ mark 0 6);
      table = 9;
      work = 4;
      expected = pieces ((1 ∷ 0 ∷ 4 ∷ 4 ∷ 0 ∷ []) ∷ []) 1;
    })
    ∷ refines (record {
      script = shifted_with (mark 1 6);
      table = 10;
      work = 8;
      expected = pieces ((1 ∷ 0 ∷ 4 ∷ 2 ∷ 0 ∷ []) ∷ (1 ∷ 2 ∷ 6 ∷ 2 ∷ 0 ∷ []) ∷ []) 2;
    })
    -- matches keep their numbers among marks; p, q and both counts
    ∷ reads_marked mixed 10 12 2 2
    ∷ finds mixed 2 2 3 5 1
    ∷ finds_none mixed 3 13 0
    ∷ carries_a mixed 2 2 (to 8)
    ∷ refuses (mark 0 1 ++ end) 1 0
    -- 20 and 21 at the mark's command: by p on A, by q on B; the last position passes
    ∷ refuses (lengths 10 10 ++ mark 2 0 ++ end) 20 9
    ∷ refuses (lengths 10 10 ++ mark 255 0 ++ end) 20 9
    ∷ refuses (lengths 10 10 ++ mark 0 11 ++ end) 21 9
    ∷ reads_marked (lengths 10 10 ++ mark 0 10 ++ end) 10 10 0 1
    ∷ refuses (lengths 10 12 ++ direct 0 0 6 ++ mark 0 12 ++ end) 21 22
    ∷ reads_marked (lengths 10 12 ++ mark 1 12 ++ end) 10 12 0 1
    ∷ refuses (lengths 12 10 ++ mark 1 12 ++ end) 21 9
    -- 20 before 21, and 3 before both
    ∷ refuses (lengths 10 10 ++ mark 2 11 ++ end) 20 9
    ∷ refuses (lengths 10 10 ++ (0x4D ∷ 2 ∷ 11 ∷ 0 ∷ 0 ∷ [])) 3 9
    -- the order of a position's bytes
    ∷ refuses (lengths 10 10 ++ (0x4D ∷ 0 ∷ 0 ∷ 0 ∷ 0 ∷ 1 ∷ []) ++ end) 21 9
    -- both lists as a script, matches first; one byte too few gives 16 at 0
    ∷ writes_marked 10 12 run_records (1 ∷ 12 ∷ 0 ∷ 1 ∷ []) 50 sorted
    ∷ writes_marked_none 10 12 run_records (1 ∷ 12 ∷ 0 ∷ 1 ∷ []) 47 16 0
    -- 15 for an odd count, after 5 and before 6; 19 behind 6, and before a record's fault
    ∷ writes_marked_none 0 10 [] (0 ∷ []) 40 5 0
    ∷ writes_marked_none 10 10 [] (0 ∷ []) 40 15 0
    ∷ writes_marked_none 10 10 (replicate 8196 2) (0 ∷ []) 4 15 0
    ∷ writes_marked_none 10 10 (replicate 8196 2) (replicate 1026 2) 4 6 0
    ∷ writes_marked_none 10 10 (0 ∷ 0 ∷ 0 ∷ 2 ∷ []) (replicate 1026 2) 4 19 0
    -- at a mark, counted on from the records: 20, 21; a record's fault before a mark's
    ∷ writes_marked_none 10 10 run_records (0 ∷ 1 ∷ 2 ∷ 11 ∷ []) 60 20 4
    ∷ writes_marked_none 10 10 run_records (256 ∷ 0 ∷ []) 60 20 3
    ∷ writes_marked_none 10 12 run_records (1 ∷ 12 ∷ 0 ∷ 11 ∷ []) 0 21 4
    ∷ writes_marked_none 10 10 (0 ∷ 0 ∷ 0 ∷ 0 ∷ []) (2 ∷ 0 ∷ []) 60 7 1
    -- and back, also of a script that has them mixed; 16 for either buffer
    ∷ lists_marked sorted 9 5
    (record { p = 10; q = 12; count = 2; records = run_records; mark_count = 2; marks = 1 ∷ 12 ∷ 0 ∷ 1 ∷ [] })
    ∷ lists_marked mixed 8 4
    (record { p = 10; q = 12; count = 2; records = run_records; mark_count = 2; marks = 1 ∷ 12 ∷ 0 ∷ 1 ∷ [] })
    ∷ lists_marked_none mixed 8 3 16 0
    ∷ lists_marked_none mixed 7 4 16 0
    ∷ []

-- ---- the limits of matches and marks: so many bytes are too many to compute with, so `proofs/Most` goes command by
-- command

-- a command so many times
unfoldable pub many : List ℕ → ℕ → List ℕ
many command zero = []
many command (suc n) = command ++ many command n

-- SCOPE, "The edge lines": 2,048 matches pass the reader
abbrev pub most_pass : Line
most_pass = reads (lengths 1 1 ++ (many (direct 0 0 1) 2048 ++ end)) 1 1 2048

-- SCOPE, "The edge lines": one match more is 6, where its command stands
abbrev pub one_more : Line
one_more = refuses (lengths 1 1 ++ (many (direct 0 0 1) 2048 ++ (direct 0 0 1 ++ end))) 6 26633

-- SCOPE, "The edge lines": so do 512 marks
abbrev pub most_marks_pass : Line
most_marks_pass = reads_marked (lengths 1 1 ++ (many (mark 1 0) 512 ++ end)) 1 1 0 512

-- SCOPE, "The edge lines": one mark more is 19, where its command stands, also if it is cut short
abbrev pub one_mark_more : Line
one_mark_more = refuses (lengths 1 1 ++ (many (mark 1 0) 512 ++ (0x4D ∷ []))) 19 3081
