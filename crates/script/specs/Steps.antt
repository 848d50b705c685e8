-- What one command does to the script read so far. TO READ: contracts mean what stands here.
--     match_judgement p q place m     the fault of a match, if it has one; the same for a script and for a list
--     mark_judgement p q place k      the fault of a mark, likewise
--     opening_of c                    what the first command does: it opens the script, or the script is refused
--     step_of p q count marks at c    what a later one does, at the offset at with so many matches and marks before it
-- 01, "Refused scripts and calls"; 02, #106; SCOPE, "First fault" and "Order of faults". Assumes nothing.
use Rattle.std.specs.Prelude.{ℕ, ◌+◌, Bool, cond, ◌&&◌, ltb, leb, eqb, Result, Ok, Err}
use Rattle.script.specs.Limits.{longest, most_matches, most_marks}
use Rattle.script.specs.declared.refusal.Refusal.{Refusal}
use Rattle.script.specs.declared.refusal.Refusal.TheVariants.{Headless, UnknownCommand, CutShort, SecondLengths}
use Rattle.script.specs.declared.refusal.Refusal.TheVariants.{LengthOutOfRange, TooManyMatches, EmptyMatch}
use Rattle.script.specs.declared.refusal.Refusal.TheVariants.{BeyondA, BeyondB, Tail}
use Rattle.script.specs.declared.refusal.Refusal.TheVariants.{TooManyMarks, NoSuchSide, MarkBeyond}
use Rattle.script.specs.declared.command.Match.{Match}
use Rattle.script.specs.declared.command.Mark.{Mark}
use Rattle.script.specs.declared.command.Command.{Command}
use Rattle.script.specs.declared.command.Command.TheVariants.{Missing, Unknown, LengthsCutShort}
use Rattle.script.specs.declared.command.Command.TheVariants.{Pairing, MatchCutShort, Marking, MarkCutShort}
use Rattle.script.specs.declared.command.Command.TheVariants.{End, EndThenMore}
use Rattle.script.specs.declared.step.Lengths.{Lengths}
use Rattle.script.specs.declared.step.Step.{Step}
use Rattle.script.specs.declared.step.Step.TheVariants.{Finish, Take, Keep}

-- SCOPE, "Limits": how many letters a sequence may have
abbrev pub in_range : ℕ → Bool
in_range n = ltb 0 n && leb n longest

-- at lengths with both operands: 5
abbrev pub lengths_step : ℕ → ℕ → Result Lengths Refusal
lengths_step p q = cond (in_range p && in_range q) (Ok (record { p = p; q = q })) (Err LengthOutOfRange)

-- SCOPE, "Opening": 1 if the first command is another; at lengths 3, 5
abbrev pub opening_of : Command → Result Lengths Refusal
opening_of Missing = Err Headless
opening_of Unknown = Err Headless
opening_of (Command.Lengths p q) = lengths_step p q
opening_of LengthsCutShort = Err (CutShort 0)
opening_of (Pairing m) = Err Headless
opening_of MatchCutShort = Err Headless
opening_of (Marking k) = Err Headless
opening_of MarkCutShort = Err Headless
opening_of End = Err Headless
opening_of EndThenMore = Err Headless

-- the three numbers of a match: 7, 8, 9. SCOPE, "Sums": numbers here have no upper end, so none wraps
abbrev pub match_judgement : ℕ → ℕ → ℕ → Match → Result (Unit {0}) Refusal
match_judgement p q place m =
    cond (eqb m.length 0) (Err (EmptyMatch place))
    (cond (ltb p (m.left_a + m.length)) (Err (BeyondA place))
    (cond (ltb q (m.left_b + m.length)) (Err (BeyondB place)) (Ok tt)))

-- SCOPE, "Marks": the letters of the sequence that a mark lies on
abbrev pub letters_on : ℕ → ℕ → ℕ → ℕ
letters_on p q side = cond (eqb side 0) p q

-- the two numbers of a mark: 20, 21
abbrev pub mark_judgement : ℕ → ℕ → ℕ → Mark → Result (Unit {0}) Refusal
mark_judgement p q place k =
    cond (ltb 1 k.side) (Err (NoSuchSide place))
    (cond (ltb (letters_on p q k.side) k.position) (Err (MarkBeyond place)) (Ok tt))

-- what is judged first: there are so many already, and no more may be
abbrev pub with_room : ℕ → ℕ → Refusal → Result Step Refusal → Result Step Refusal
with_room most count full next = cond (leb most count) (Err full) next

-- a match or a mark without a fault is taken
abbrev pub unless_faulty : Result (Unit {0}) Refusal → Result Step Refusal → Result Step Refusal
unless_faulty (Ok _) next = next
unless_faulty (Err f) next = Err f

-- at a match with its operands: 6, then its numbers
abbrev pub match_step : ℕ → ℕ → ℕ → ℕ → Match → Result Step Refusal
match_step p q count at m =
    with_room most_matches count (TooManyMatches at) (unless_faulty (match_judgement p q at m) (Ok (Take m)))

-- at a match whose operands are incomplete: 6, 3
abbrev pub cut_short_step : ℕ → ℕ → Result Step Refusal
cut_short_step count at = with_room most_matches count (TooManyMatches at) (Err (CutShort at))

-- at a mark with its operands: 19, then its numbers
abbrev pub mark_step : ℕ → ℕ → ℕ → ℕ → Mark → Result Step Refusal
mark_step p q marks at k =
    with_room most_marks marks (TooManyMarks at) (unless_faulty (mark_judgement p q at k) (Ok (Keep k)))

-- at a mark whose operands are incomplete: 19, 3
abbrev pub mark_cut_short_step : ℕ → ℕ → Result Step Refusal
mark_cut_short_step marks at = with_room most_marks marks (TooManyMarks at) (Err (CutShort at))

-- a command after the first, by the table; bytes that run out where a command is due are cut short there
abbrev pub step_of : ℕ → ℕ → ℕ → ℕ → ℕ → Command → Result Step Refusal
step_of p q count marks at Missing = Err (CutShort at)
step_of p q count marks at Unknown = Err (UnknownCommand at)
step_of p q count marks at (Command.Lengths p' q') = Err (SecondLengths at)
step_of p q count marks at LengthsCutShort = Err (SecondLengths at)
step_of p q count marks at (Pairing m) = match_step p q count at m
step_of p q count marks at MatchCutShort = cut_short_step count at
step_of p q count marks at (Marking k) = mark_step p q marks at k
step_of p q count marks at MarkCutShort = mark_cut_short_step marks at
step_of p q count marks at End = Ok Finish
step_of p q count marks at EndThenMore = Err (Tail (at + 1))
