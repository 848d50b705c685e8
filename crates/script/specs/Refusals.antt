-- The number and place of each refusal. TO READ: contracts mean what stands here.
--     number_of r     the number in 01's table, or that a request gives it
--     place_of r      the place returned beside it
-- 01, "Refused scripts and calls"; 02, #101, #104, #106 and #107. Assumes nothing.
use Rattle.std.specs.Prelude.{ℕ}
use Rattle.script.specs.declared.refusal.Refusal.{Refusal}
use Rattle.script.specs.declared.refusal.Refusal.TheVariants.{Headless, UnknownCommand, CutShort, SecondLengths}
use Rattle.script.specs.declared.refusal.Refusal.TheVariants.{LengthOutOfRange, TooManyMatches, EmptyMatch}
use Rattle.script.specs.declared.refusal.Refusal.TheVariants.{BeyondA, BeyondB, Tail, WorkTooShort}
use Rattle.script.specs.declared.refusal.Refusal.TheVariants.{TooManyPieces, NoSuchMatch, OffTheMatch}
use Rattle.script.specs.declared.refusal.Refusal.TheVariants.{MalformedRecords, BufferTooShort}
use Rattle.script.specs.declared.refusal.Refusal.TheVariants.{PriceTooHigh, ChainTooShort}
use Rattle.script.specs.declared.refusal.Refusal.TheVariants.{TooManyMarks, NoSuchSide, MarkBeyond, CountsDiffer}

-- SCOPE, "Refusals": the rows of the table, in its order
abbrev pub number_of : Refusal → ℕ
number_of Headless = 1
number_of (UnknownCommand at) = 2
number_of (CutShort at) = 3
number_of (SecondLengths at) = 4
number_of LengthOutOfRange = 5
number_of (TooManyMatches at) = 6
number_of (EmptyMatch at) = 7
number_of (BeyondA at) = 8
number_of (BeyondB at) = 9
number_of (Tail at) = 10
number_of WorkTooShort = 11
number_of TooManyPieces = 12
number_of NoSuchMatch = 13
number_of OffTheMatch = 14
number_of (MalformedRecords at) = 15
number_of BufferTooShort = 16
number_of PriceTooHigh = 17
number_of ChainTooShort = 18
number_of (TooManyMarks at) = 19
number_of (NoSuchSide at) = 20
number_of (MarkBeyond at) = 21
number_of CountsDiffer = 22

-- SCOPE, "Place": up to 9 where the command stands, or the end of the bytes if they ran out where one was due; for 10
-- the first byte too many; 11 to 18 and 22 have 0, and 19 to 21, which are met at a mark, its command's offset. 1 and 5
-- are met at the first command only, which stands at 0.
-- SCOPE, "Place of a record": what is found at a record or a mark of a list, 15 among it, has its number in the list.
abbrev pub place_of : Refusal → ℕ
place_of Headless = 0
place_of (UnknownCommand at) = at
place_of (CutShort at) = at
place_of (SecondLengths at) = at
place_of LengthOutOfRange = 0
place_of (TooManyMatches at) = at
place_of (EmptyMatch at) = at
place_of (BeyondA at) = at
place_of (BeyondB at) = at
place_of (Tail at) = at
place_of WorkTooShort = 0
place_of TooManyPieces = 0
place_of NoSuchMatch = 0
place_of OffTheMatch = 0
place_of (MalformedRecords at) = at
place_of BufferTooShort = 0
place_of PriceTooHigh = 0
place_of ChainTooShort = 0
place_of (TooManyMarks at) = at
place_of (NoSuchSide at) = at
place_of (MarkBeyond at) = at
place_of CountsDiffer = 0
