-- 01's table of refusals a second time, as a relation: a constructor for each row that reading can meet, with the row's
-- condition, its number and its place, and one for an admitted script. All numbers are 01's, written out, widths and
-- limits too: a slip made in a definition and in the code together is refused here. `proofs/Outcome` shows that exactly
-- one applies to each string of bytes, and that it is what `read_script` computes. TO READ beside SCOPE, "Refusals" (01,
-- "Refused scripts and calls"; 02, #106).
--     Reach s p q at ms ks     good commands alone stand before the offset at: lengths p q, then the matches ms and the
--                              marks ks, mixed in any way
--     Outcome s a              the answer to the bytes s may be a
-- Assumes nothing.
use Rattle.std.specs.Prelude.{ℕ, ◌+◌, ◌≤◌, ◌<◌, ◌≡◌, ◌≢◌, ◌⊎◌, Bool, true, false, List, [], ◌∷◌, ◌++◌, length, get_or}
use Rattle.script.specs.Commands.{number_at}
use Rattle.script.specs.Answers.{Answer, value, refusal, Contents, contents}
use Rattle.script.specs.declared.command.Match.{Match}
use Rattle.script.specs.declared.command.Mark.{Mark}

-- ---- what stands at an offset

-- the byte at the offset
pub record Byte (s : List ℕ) (at code : ℕ) : Type 0 where
  pub inside : at < length s
  pub is : get_or s at 0 ≡ code

-- SCOPE, "Commands": 44 is a direct match, 52 a reversed one
pub data MatchByte (s : List ℕ) (at : ℕ) : Bool → Type 0 where
  direct : Byte s at 0x44 → MatchByte s at false
  backward : Byte s at 0x52 → MatchByte s at true

-- SCOPE, "Commands": a match command with its three operands, between the tracks 0, which is A, and 1, which is B
pub record MatchAt (s : List ℕ) (at : ℕ) (m : Match) : Type 0 where
  pub code : MatchByte s at m.reversed
  pub whole : at + 13 ≤ length s
  pub on_a : m.track_a ≡ 0
  pub on_b : m.track_b ≡ 1
  pub left_a : m.left_a ≡ number_at s (at + 1)
  pub left_b : m.left_b ≡ number_at s (at + 5)
  pub letters : m.length ≡ number_at s (at + 9)

-- SCOPE, "Commands": a mark command with its two operands, of which the first is one byte
pub record MarkAt (s : List ℕ) (at : ℕ) (k : Mark) : Type 0 where
  pub code : Byte s at 0x4D
  pub whole : at + 6 ≤ length s
  pub side : k.side ≡ get_or s (at + 1) 0
  pub position : k.position ≡ number_at s (at + 2)

-- SCOPE, "Opening": a lengths command with its two operands; it can only be the first
pub record LengthsAt (s : List ℕ) (p q : ℕ) : Type 0 where
  pub code : Byte s 0 0x4C
  pub whole : 9 ≤ length s
  pub first : p ≡ number_at s 1
  pub second : q ≡ number_at s 5

-- ---- what makes a command good

-- SCOPE, "Limits": how many letters a sequence may have
pub record InRange (n : ℕ) : Type 0 where
  pub some : 1 ≤ n
  pub few : n ≤ 1_000_000_000

-- at least one letter, and none beyond A or B
pub record Within (p q : ℕ) (m : Match) : Type 0 where
  pub some : 1 ≤ m.length
  pub in_a : m.left_a + m.length ≤ p
  pub in_b : m.left_b + m.length ≤ q

-- SCOPE, "Marks": side 0 is A, 1 is B; the position is not past its last letter
pub data OnSequence (p q : ℕ) (k : Mark) : Type 0 where
  on_a : k.side ≡ 0 → k.position ≤ p → OnSequence p q k
  on_b : k.side ≡ 1 → k.position ≤ q → OnSequence p q k

-- .. or it is past it
pub data PastSequence (p q : ℕ) (k : Mark) : Type 0 where
  past_a : k.side ≡ 0 → p < k.position → PastSequence p q k
  past_b : k.side ≡ 1 → q < k.position → PastSequence p q k

-- good commands alone stand before the offset. SCOPE, "Limits": at most 2,048 matches and 512 marks
pub data Reach (s : List ℕ) (p q : ℕ) : ℕ → List Match → List Mark → Type 0 where
  opened : LengthsAt s p q → InRange p → InRange q → Reach s p q 9 [] []
  taken : {at : ℕ} {ms : List Match} {ks : List Mark} {m : Match} → Reach s p q at ms ks → length ms < 2048
      → MatchAt s at m → Within p q m → Reach s p q (at + 13) (ms ++ m ∷ []) ks
  marked : {at : ℕ} {ms : List Match} {ks : List Mark} {k : Mark} → Reach s p q at ms ks → length ks < 512
      → MarkAt s at k → OnSequence p q k → Reach s p q (at + 6) ms (ks ++ k ∷ [])

-- ---- the table

-- what is cut short. SCOPE, "Place": the command's offset, or the script's length where a command was due
pub data Short (s : List ℕ) : ℕ → Type 0 where
  lengths : Byte s 0 0x4C → length s < 9 → Short s 0
  pairing : {p q at : ℕ} {ms : List Match} {ks : List Mark} {way : Bool} → Reach s p q at ms ks → length ms < 2048
      → MatchByte s at way → length s < at + 13 → Short s at
  marking : {p q at : ℕ} {ms : List Match} {ks : List Mark} → Reach s p q at ms ks → length ks < 512 → Byte s at 0x4D
      → length s < at + 6 → Short s at
  ran_out : {p q at : ℕ} {ms : List Match} {ks : List Mark} → Reach s p q at ms ks → at ≡ length s → Short s at

pub data Outcome (s : List ℕ) : Answer Contents → Type 0 where
  -- 1: empty, or first byte isn't 4C
  headless : (length s ≡ 0) ⊎ (get_or s 0 0 ≢ 0x4C) → Outcome s (refusal 1 0)
  -- 2: a later command byte isn't 4C, 44, 52, 4D or 45
  unknown_command : {p q at : ℕ} {ms : List Match} {ks : List Mark} → Reach s p q at ms ks → at < length s
      → get_or s at 0 ≢ 0x4C → get_or s at 0 ≢ 0x44 → get_or s at 0 ≢ 0x52 → get_or s at 0 ≢ 0x4D → get_or s at 0 ≢ 0x45
      → Outcome s (refusal 2 at)
  -- 3: operands incomplete, or bytes run out before 45
  cut_short : {at : ℕ} → Short s at → Outcome s (refusal 3 at)
  -- 4: 4C again
  second_lengths : {p q at : ℕ} {ms : List Match} {ks : List Mark} → Reach s p q at ms ks → Byte s at 0x4C
      → Outcome s (refusal 4 at)
  -- 5: p or q is 0 or too large
  length_out_of_range : {p q : ℕ} → LengthsAt s p q → (InRange p → InRange q → ⊥) → Outcome s (refusal 5 0)
  -- 6: the command of match 2,049
  too_many_matches : {p q at : ℕ} {ms : List Match} {ks : List Mark} {way : Bool} → Reach s p q at ms ks
      → length ms ≡ 2048 → MatchByte s at way → Outcome s (refusal 6 at)
  -- 7: length 0
  empty_match : {p q at : ℕ} {ms : List Match} {ks : List Mark} {m : Match} → Reach s p q at ms ks → length ms < 2048
      → MatchAt s at m → m.length ≡ 0 → Outcome s (refusal 7 at)
  -- 8: left-A + length above p
  beyond_a : {p q at : ℕ} {ms : List Match} {ks : List Mark} {m : Match} → Reach s p q at ms ks → length ms < 2048
      → MatchAt s at m → 1 ≤ m.length → p < m.left_a + m.length → Outcome s (refusal 8 at)
  -- 9: left-B + length above q
  beyond_b : {p q at : ℕ} {ms : List Match} {ks : List Mark} {m : Match} → Reach s p q at ms ks → length ms < 2048
      → MatchAt s at m → 1 ≤ m.length → m.left_a + m.length ≤ p → q < m.left_b + m.length
      → Outcome s (refusal 9 at)
  -- 10: bytes after 45, at the first of them
  tail : {p q at : ℕ} {ms : List Match} {ks : List Mark} → Reach s p q at ms ks → Byte s at 0x45 → at + 1 < length s
      → Outcome s (refusal 10 (at + 1))
  -- 19: the command of mark 513
  too_many_marks : {p q at : ℕ} {ms : List Match} {ks : List Mark} → Reach s p q at ms ks → length ks ≡ 512
      → Byte s at 0x4D → Outcome s (refusal 19 at)
  -- 20: the side is above 1
  no_such_side : {p q at : ℕ} {ms : List Match} {ks : List Mark} {k : Mark} → Reach s p q at ms ks → length ks < 512
      → MarkAt s at k → 1 < k.side → Outcome s (refusal 20 at)
  -- 21: the position is past p on A or q on B
  mark_beyond : {p q at : ℕ} {ms : List Match} {ks : List Mark} {k : Mark} → Reach s p q at ms ks → length ks < 512
      → MarkAt s at k → PastSequence p q k → Outcome s (refusal 21 at)
  -- no refusal: 45 is the last byte
  is_admitted : {p q at : ℕ} {ms : List Match} {ks : List Mark} → Reach s p q at ms ks → Byte s at 0x45
      → at + 1 ≡ length s → Outcome s (value (contents (p ∷ q ∷ []) ms ks))
