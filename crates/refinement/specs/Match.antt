-- A match, its positions, and where it carries them. TO READ: contracts mean what stands here.
--     Match            a match, or a piece of one: a stretch of one track beside an equally long one of another
--     left, right      the ends of a match on a side
--     Place, place     a position of a track; the position h of a match's side
--     Spans m s h      the position h lies on the side s of m, the two ends among them
--     spanned i d h    the same as a test
--     carry m s h      where m carries h to, which is on the other side
-- and for #103 the same of a match whose right ends are worked out beforehand:
--     between i g h    the test, given the two ends on the side
--     AnswerKept       that its answer is the same for each match and position
--     carry_to          where it carries h to, given the two ends there
-- 01, "Positions and carrying". Differs: a match names its two tracks, where 01 has A (track 0) and B (track 1).
-- Assumes nothing.
use Rattle.std.specs.Prelude.{ℕ, ◌+◌, ◌-◌, ◌≤◌, ◌≡◌, ◌↔◌, Bool, true, false, ◌&&◌, leb}
use Rattle.refinement.specs.declared.Side.{Side}
use Rattle.refinement.specs.declared.Side.TheVariants.{A, B}

-- SCOPE, "Commands" and "Numbering": a match has a number, two left ends, a length and a direction
pub record Match : Type 0 where
  pub number : ℕ
  pub track_a : ℕ
  pub left_a : ℕ
  pub track_b : ℕ
  pub left_b : ℕ
  pub length : ℕ
  pub reversed : Bool

-- a match of the first edition, between the sequences A and B
abbrev pub match_ab : ℕ → ℕ → ℕ → ℕ → Bool → Match
match_ab n i k d b = record { number = n; track_a = 0; left_a = i; track_b = 1; left_b = k; length = d; reversed = b }

abbrev pub other : Side → Side
other A = B
other B = A

-- of two numbers, one for A and one for B, the one for the side
abbrev pub on_side : Side → ℕ → ℕ → ℕ
on_side A a b = a
on_side B a b = b

abbrev pub track : Match → Side → ℕ
track m s = on_side s m.track_a m.track_b

abbrev pub left : Match → Side → ℕ
left m s = on_side s m.left_a m.left_b

abbrev pub right : Match → Side → ℕ
right m s = left m s + m.length

-- SCOPE, "Positions": one lies between letters; here it is named with its track
pub record Place : Type 0 where
  pub track : ℕ
  pub position : ℕ

abbrev pub place : Match → Side → ℕ → Place
place m s h = record { track = track m s; position = h }

-- SCOPE, "Spans": from the left end to the right end, both included
pub record Spans (m : Match) (s : Side) (h : ℕ) : Type 0 where
  pub from_left : left m s ≤ h
  pub to_right : h ≤ right m s

-- the same as a test of a match with the left end i and the length d (law spanned-iff)
abbrev pub spanned : ℕ → ℕ → ℕ → Bool
spanned i d h = leb i h && leb h (i + d)

-- SCOPE, "Carrying": h is h − i letters behind i, and goes as far behind k; reversed, as far before k + d
abbrev pub carry_over : Bool → ℕ → ℕ → ℕ → ℕ → ℕ
carry_over false i k d h = k + (h - i)
carry_over true i k d h = k + d - (h - i)

-- SCOPE, "Carrying": the way back is the same formula with the sides exchanged (law carry-back)
abbrev pub carry : Match → Side → ℕ → ℕ
carry m s h = carry_over m.reversed (left m s) (left m (other s)) m.length h

-- #103: the test gets the match's two ends on that side, i and g, and adds nothing
abbrev pub between : ℕ → ℕ → ℕ → Bool
between i g h = leb i h && leb h g

-- #103: "this test's answer for each match and position" is kept: what the test of the ends i and g answers on h ..
pub record AnswerKept (i g h : ℕ) (answer : Bool) : Type 0 where
  -- .. is what the test of the left end and the length answers
  pub kept : (d : ℕ) → g ≡ i + d → answer ≡ spanned i d h
  -- .. and so, if they are a match's two ends on a side, whether it spans h there
  pub spans : (m : Match) (s : Side) → i ≡ left m s → g ≡ right m s → (answer ≡ true) ↔ Spans m s h

-- #103: as far behind k as h is behind i; reversed, as far before l, the right end there (law carry-ends)
abbrev pub carry_to : Bool → ℕ → ℕ → ℕ → ℕ → ℕ
carry_to false i k l h = k + (h - i)
carry_to true i k l h = l - (h - i)
