-- An answer in 01's words, the same for every call. TO READ: contracts mean what stands here.
--     Answer X            a value of X, or a refusal's number and place
--     Contents            what an admitted script holds: the lengths, its matches and its marks
--     reading_answer r     a reading in these words
-- 01, "Refused scripts and calls" and "Which form goes where"; SCOPE, "Place" and "Enums". Assumes nothing.
use Rattle.std.specs.Prelude.{ℕ, List}
use Rattle.script.specs.Refusals.{number_of, place_of}
use Rattle.script.specs.Reading.{Reading, admitted, refused}
use Rattle.script.specs.declared.command.Match.{Match}
use Rattle.script.specs.declared.command.Mark.{Mark}

pub data Answer (X : Type 0) : Type 0 where
  value : X → Answer X
  refusal : (number place : ℕ) → Answer X

pub data Contents : Type 0 where
  contents : (lengths : List ℕ) → List Match → (marks : List Mark) → Contents

abbrev pub reading_answer : Reading → Answer Contents
reading_answer (admitted ls ms ks) = value (contents ls ms ks)
reading_answer (refused r) = refusal (number_of r) (place_of r)
