-- What reading the members of a set tells.
--     FoundPlace xs s at    a newly found member stands at the place `at`
--     SomeFound xs s        there is a newly found member, and all of them are one rising run
--     Lowest, Highest       the least and the greatest newly found member
--     AllPlaces xs s r      the members are a rising run at the places r
-- Assumes nothing.
use Rattle.std.specs.Prelude.{ℕ, ◌≤◌, ◌<◌, List, ◌↔◌, length}
use Rattle.runs.specs.Runs.{In, Run}
use Rattle.cut_set.specs.Store.{Good, Found, FoundRun, Member, NothingFound}
use Rattle.cut_set.specs.declared.CutSet.{CutSet}
use Rattle.reading_cuts.specs.declared.Places.{Places}

pub record FoundPlace (xs : List ℕ) (s : CutSet) (at : ℕ) : Type 0 where
  pub from : s.done ≤ at
  pub below : at < s.used
  pub within : s.used ≤ length xs

pub record SomeFound (xs : List ℕ) (s : CutSet) : Type 0 where
  pub good : Good xs s
  pub run : FoundRun xs s
  pub some : ¬ NothingFound s

pub record Lowest (xs : List ℕ) (s : CutSet) (r : ℕ) : Type 0 where
  pub found : Found xs s r
  pub least : (y : ℕ) → Found xs s y → r ≤ y

pub record Highest (xs : List ℕ) (s : CutSet) (r : ℕ) : Type 0 where
  pub found : Found xs s r
  pub greatest : (y : ℕ) → Found xs s y → y ≤ r

pub record AllPlaces (xs : List ℕ) (s : CutSet) (r : Places) : Type 0 where
  pub run : Run xs r.start r.end
  pub all : (y : ℕ) → In xs r.start r.end y ↔ Member xs s y
