-- What the closure goes on with and ends in.
--     Driving             what holds of each answer of a step, and so of what the closure goes on with
--     Driven              the same with some marks
--     Closure             what the whole closure does, by its answer
-- Assumes nothing.
use Rattle.std.specs.Prelude.{ℕ, List, Result, Ok, Err}
use Rattle.refinement.specs.declared.Side.{Side}
use Rattle.refinement.specs.declared.Side.TheVariants.{A, B}
use Rattle.refinement.specs.Match.{Place}
use Rattle.refining.specs.Columns.{Columns}
use Rattle.refining.specs.Demands.{EveryExceeds}
use Rattle.tracks.specs.Tracks.{Tracked, given_in}
use Rattle.tracks.specs.Engine.{books_of}
use Rattle.tracks.specs.Groups.{grouped}
use Rattle.carrying_group.specs.declared.TooMany.{TooMany}
use Rattle.stepping.specs.Steps.{OpenWith, AllCuts}
use Rattle.stepping.specs.declared.Closing.{Closing}

-- all is carried; or a step is due on the side named; or there are too many pieces
abbrev pub Driving : Columns → List ℕ → ℕ → List Place → ℕ → ℕ → List ℕ → List ℕ → List ℕ → Result Closing TooMany → Type 0
Driving c gs g marks n cap ys a b (Ok Closing.Done) = AllCuts (grouped c gs g marks) n cap ys (books_of a b)
Driving c gs g marks n cap ys a b (Ok (Closing.MoreA k)) = OpenWith c gs g marks n cap ys a b k A
Driving c gs g marks n cap ys a b (Ok (Closing.MoreB k)) = OpenWith c gs g marks n cap ys a b k B
Driving c gs g marks n cap ys a b (Err none) = EveryExceeds (given_in (grouped c gs g marks)) cap

abbrev pub Driven : Columns → List ℕ → ℕ → ℕ → ℕ → List ℕ → List ℕ → List ℕ → Result Closing TooMany → Type 0
Driven c gs g n cap ys a b closing = (marks : List Place) × Driving c gs g marks n cap ys a b closing

-- the sets hold all cuts, and the least table has room; or every resolved refinement exceeds the capacity
abbrev pub Closure : Tracked → ℕ → ℕ → List ℕ → (Side → List ℕ) → Result (Unit {0}) TooMany → Type 0
Closure t n cap ys books (Ok done) = AllCuts t n cap ys books
Closure t n cap ys books (Err none) = EveryExceeds (given_in t) cap
