-- The closure's answer as a yes or no, for callers in C and Rust. TO READ: contracts mean what stands here.
--     ClosedBy            true where the sets hold all cuts, false where every resolved refinement exceeds the capacity
-- Assumes nothing.
use Rattle.std.specs.Prelude.{ℕ, Bool, true, false, List}
use Rattle.refinement.specs.declared.Side.{Side}
use Rattle.refining.specs.Demands.{EveryExceeds}
use Rattle.tracks.specs.Tracks.{Tracked, given_in}
use Rattle.stepping.specs.Steps.{AllCuts}

abbrev pub ClosedBy : Tracked → ℕ → ℕ → List ℕ → (Side → List ℕ) → Bool → Type 0
ClosedBy t n cap ys books true = AllCuts t n cap ys books
ClosedBy t n cap ys books false = EveryExceeds (given_in t) cap
