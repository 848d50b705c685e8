-- A measured text is printed if there is room for it.
--     reporting-short     where there is not, the length that it needs is told
--     reporting-whole     where there is, the text stands at the buffer's start
-- Assumes nothing.
use Prim.Native.Nat.{ℕ, ◌+◌, ◌≤◌, ◌<◌}
use mathlib.Core.Path.{◌≡◌, sym, ap, ap₂, ◌∙◌}
use mathlib.Core.List.{List, ◌++◌}
use native.Mathlib.Omega.{arith}
use borrow.Author.Tests.{lt-ltb, le-ltb}
use lib.ListN.{length, drop}
use lib.Seq.{sets-eq}
use Rattle.std.specs.Prelude.{Ok, Err}
use Rattle.text.specs.Putting.{Put}
use Rattle.reporting.specs.Reporting.{reporting_of_text}

module _ (printed : List ℕ) {text part part' : List ℕ} {needed : ℕ} (measured : Put printed part 0 part' needed) where
  pub reporting-short : length text < needed
      → reporting_of_text printed text ≡ record { reply = Err (record { needed = needed }); text = text }
  reporting-short short =
      let count : length printed ≡ needed = omega arith in
      rw (lt-ltb (length text) (length printed) (omega arith), count)

  pub reporting-whole : {text' : List ℕ} {n : ℕ} → needed ≤ length text → Put printed text 0 text' n
      → reporting_of_text printed text ≡ record { reply = Ok n; text = text' }
  reporting-whole {n = n} room put =
      let count : length printed ≡ n = omega arith in
      let from : 0 + length printed ≡ length printed = omega arith in
      let stored = put.stored ∙ sets-eq printed text 0 (omega arith) ∙ ap (λ (k : ℕ). printed ++ drop k text) from in
      rw (le-ltb (length text) (length printed) (omega arith))
      (ap₂ (λ (k : ℕ) (t : List ℕ). record { reply = Ok k; text = t }) count (sym stored))
