-- The program reads at most 29,707 bytes of its input.
--     report-decided     they decide what it prints
-- 02, #106: "The program reads up to 29,707 bytes"; 01, "One run, complete": they decide "the outcome of longer input
-- too". Assumes nothing.
use Prim.Native.Nat.{ℕ}
use mathlib.Core.Path.{◌≡◌}
use mathlib.Core.List.{List}
use lib.ListN.{take}
use Rattle.script.proofs.Prefix.{prefix-decides}
use Rattle.reporting.specs.Reporting.{report_of}

pub report-decided : (s : List ℕ) → report_of (take 29707 s) ≡ report_of s
unfolding report_of
report-decided s = rw (prefix-decides s)
