-- The room that the program reads into.
--     room-exact       it is 01's number of bytes
--     room-decides     what an input has behind them changes nothing of what is printed
-- 02, #106: "The program reads up to 29,707 bytes"; 01, "One run, complete": they decide "the outcome of longer input
-- too". Assumes nothing.
use Prim.Native.Nat.{ℕ}
use mathlib.Core.Path.{◌≡◌, refl, sym, subst}
use mathlib.Core.List.{List}
use lib.ListN.{take}
use Rattle.reporting.specs.Reporting.{input_room, report_of}
use Rattle.reporting.proofs.Prefix.{report-decided}

pub room-exact : input_room ≡ 29707
room-exact = refl

pub room-decides : (s : List ℕ) → report_of (take input_room s) ≡ report_of s
room-decides s = subst (λ (n : ℕ). report_of (take n s) ≡ report_of s) (sym room-exact) (report-decided s)
