-- What a string of bytes is as a script. TO READ: contracts mean what stands here.
--     Reading          admitted with the lengths, the matches and the marks, each in script order, or refused
--     read_script s     the reading of the bytes s
--     letters ls n     the letters of the sequence behind n others
--     verdict_of r      the reply that stands for a reading: p, q and the counts of matches and marks, or the refusal
-- 01, "The script"; 02, #106. Assumes nothing.
use Rattle.std.specs.Prelude.{ℕ, zero, suc, ◌+◌, List, [], ◌∷◌, ◌++◌, length, get_or, drop, Result, Ok, Err}
use Rattle.script.specs.Commands.{lengths_width, match_width, mark_width, command_of}
use Rattle.script.specs.Steps.{opening_of, step_of}
use Rattle.script.specs.declared.refusal.Refusal.{Refusal}
use Rattle.script.specs.declared.refusal.Refusal.TheVariants.{CutShort}
use Rattle.script.specs.declared.command.Match.{Match}
use Rattle.script.specs.declared.command.Mark.{Mark}
use Rattle.script.specs.declared.step.Lengths.{Lengths}
use Rattle.script.specs.declared.step.Step.{Step}
use Rattle.script.specs.declared.Admitted.{Admitted}

-- SCOPE, "Admitted", "Numbering" and "Marks": by no fault in the bytes; the lengths in the order of the sequences,
-- matches and marks each in the order of the script
pub data Reading : Type 0 where
  admitted : (lengths : List ℕ) → List Match → (marks : List Mark) → Reading
  refused : Refusal → Reading

-- the reading after a step: it ends, or goes on behind one more match or mark, which is so many bytes wide
abbrev pub after_step : ℕ → ℕ → List Match → List Mark → Result Step Refusal
    → (ℕ → List Match → List Mark → Reading) → Reading
after_step p q ms ks (Err r) onward = refused r
after_step p q ms ks (Ok Step.Finish) onward = admitted (p ∷ q ∷ []) ms ks
after_step p q ms ks (Ok (Step.Take m)) onward = onward match_width (ms ++ m ∷ []) ks
after_step p q ms ks (Ok (Step.Keep k)) onward = onward mark_width ms (ks ++ k ∷ [])

-- SCOPE, "Remainder": s is what is left of the script from the offset at on, behind the matches ms and the marks ks.
-- The first number is at least the bytes of s, and only makes the recursion end.
unfoldable pub read_from : ℕ → ℕ → ℕ → ℕ → List Match → List Mark → List ℕ → Reading
read_from zero p q at ms ks s = refused (CutShort at)
read_from (suc bytes) p q at ms ks s =
    after_step p q ms ks (step_of p q (length ms) (length ks) at (command_of s))
    (λ width ms' ks'. read_from bytes p q (at + width) ms' ks' (drop width s))

abbrev pub after_opening : Result Lengths Refusal → (ℕ → ℕ → Reading) → Reading
after_opening (Err r) onward = refused r
after_opening (Ok l) onward = onward l.p l.q

-- the reading of a whole string of bytes
unfoldable pub read_script : List ℕ → Reading
read_script s =
    after_opening (opening_of (command_of s))
    (λ p q. read_from (length s) p q lengths_width [] [] (drop lengths_width s))

-- the lengths are those of A, behind no other, and of B, behind one
abbrev pub letters : List ℕ → ℕ → ℕ
letters ls n = get_or ls n 0

-- what the reader returns. SCOPE, "Numbering": the last match has the number that is their count
abbrev pub verdict_of : Reading → Result Admitted Refusal
verdict_of (admitted ls ms ks) =
    Ok (record { p = letters ls 0; q = letters ls 1; count = length ms; marks = length ks })
verdict_of (refused r) = Err r
