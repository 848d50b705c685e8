-- A script is put over a whole buffer.
--     put_whole                     what is put over a whole buffer is what it holds
--     directs-next, directs-length  one match more, and how many bytes they have
-- Assumes nothing.
use Prim.Native.Nat.{ℕ, zero, suc, ◌+◌, ◌*◌}
use mathlib.Core.Path.{◌≡◌, refl, ap, ◌∙◌}
use mathlib.Core.List.{List, ◌++◌, append-nil}
use native.Mathlib.Omega.{arith}
use native.Mathlib.Numerals.{add-one}
use lib.ListN.{length, length-append, drop_of_length-le}
use lib.Seq.{sets-eq}
use Rattle.text.specs.Putting.{Put}
use Rattle.edge_lines.specs.Scripts.{direct, directs}

pub put_whole : {xs t t' : List ℕ} {n : ℕ} → Put xs t 0 t' n → length xs ≡ length t → t' ≡ xs
put_whole {xs} {t} p whole =
    let rest = drop_of_length-le t {i = 0 + length xs} (omega arith) in
    p.stored ∙ sets-eq xs t 0 (omega arith) ∙ ap (λ (l : List ℕ). xs ++ l) rest ∙ append-nil xs

pub directs-next : (k : ℕ) → directs k ++ direct 0 0 1 ≡ directs (k + 1)
unfolding directs
directs-next k = rw add-one

pub directs-length : (k : ℕ) → length (directs k) ≡ 13 * k
unfolding directs
directs-length zero = refl
directs-length (suc k) = simp length-append (omega (arith, directs-length k))
