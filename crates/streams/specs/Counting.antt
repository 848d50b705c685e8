-- What the program reads and writes. TO READ: contracts mean what stands here.
--     count_of m      the bytes that a read or a write moved; none if it failed
--     Went n o       what went out of a text of n bytes
-- 01, "One run, complete". Assumes nothing.
use Rattle.std.specs.Prelude.{ℕ, ◌<◌, ◌≡◌, Result, Ok, Err}
use Rattle.std.specs.declared.io.Error.{Error}
use Rattle.streams.specs.declared.Broken.{Broken}

abbrev pub count_of : Result ℕ Error → ℕ
count_of (Ok n) = n
count_of (Err e) = 0

-- all of it; or, where a write failed, less
abbrev pub Went : ℕ → Result ℕ Broken → Type 0
Went n (Ok k) = k ≡ n
Went n (Err b) = b.done < n
