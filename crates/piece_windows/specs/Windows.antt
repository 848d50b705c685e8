-- The count of distinct pieces in windows. Only private functions promise anything by it.
--     in_span span r                  the piece of r lies in the span
--     Rooms numbers spare            room for two numbers at least, and as much to sort them
--     Spanned used span              a closed span holds a piece, and does not end before its start
--     Gathered rs k ns used span     the first numbers of ns, as many as are used, name rows of the pieces of the span,
--                                    all that occur among the first k rows of rs
--     Roomier rs ns span at ns' w    what was gathered is gathered still, `at` numbers at most, for a span that may be
--                                    shorter
--     Stepped rs from step ns w      rows of w's span, which starts at `from`, are gathered, and all its pieces if the
--                                    step is one
--     Filled rs from ns w            all pieces of w's span, which starts at `from`, are gathered
--     Counted rs from w              so many pieces are in w's span, which starts at `from`
-- Assumes nothing.
use Rattle.std.specs.Prelude.{ℕ, ◌≤◌, ◌<◌, Bool, true, false, not, ◌&&◌, ◌||◌, ◌≡◌, List, length, get_or, take}
use Rattle.table.specs.Distinct.{occurs, first_of_each}
use Rattle.table.specs.Summing.{count}
use Rattle.sorted_pieces.specs.Order.{before, Among}
use Rattle.rows.specs.declared.Row.{Row}
use Rattle.piece_windows.specs.declared.Span.{Span}
use Rattle.piece_windows.specs.declared.Window.{Window}

unfoldable pub in_span : Span → Row → Bool
in_span span r = not (before r span.from) && (not span.closed || before r span.to)

pub record Rooms (numbers spare : List ℕ) : Type 0 where
  pub some : 2 ≤ length numbers
  pub room : length numbers ≤ length spare

-- a closed span holds a piece, so a later pass has less to do, and ends where it starts or behind
pub record Spanned (used : ℕ) (span : Span) : Type 0 where
  pub some : span.closed ≡ true → 0 < used
  pub forward : span.closed ≡ true → before span.to span.from ≡ false

pub record Gathered (rs : List Row) (k : ℕ) (ns : List ℕ) (used : ℕ) (span : Span) : Type 0 where
  pub within : used ≤ length ns
  pub named : (i : ℕ) → i < used → get_or ns i 0 < length rs
  pub inside : (r : Row) → Among rs ns used r → in_span span r ≡ true
  pub complete : (r : Row) → in_span span r ≡ true → occurs r (take k rs) ≡ true → Among rs ns used r
  pub spanned : Spanned used span

pub record Roomier (rs : List Row) (ns : List ℕ) (span : Span) (at : ℕ) (ns' : List ℕ) (w : Window) : Type 0 where
  pub start : w.span.from ≡ span.from
  pub fewer : w.used ≤ at
  pub gathered : (k : ℕ) → Gathered rs k ns (length ns) span → Gathered rs k ns' w.used w.span

pub record Stepped (rs : List Row) (from : Row) (step : ℕ) (ns : List ℕ) (w : Window) : Type 0 where
  pub start : w.span.from ≡ from
  pub gathered : Gathered rs 0 ns w.used w.span
  pub all : step ≡ 1 → Gathered rs (length rs) ns w.used w.span

pub record Filled (rs : List Row) (from : Row) (ns : List ℕ) (w : Window) : Type 0 where
  pub start : w.span.from ≡ from
  pub gathered : Gathered rs (length rs) ns w.used w.span

pub record Counted (rs : List Row) (from : Row) (w : Window) : Type 0 where
  pub start : w.span.from ≡ from
  pub counted : w.used ≡ count (in_span w.span) (first_of_each rs)
  pub spanned : Spanned w.used w.span
