-- What the chaining call does, on every script, gap price and lent buffer. TO READ: contracts mean what stands here.
--     most_price, most_rows      the limits of 17 and 18
--     Chaining                 the reply, and what the four lent buffers hold after the call
--     chaining_of               all five, by what the script, the price and the buffers are before it
-- 02, #104; SCOPE, "Order of chaining" and "Buffers of chaining". Assumes nothing.
use Rattle.std.specs.Prelude.{ℕ, cond, ◌||◌, List, ◌++◌, map, length, drop, ltb, Result, Ok, Err}
use Rattle.script.specs.Reading.{Reading, admitted, refused, read_script}
use Rattle.script.specs.declared.refusal.Refusal.{Refusal}
use Rattle.script.specs.declared.refusal.Refusal.TheVariants.{WorkTooShort, PriceTooHigh, ChainTooShort}
use Rattle.rows.specs.declared.Row.{Row}
use Rattle.refining.specs.Rows.{row_of_piece}
use Rattle.refining.specs.Refining.{Given, given_by, least_of, capacity_of, work_needed, zeroed, Refining, refining_of_matches}
use Rattle.backbone.specs.Backbone.{backbone_of, points_of}
use Rattle.backbone.specs.declared.Chained.{Chained}

-- 17: "if the gap price is above 1,000"
abbrev pub most_price : ℕ
most_price = 1000

-- 18: "since a row number must fit 32 bits"
abbrev pub most_rows : ℕ
most_rows = 4294967295

pub record Chaining : Type 0 where
  pub reply : Result Chained Refusal
  pub table : List ℕ
  pub work : List ℕ
  pub chain : List ℕ
  pub scores : List ℕ

-- SCOPE, "Kept when refused": nothing is altered
abbrev pub kept_by : Refusal → List ℕ → List ℕ → List ℕ → List ℕ → Chaining
kept_by r table work chain scores =
    record { reply = Err r; table = table; work = work; chain = chain; scores = scores }

-- the rows of the least table
abbrev pub least_rows : Given → List Row
least_rows g = map row_of_piece (least_of g)

-- 12, or the backbone of the rows that refining made. SCOPE, "Buffers of chaining": table and work buffer as refining
-- leaves them, the row numbers at the chain buffer's start, and the score buffer all zero
abbrev pub chaining_by : Result ℕ Refusal → Given → ℕ → Refining → List ℕ → List ℕ → Chaining
chaining_by (Err r) g price made chain scores =
    record { reply = Err r; table = made.table; work = made.work; chain = chain; scores = zeroed scores }
chaining_by (Ok n) g price made chain scores =
    let ks = backbone_of price (least_rows g) in
    record {
      reply = Ok (record { score = points_of price (least_rows g); rows = n; length = length ks });
      table = made.table;
      work = made.work;
      chain = ks ++ drop (length ks) chain;
      scores = zeroed scores;
    }

abbrev pub chaining_after : Given → ℕ → Refining → List ℕ → List ℕ → Chaining
chaining_after g price made chain scores = chaining_by made.reply g price made chain scores

-- SCOPE, "Order of chaining": 11, 17, 18, 12. 18 goes by the capacity of the lent table
unfoldable pub chaining_of_matches : Given → ℕ → List ℕ → List ℕ → List ℕ → List ℕ → Chaining
chaining_of_matches g price table work chain scores =
    let capacity = capacity_of table in
    let tooShort = ltb (length chain) capacity || (ltb (length scores) capacity || ltb most_rows capacity) in
    cond (ltb (length work) (work_needed table)) (kept_by WorkTooShort table work chain scores)
    (cond (ltb most_price price) (kept_by PriceTooHigh table work chain scores)
    (cond tooShort (kept_by ChainTooShort table work chain scores)
    (chaining_after g price (refining_of_matches g table work) chain scores)))

-- the script's own refusal comes first, and alters nothing
abbrev pub chaining_of_reading : Reading → ℕ → List ℕ → List ℕ → List ℕ → List ℕ → Chaining
chaining_of_reading (refused r) price table work chain scores = kept_by r table work chain scores
chaining_of_reading (admitted ls ms ks) price table work chain scores =
    chaining_of_matches (given_by ms ks) price table work chain scores

unfoldable pub chaining_of : List ℕ → ℕ → List ℕ → List ℕ → List ℕ → List ℕ → Chaining
chaining_of script price table work chain scores = chaining_of_reading (read_script script) price table work chain scores
