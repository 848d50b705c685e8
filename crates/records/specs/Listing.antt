-- What reading a script into lists does. TO READ: contracts mean what stands here.
--     Listing                        the reply of the call, and what the two lent buffers hold after it
--     listing_of script out points    all three, by the script and what the buffers hold before it
-- 02, #101 and #106; SCOPE, "Order of listing". Assumes nothing.
use Rattle.std.specs.Prelude.{ℕ, ◌*◌, cond, ◌||◌, List, ◌++◌, length, drop, ltb, Result, Ok, Err}
use Rattle.script.specs.Reading.{Reading, admitted, refused, read_script, letters}
use Rattle.script.specs.declared.refusal.Refusal.{Refusal}
use Rattle.script.specs.declared.refusal.Refusal.TheVariants.{BufferTooShort}
use Rattle.records.specs.Records.{record_width, list_of, mark_numbers, point_list}
use Rattle.records.specs.declared.Listed.{Listed}

pub record Listing : Type 0 where
  pub reply : Result Listed Refusal
  pub records : List ℕ
  pub marks : List ℕ

-- the script's own refusals, then 16 if either buffer is too short; records and marks that fit stand at the start of
-- their buffer, and the numbers behind are kept
abbrev pub listing_of_reading : Reading → List ℕ → List ℕ → Listing
listing_of_reading (refused f) out points = record { reply = Err f; records = out; marks = points }
listing_of_reading (admitted ls ms ks) out points =
    let short : Listing = record { reply = Err BufferTooShort; records = out; marks = points } in
    let whole : Listing = record {
      reply = Ok (record { p = letters ls 0; q = letters ls 1; count = length ms; marks = length ks });
      records = list_of ms ++ drop (record_width * length ms) out;
      marks = point_list ks ++ drop (mark_numbers * length ks) points;
    } in
    cond (ltb (length out) (record_width * length ms) || ltb (length points) (mark_numbers * length ks)) short whole

-- SCOPE, "Listed": of any string of bytes
abbrev pub listing_of : List ℕ → List ℕ → List ℕ → Listing
listing_of script out points = listing_of_reading (read_script script) out points
