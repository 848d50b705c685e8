-- What the writer's stores make of the buffer.
--     copied-stored     bytes that are copied over a part of it
--     code-reckoned     the command byte of a match, from its direction
--     match-stored, mark-stored, lengths-stored     a command byte and the operands behind it are the command
--     Putting           what the loops over the records and over the marks keep
--     putting-start, putting-next, putting-ends     at the start, an item later, and behind the last
--     matches-counted, record-directed, match-held     the record that the first loop comes to
--     mark-sided        the mark that the second comes to
--     script-stored     lengths, matches, marks and the end are a script
--     faulty-written, short-written, whole-written     the contract of the call, by its answer
-- Assumes nothing.
use Prim.Native.Nat.{ℕ, zero, suc, ◌+◌, ◌*◌, ◌/◌, ◌≤◌, ◌<◌}
use mathlib.Core.Path.{◌≡◌, refl, sym, ap, ◌∙◌}
use mathlib.Core.List.{List, [], ◌∷◌, ◌++◌, flat_map, append_assoc}
use native.Mathlib.Omega.{arith}
use borrow.Author.Tests.{lt-ltb, le-ltb}
use lib.Dec.{eqb}
use lib.ListN.{length, get_or, take, length-append, length-map, get_or-map}
use lib.Seq.{sets, sets-eq, length-sets, drop-drop}
use borrow.Rule.Slice.PartMut.{put_mid}
use Rattle.std.specs.Prelude.{Result, Ok, Err}
use Rattle.script.specs.Commands.{lengths_width, match_width, mark_width}
use Rattle.script.specs.declared.refusal.Refusal.{Refusal}
use Rattle.script.specs.declared.refusal.Refusal.TheVariants.{BufferTooShort}
use Rattle.records.specs.Records.{record_width, records_of, no_record, record_at, match_of, matches_of}
use Rattle.records.specs.Records.{mark_numbers, points_of}
use Rattle.records.specs.Bytes.{number_bytes, lengths_bytes, code_of, match_bytes, mark_bytes, bytes_of}
use Rattle.records.specs.Storing.{Stored}
use Rattle.records.specs.Writing.{judgement_of, Writing, writing_of}
use Rattle.records.specs.Demands.{written_answer, WritingDemand}
use Rattle.records.specs.declared.Record.{Record}
use Rattle.writer.specs.Directed.{Directed, Sided}
use Rattle.records.proofs.Scripts.{flat-length, bytes-length}
use Rattle.records.proofs.Lists.{records-length, points-length, point-held, point-inside}
use Rattle.records.proofs.Laying.{stored-behind, stored-front, Laid, laid-start, laid_next, laid-ends}
use Rattle.records.proofs.Demands.{writing-demand}

-- what is copied over a part of the buffer is stored there
pub copied-stored : (out : List ℕ) (at : ℕ) {k : ℕ} {ys vs : List ℕ} → at + length vs ≤ length out → k ≡ length vs
    → ys ≡ vs → Stored out at vs (put_mid at k out ys)
copied-stored out at {k} {ys} {vs} room wide is =
    let stored : put_mid at k out ys ≡ sets out at vs =
    rw (is, wide, sets-eq vs out at room, drop-drop (length vs) at out) (sym (append_assoc (take at out) vs _)) in
    record { is = stored; as_long = ap length stored ∙ length-sets out at vs }

-- 0x44 and 0x52 are 14 apart
pub code-reckoned : (direction : ℕ) → direction ≤ 1 → 0x44 + 14 * direction ≡ code_of (eqb direction 1)
code-reckoned zero h = refl
code-reckoned (suc zero) h = refl
code-reckoned (suc (suc n)) h = absurd (omega arith)

pub match-stored : {out : List ℕ} {at : ℕ} (r : Record) {code : ℕ} {o o' o'' o''' : List ℕ}
    → code ≡ code_of (eqb r.direction 1) → Stored out at (code ∷ []) o
    → Stored o (at + 1) (number_bytes r.left_a) o' → Stored o' (at + 5) (number_bytes r.left_b) o''
    → Stored o'' (at + 9) (number_bytes r.length) o''' → Stored out at (match_bytes (match_of r)) o'''
match-stored r is byte a b d =
    stored-behind (stored-behind (stored-behind (rw is at byte) refl a) (omega arith) b) (omega arith) d

pub mark-stored : (side position : ℕ) {out : List ℕ} {at : ℕ} {o o' o'' : List ℕ} → Stored out at (0x4D ∷ []) o
    → Stored o (at + 1) (side ∷ []) o' → Stored o' (at + 2) (number_bytes position) o''
    → Stored out at (mark_bytes (record { side = side; position = position })) o''
mark-stored side position byte a b = stored-behind (stored-behind byte refl a) (omega arith) b

pub lengths-stored : (p q : ℕ) {out o o' o'' : List ℕ} → Stored out 0 (0x4C ∷ []) o → Stored o 1 (number_bytes p) o'
    → Stored o' 5 (number_bytes q) o'' → Stored out 0 (lengths_bytes p q) o''
lengths-stored p q byte a b = stored-behind (stored-behind byte (omega arith) a) (omega arith) b

-- ---- the loops

-- of the items, as wide commands each, so many are put
pub record Putting {X : Type 0} (f : X → List ℕ) (width from : ℕ) (xs : List X) (before out : List ℕ) (k : ℕ)
    : Type 0 where
  pub inside : k ≤ length xs
  pub laid : Laid f from xs before out k (from + width * k)

module _ {X : Type 0} (f : X → List ℕ) (width from : ℕ) (xs : List X) (before : List ℕ) where
  pub putting-start : Putting f width from xs before before 0
  putting-start = record { inside = omega arith; laid = laid-start f from xs before (omega arith) }

  module _ {out : List ℕ} {k : ℕ} (h : Putting f width from xs before out k) where
    pub putting-next : (blank : X) {x : X} {out' : List ℕ} → length (f x) ≡ width → k < length xs
        → x ≡ get_or xs k blank → Stored out (from + width * k) (f x) out' → Putting f width from xs before out' (k + 1)
    putting-next blank wide below held stored =
        record {
          inside = omega arith;
          laid = laid_next f from xs before h.laid blank below held (omega arith) stored;
        }

    pub putting-ends : length xs ≤ k → Stored before from (flat_map f xs) out
    putting-ends all = laid-ends f from xs before h.laid all

-- the records
module _ (ns : List ℕ) {count : ℕ} (counted : count ≡ length (records_of ns)) where
  pub matches-counted : count ≡ length (matches_of ns)
  matches-counted = counted ∙ sym (length-map (records_of ns) match_of)

  module _ {k : ℕ} (below : k < count) where
    pub record-directed : {r : Record} → Directed ns → r ≡ record_at (records_of ns) k → r.direction ≤ 1
    record-directed all read = rw read (all.few k (omega arith))

    pub match-held : {r : Record} → r ≡ record_at (records_of ns) k
        → match_of r ≡ get_or (matches_of ns) k (match_of no_record)
    match-held read = ap match_of read ∙ sym (get_or-map match_of (records_of ns) k no_record)

-- the marks
pub mark-sided : (zs : List ℕ) {count k : ℕ} → count ≡ length (points_of zs) → k < count → Sided zs
    → get_or zs (mark_numbers * k) 0 ≤ 1
mark-sided zs {k = k} counted below all =
    rw (point-held zs k (point-inside zs counted below)) at (all.few k (omega arith))

-- ---- the whole script

pub script-stored : (p q : ℕ) (ns zs : List ℕ) {count marked : ℕ} → count ≡ length (records_of ns)
    → marked ≡ length (points_of zs) → {before o o' o'' out : List ℕ} → Stored before 0 (lengths_bytes p q) o
    → Stored o lengths_width (flat_map match_bytes (matches_of ns)) o'
    → Stored o' (lengths_width + match_width * count) (flat_map mark_bytes (points_of zs)) o''
    → Stored o'' (lengths_width + match_width * count + mark_width * marked) (0x45 ∷ []) out
    → Stored before 0 (bytes_of p q (matches_of ns) (points_of zs)) out
unfolding bytes_of
script-stored p q ns zs counted counted_marks lengths ms ks end =
    let m = flat_map match_bytes (matches_of ns) in
    let k = flat_map mark_bytes (points_of zs) in
    let wide = flat-length match_bytes 13 (λ x. refl) (matches_of ns) in
    let wide-marks = flat-length mark_bytes 6 (λ x. refl) (points_of zs) in
    let long = length-append (lengths_bytes p q) m in
    let long-marks = length-append (lengths_bytes p q ++ m) k in
    let many = matches-counted ns counted in
    stored-behind (stored-behind (stored-behind lengths (omega arith) ms) (omega arith) ks) (omega arith) end

-- ---- the call

module _ (p q : ℕ) (ns zs out : List ℕ) where
  -- what the contract says of a reply and a buffer
  abbrev Contract : Result ℕ Refusal → List ℕ → Type 0
  Contract reply out' =
      (reply ≡ (writing_of p q ns zs out).reply)
      × ((out' ≡ (writing_of p q ns zs out).script) × WritingDemand p q ns zs out out' (written_answer reply))

  contract : {reply : Result ℕ Refusal} {out' : List ℕ} → record { reply = reply; script = out' } ≡ writing_of p q ns zs out
      → Contract reply out'
  contract e =
      let is = ap (λ (w : Writing). w.reply) e in
      let is' = ap (λ (w : Writing). w.script) e in
      (is, (is', writing-demand p q ns zs out is is'))

  module _ {j : Result (Unit {0}) Refusal} (judged : j ≡ judgement_of p q ns zs) where
    pub faulty-written : {f : Refusal} → j ≡ Err f → Contract (Err f) out
    faulty-written is = contract (rw (sym judged ∙ is))

    module _ {u : Unit {0}} (is : j ≡ Ok u) {count marked : ℕ} (counted : count ≡ length ns / record_width)
        (counted_marks : marked ≡ length zs / mark_numbers) where
      script-long : length (bytes_of p q (matches_of ns) (points_of zs))
          ≡ lengths_width + match_width * count + mark_width * marked + 1
      script-long =
          omega (
            arith,
            bytes-length p q (matches_of ns) (points_of zs),
            length-map (records_of ns) match_of,
            records-length ns,
            points-length zs,
          )

      pub short-written : length out < lengths_width + match_width * count + mark_width * marked + 1
          → Contract (Err BufferTooShort) out
      short-written short =
          contract (rw (
            sym judged ∙ is,
            lt-ltb (length out) (length (bytes_of p q (matches_of ns) (points_of zs))) (omega (arith, script-long)),
          ))

      pub whole-written : {out' : List ℕ} → lengths_width + match_width * count + mark_width * marked + 1 ≤ length out
          → Stored out 0 (bytes_of p q (matches_of ns) (points_of zs)) out'
          → Contract (Ok (lengths_width + match_width * count + mark_width * marked + 1)) out'
      whole-written room stored =
          contract (rw (
            sym judged ∙ is,
            le-ltb (length out) (length (bytes_of p q (matches_of ns) (points_of zs))) (omega (arith, script-long)),
            stored-front stored (omega (arith, script-long)),
            ← script-long,
          ))
