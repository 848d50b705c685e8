-- A script and its bytes: `bytes_of` of good lengths, matches and marks is an admitted script that holds them, with its
-- matches first, and each such script is `bytes_of` of what it holds.
--     flat_append, flat-snoc     of two lists the second behind the first, item by item; of one more item
--     flat-length       as many elements for each item as the items have each
--     bytes-length      10, 13 for each match and 6 for each mark
--     Tracked           a match between the tracks 0 and 1
--     written-first, written-admitted     what is written is read, and its matches stand first
--     admitted-written  what is read is written, byte for byte, if the matches stand first
-- The first goes up the matches and marks with `Reach`, the second down it. Assumes nothing.
use Prim.Native.Nat.{ℕ, ◌+◌, ◌*◌, ◌≤◌, ◌<◌}
use mathlib.Core.Path.{◌≡◌, refl, sym, ap, subst, ◌∙◌}
use mathlib.Core.Bool.{Bool, true, false}
use mathlib.Core.List.Memᴰ
use mathlib.Core.List.{List, [], ◌∷◌, ◌++◌, flat_map, append_assoc, append-nil, Memᴰ}
use mathlib.Core.List.Memᴰ.{head as here}
use native.Mathlib.Omega.{arith}
use native.Mathlib.Decide.{dec_lt}
use lib.ListN.{length, get_or, drop, length-append, drop_of_length-le}
use lib.Seq.{get_or-append-add, get_or-append_seam}
use Rattle.script.specs.Commands.{number_at}
use Rattle.script.specs.Answers.{value, contents}
use Rattle.script.specs.Outcomes.{Byte, MatchByte, MatchAt, MarkAt, LengthsAt, InRange, Within, OnSequence}
use Rattle.script.specs.Outcomes.{Reach, opened, taken, marked, Outcome}
use Rattle.script.specs.declared.command.Match.{Match}
use Rattle.script.specs.declared.command.Mark.{Mark}
use Rattle.script.proofs.Outcome.{reach-place}
use Rattle.records.specs.Bytes.{number_bytes, lengths_bytes, code_of, match_bytes, mark_bytes, bytes_of}
use Rattle.records.proofs.Bytes.{Bytes, number_append, number-back, drop-one, drop-two, drop-number}

-- ---- item by item

module _ {X Y : Type 0} (f : X → List Y) where
  pub flat_append : (xs ys : List X) → flat_map f (xs ++ ys) ≡ flat_map f xs ++ flat_map f ys
  unfolding flat_map
  flat_append [] ys = refl
  flat_append (x ∷ xs) ys = ap (λ l. f x ++ l) (flat_append xs ys) ∙ sym (append_assoc (f x) _ _)

  pub flat-snoc : (xs : List X) (x : X) → flat_map f (xs ++ x ∷ []) ≡ flat_map f xs ++ f x
  unfolding flat_map
  flat-snoc xs x = flat_append xs (x ∷ []) ∙ ap (λ l. flat_map f xs ++ l) (append-nil (f x))

  pub flat-length : (width : ℕ) → ((x : X) → length (f x) ≡ width) → (xs : List X)
      → length (flat_map f xs) ≡ width * length xs
  unfolding flat_map
  flat-length width each [] = omega arith
  flat-length width each (x ∷ xs) =
      omega (arith, length-append (f x) (flat_map f xs), each x, flat-length width each xs)

  none-flat : (xs : List X) → length xs ≡ 0 → flat_map f xs ≡ []
  unfolding flat_map
  none-flat [] e = refl
  none-flat (x ∷ xs) e = absurd (omega arith)

behind : {Y : Type 0} (a b c rest : List Y) → (a ++ b) ++ (c ++ rest) ≡ (a ++ (b ++ c)) ++ rest
behind a b c rest = simp append_assoc

before-none : {Y : Type 0} (a b c rest : List Y) {d : List Y} → d ≡ []
    → (a ++ b ++ d) ++ (c ++ rest) ≡ (a ++ (b ++ c) ++ d) ++ rest
before-none a b c rest none = rw none (simp (append-nil, append_assoc))

-- what stands before the first mark, and before the end
passed_length : (p q : ℕ) (ms : List Match) → length (lengths_bytes p q ++ flat_map match_bytes ms) ≡ 9 + 13 * length ms
passed_length p q ms =
    omega (
      arith,
      length-append (lengths_bytes p q) (flat_map match_bytes ms),
      flat-length match_bytes 13 (λ m. refl) ms,
    )

marked-length : (p q : ℕ) (ms : List Match) (ks : List Mark)
    → length (lengths_bytes p q ++ flat_map match_bytes ms ++ flat_map mark_bytes ks) ≡ 9 + 13 * length ms + 6 * length ks
marked-length p q ms ks =
    omega (
      arith,
      passed_length p q ms,
      length-append (lengths_bytes p q ++ flat_map match_bytes ms) (flat_map mark_bytes ks),
      flat-length mark_bytes 6 (λ k. refl) ks,
    )

pub bytes-length : (p q : ℕ) (ms : List Match) (ks : List Mark)
    → length (bytes_of p q ms ks) ≡ 10 + 13 * length ms + 6 * length ks
unfolding bytes_of
bytes-length p q ms ks =
    omega (
      arith,
      marked-length p q ms ks,
      length-append (lengths_bytes p q ++ flat_map match_bytes ms ++ flat_map mark_bytes ks) (0x45 ∷ []),
    )

-- ---- what is written is read

abbrev pub Tracked : Match → Type 0
Tracked m = (m.track_a ≡ 0) × (m.track_b ≡ 1)

byte_at : (pre rest : List ℕ) (code : ℕ) → Byte (pre ++ code ∷ rest) (length pre) code
byte_at pre rest code =
    record {
      inside = omega (arith, length-append pre (code ∷ rest));
      is = get_or-append_seam pre code rest 0;
    }

code_at : (pre rest : List ℕ) (way : Bool) → MatchByte (pre ++ code_of way ∷ rest) (length pre) way
code_at pre rest false = MatchByte.direct (byte_at pre rest 0x44)
code_at pre rest true = MatchByte.backward (byte_at pre rest 0x52)

-- from the first item to the last
along : {X : Type 0} (R : List X → Type 0) (all : List X) → R []
    → ((xs ys : List X) (x : X) → xs ++ x ∷ ys ≡ all → R xs → R (xs ++ x ∷ [])) → R all
along {X} R all start next = go all [] refl start
  where
    go : (after before : List X) → before ++ after ≡ all → R before → R all
    go [] before e r = subst R (sym (append-nil before) ∙ e) r
    go (x ∷ after) before e r =
        go after (before ++ x ∷ []) (append_assoc before (x ∷ []) after ∙ e) (next before after x e r)

-- each is one of them
among : {X : Type 0} (xs ys : List X) (x : X) {all : List X} → xs ++ x ∷ ys ≡ all → Memᴰ x all
among xs ys x e = subst (Memᴰ x) e (Memᴰ.append_right xs (here {xs = ys} refl))

-- the bytes of one item among those of all
flat-split : {X : Type 0} (f : X → List ℕ) (pre rest : List ℕ) (xs ys : List X) (x : X)
    → pre ++ (flat_map f (xs ++ x ∷ ys) ++ rest) ≡ (pre ++ flat_map f xs) ++ (f x ++ (flat_map f ys ++ rest))
unfolding flat_map
flat-split f pre rest xs ys x = simp (flat_append f xs (x ∷ ys), append_assoc)

module _ {p q : ℕ} (a : InRange p) (b : InRange q) where
  match-at : (pre rest : List ℕ) (m : Match) → Tracked m → Within p q m
      → MatchAt (pre ++ (match_bytes m ++ rest)) (length pre) m
  match-at pre rest m tracked w =
      let few = a.few in
      let few' = b.few in
      let some = w.some in
      let in_a = w.in_a in
      let in_b = w.in_b in
      let s = match_bytes m ++ rest in
      record {
        code = code_at pre _ m.reversed;
        whole = omega (arith, length-append pre s, length-append (match_bytes m) rest);
        on_a = tracked.0;
        on_b = tracked.1;
        left_a = sym (number_append pre s 1 ∙ number-back m.left_a (omega arith));
        left_b = sym (number_append pre s 5 ∙ number-back m.left_b (omega arith));
        letters = sym (number_append pre s 9 ∙ number-back m.length (omega arith));
      }

  -- a mark on A or B has 32 bits
  on-few : {k : Mark} → OnSequence p q k → k.position ≤ 1_000_000_000
  on-few (OnSequence.on_a _ h) = omega (arith, a.few)
  on-few (OnSequence.on_b _ h) = omega (arith, b.few)

  mark-at : (pre rest : List ℕ) (k : Mark) → OnSequence p q k
      → MarkAt (pre ++ (mark_bytes k ++ rest)) (length pre) k
  mark-at pre rest k on =
      let s = mark_bytes k ++ rest in
      record {
        code = byte_at pre _ 0x4D;
        whole = omega (arith, length-append pre s, length-append (mark_bytes k) rest);
        side = sym (get_or-append-add pre s 1 0);
        position = sym (number_append pre s 2 ∙ number-back k.position (omega (arith, on-few on)));
      }

  lengths-at : (rest : List ℕ) → LengthsAt (lengths_bytes p q ++ rest) p q
  lengths-at rest =
      let few = a.few in
      let few' = b.few in
      record {
        code = byte_at [] _ 0x4C;
        whole = omega (arith, length-append (lengths_bytes p q) rest);
        first = sym (number-back p (omega arith));
        second = sym (number-back q (omega arith));
      }

  -- behind the lengths stand the matches ..
  matches-reach : (ms : List Match) (rest : List ℕ) → ((m : Match) → Memᴰ m ms → Tracked m × Within p q m)
      → length ms ≤ 2048
      → Reach (lengths_bytes p q ++ (flat_map match_bytes ms ++ rest)) p q (9 + 13 * length ms) ms []
  matches-reach ms rest good few =
      let s = lengths_bytes p q ++ (flat_map match_bytes ms ++ rest) in
      along (λ xs. Reach s p q (9 + 13 * length xs) xs []) ms (opened (lengths-at _) a b) (λ xs ys m e r.
      let pre = lengths_bytes p q ++ flat_map match_bytes xs in
      let is : s ≡ pre ++ (match_bytes m ++ (flat_map match_bytes ys ++ rest)) =
      rw (← e) (flat-split match_bytes (lengths_bytes p q) rest xs ys m) in
      let g = good m (among xs ys m e) in
      let stands : MatchAt s (9 + 13 * length xs) m =
      rw (is, ← passed_length p q xs) (match-at pre _ m g.0 g.1) in
      let next : 9 + 13 * length xs + 13 ≡ 9 + 13 * length (xs ++ m ∷ []) =
      omega (arith, length-append xs (m ∷ [])) in
      rw next at (taken r (omega (arith, ap length e, length-append xs (m ∷ ys))) stands g.1))

  -- .. and behind these the marks
  marks-reach : (ms : List Match) (ks : List Mark) {s : List ℕ} (rest : List ℕ)
      → s ≡ (lengths_bytes p q ++ flat_map match_bytes ms) ++ (flat_map mark_bytes ks ++ rest)
      → ((k : Mark) → Memᴰ k ks → OnSequence p q k) → length ks ≤ 512 → Reach s p q (9 + 13 * length ms) ms []
      → Reach s p q (9 + 13 * length ms + 6 * length ks) ms ks
  marks-reach ms ks {s} rest parts good few start =
      let zero : 9 + 13 * length ms ≡ 9 + 13 * length ms + 6 * 0 = omega arith in
      along (λ xs. Reach s p q (9 + 13 * length ms + 6 * length xs) ms xs) ks (rw zero at start) (λ xs ys k e r.
      let pre = lengths_bytes p q ++ flat_map match_bytes ms ++ flat_map mark_bytes xs in
      let is : s ≡ pre ++ (mark_bytes k ++ (flat_map mark_bytes ys ++ rest)) =
      parts ∙ rw (← e) (flat-split mark_bytes (lengths_bytes p q ++ flat_map match_bytes ms) rest xs ys k) in
      let on = good k (among xs ys k e) in
      let stands : MarkAt s (9 + 13 * length ms + 6 * length xs) k =
      rw (is, ← marked-length p q ms xs) (mark-at pre _ k on) in
      let next : 9 + 13 * length ms + 6 * length xs + 6 ≡ 9 + 13 * length ms + 6 * length (xs ++ k ∷ []) =
      omega (arith, length-append xs (k ∷ [])) in
      rw next at (marked r (omega (arith, ap length e, length-append xs (k ∷ ys))) stands on))

  module _ (ms : List Match) (ks : List Mark) (good : (m : Match) → Memᴰ m ms → Tracked m × Within p q m)
      (few : length ms ≤ 2048) where
    pub written-first : Reach (bytes_of p q ms ks) p q (9 + 13 * length ms) ms []
    unfolding bytes_of
    written-first =
        let rest = flat_map mark_bytes ks ++ 0x45 ∷ [] in
        let parts : bytes_of p q ms ks ≡ lengths_bytes p q ++ (flat_map match_bytes ms ++ rest) = simp append_assoc in
        rw parts (matches-reach ms rest good few)

    pub written-admitted : ((k : Mark) → Memᴰ k ks → OnSequence p q k) → length ks ≤ 512
        → Outcome (bytes_of p q ms ks) (value (contents (p ∷ q ∷ []) ms ks))
    unfolding bytes_of
    written-admitted good-marks few_marks =
        let pre = lengths_bytes p q ++ flat_map match_bytes ms ++ flat_map mark_bytes ks in
        let parts = append_assoc (lengths_bytes p q ++ flat_map match_bytes ms) (flat_map mark_bytes ks) (0x45 ∷ []) in
        Outcome.is_admitted (marks-reach ms ks _ parts good-marks few_marks written-first)
        (rw (← marked-length p q ms ks) (byte_at pre [] 0x45))
        (omega (arith, length-append pre (0x45 ∷ []), marked-length p q ms ks))

-- ---- what is read is written

module _ (s : List ℕ) (bytes : Bytes s) where
  number-bytes : (from to : ℕ) {n : ℕ} → n ≡ number_at s from → from + 4 ≡ to → to ≤ length s
      → drop from s ≡ number_bytes n ++ drop to s
  number-bytes from to is on h = rw (is, ← on) (drop-number s bytes from (omega arith))

  lengths-bytes : {p q : ℕ} → LengthsAt s p q → s ≡ lengths_bytes p q ++ drop 9 s
  lengths-bytes l =
      let whole = l.whole in
      drop-one s 0 0 (omega arith)
      ∙ rw (
        l.code.is,
        number-bytes 1 5 l.first refl (omega arith),
        number-bytes 5 9 l.second refl whole,
      )

  match-code : {at : ℕ} {way : Bool} → MatchByte s at way → get_or s at 0 ≡ code_of way
  match-code (MatchByte.direct b) = b.is
  match-code (MatchByte.backward b) = b.is

  match-bytes : {at : ℕ} {m : Match} → MatchAt s at m → drop at s ≡ match_bytes m ++ drop (at + 13) s
  match-bytes {at} d =
      let whole = d.whole in
      drop-one s 0 at (omega arith)
      ∙ rw (
        match-code d.code,
        number-bytes (at + 1) (at + 5) d.left_a (omega arith) (omega arith),
        number-bytes (at + 5) (at + 9) d.left_b (omega arith) (omega arith),
        number-bytes (at + 9) (at + 13) d.letters (omega arith) whole,
      )

  mark-bytes : {at : ℕ} {k : Mark} → MarkAt s at k → drop at s ≡ mark_bytes k ++ drop (at + 6) s
  mark-bytes {at} d =
      let whole = d.whole in
      drop-two s 0 at (omega arith)
      ∙ rw (d.code.is, ← d.side, number-bytes (at + 2) (at + 6) d.position (omega arith) whole)

  -- before the first mark a match stands at every thirteenth byte ..
  no_mark : {at : ℕ} {way : Bool} → MatchByte s at way → get_or s at 0 ≡ 0x4D → ⊥
  no_mark (MatchByte.direct b) e = omega (arith, b.is)
  no_mark (MatchByte.backward b) e = omega (arith, b.is)

  matches-stand : {p q at : ℕ} {ms : List Match} {ks : List Mark} → Reach s p q at ms ks → length ks ≡ 0
      → (i : ℕ) → i < length ms → get_or s (9 + 13 * i) 0 ≡ 0x4D → ⊥
  matches-stand (opened _ _ _) none i h = absurd (omega arith)
  matches-stand (taken {at} {ms} {m = m} r _ d _) none i h =
      elim (dec_lt i (length ms)) [
        | yes below ↦ matches-stand r none i below
        | no n ↦ let last : at ≡ 9 + 13 * i = omega (arith, reach-place r, length-append ms (m ∷ [])) in
            rw last at (no_mark d.code)
      ]
  matches-stand (marked {ks = ks} {k} r _ _ _) none i h = absurd (omega (arith, length-append ks (k ∷ [])))

  module _ {p q first : ℕ} {all : List Match} (before : Reach s p q first all []) where
    -- .. so that no mark is met before the last of them ..
    marks-late : {at : ℕ} {ms : List Match} {ks : List Mark} → Reach s p q at ms ks → length ms < length all
        → length ks ≡ 0
    marks-late (opened _ _ _) h = refl
    marks-late (taken {ms} {m = m} r _ _ _) h = marks-late r (omega (arith, length-append ms (m ∷ [])))
    marks-late (marked {at} {ms} r _ d _) h =
        let none = marks-late r h in
        let place : at ≡ 9 + 13 * length ms = omega (arith, reach-place r) in
        absurd (matches-stand before refl (length ms) h (rw place at d.code.is))

    -- .. and the bytes are those of the matches, then those of the marks
    reach-bytes : {at : ℕ} {ms : List Match} {ks : List Mark} → Reach s p q at ms ks → length ms ≤ length all
        → s ≡ (lengths_bytes p q ++ flat_map match_bytes ms ++ flat_map mark_bytes ks) ++ drop at s
    unfolding flat_map
    reach-bytes (opened l _ _) h = lengths-bytes l
    reach-bytes (taken {ms} {ks} {m} r _ d _) h =
        let fewer : length ms < length all = omega (arith, length-append ms (m ∷ [])) in
        reach-bytes r (omega arith)
        ∙ rw (match-bytes d, flat-snoc match_bytes ms m)
        (before-none (lengths_bytes p q) (flat_map match_bytes ms) (match_bytes m) _
        (none-flat mark_bytes ks (marks-late r fewer)))
    reach-bytes (marked {ms} {ks} {k} r _ d _) h =
        reach-bytes r h
        ∙ rw (mark-bytes d, flat-snoc mark_bytes ks k)
        (behind (lengths_bytes p q ++ flat_map match_bytes ms) (flat_map mark_bytes ks) (mark_bytes k) _)

pub admitted-written : (s : List ℕ) → Bytes s → {p q at : ℕ} {ms : List Match} {ks : List Mark}
    → Outcome s (value (contents (p ∷ q ∷ []) ms ks)) → Reach s p q at ms [] → bytes_of p q ms ks ≡ s
unfolding bytes_of
admitted-written s bytes {ms = ms} (Outcome.is_admitted {at} r b e) before =
    let end : drop at s ≡ 0x45 ∷ [] =
    drop-one s 0 at (omega arith)
    ∙ rw (b.is, drop_of_length-le s {i = at + 1} (omega arith)) in
    sym (reach-bytes s bytes before r (omega arith) ∙ rw end)
