-- The first 29,707 bytes decide the outcome of every longer script: what the table of refusals asks of a script, it
-- asks of these bytes alone.
--     reach-take       good commands within the first n bytes are good commands of those n bytes
--     prefix-decides   one byte more than the longest admitted script has decides
-- Assumes nothing.
use Prim.Native.Nat.{ℕ, ◌+◌, ◌≤◌, ◌<◌}
use mathlib.Core.Path.{◌≡◌, sym, ◌∙◌}
use mathlib.Core.Logic.{inl, inr}
use mathlib.Core.Bool.{Bool}
use mathlib.Core.List.{List}
use native.Mathlib.Omega.{arith}
use native.Mathlib.Decide.{dec_le}
use native.Mathlib.Nat.{lt_of_not-le}
use lib.ListN.{length, take, length-take}
use lib.Seq.{get_or-take, take_all}
use Rattle.script.specs.Limits.{most_matches, most_marks, longest_script}
use Rattle.script.specs.Commands.{lengths_width, match_width, mark_width, number_at}
use Rattle.script.specs.Reading.{read_script}
use Rattle.script.specs.Answers.{Answer, Contents}
use Rattle.script.specs.Outcomes.{Byte, MatchByte, MatchAt, MarkAt, LengthsAt, Reach, opened, taken, marked}
use Rattle.script.specs.Outcomes.{Short, Outcome}
use Rattle.script.specs.declared.command.Match.{Match}
use Rattle.script.specs.declared.command.Mark.{Mark}
use Rattle.script.proofs.Named.{answer-inj}
use Rattle.script.proofs.Outcome.{reach-place, outcome-stated, outcome-alone}

number-take : (n : ℕ) (s : List ℕ) (k : ℕ) → k + 4 ≤ n → number_at (take n s) k ≡ number_at s k
number-take n s k h =
    rw (
      get_or-take n s k 0 (omega arith),
      get_or-take n s (k + 1) 0 (omega arith),
      get_or-take n s (k + 2) 0 (omega arith),
      get_or-take n s (k + 3) 0 (omega arith),
    )

module _ {s : List ℕ} (n : ℕ) where
  byte-take : {at code : ℕ} → at < n → Byte s at code → Byte (take n s) at code
  byte-take {at} h b =
      record { inside = omega (arith, length-take n s, b.inside); is = get_or-take n s at 0 h ∙ b.is }

  match-byte-take : {at : ℕ} {way : Bool} → at < n → MatchByte s at way → MatchByte (take n s) at way
  match-byte-take h (MatchByte.direct b) = MatchByte.direct (byte-take h b)
  match-byte-take h (MatchByte.backward b) = MatchByte.backward (byte-take h b)

  match-at-take : {at : ℕ} {m : Match} → at + match_width ≤ n → MatchAt s at m → MatchAt (take n s) at m
  match-at-take {at} h d =
      record {
        code = match-byte-take (omega arith) d.code;
        whole = omega (arith, length-take n s, d.whole);
        on_a = d.on_a;
        on_b = d.on_b;
        left_a = d.left_a ∙ sym (number-take n s (at + 1) (omega arith));
        left_b = d.left_b ∙ sym (number-take n s (at + 5) (omega arith));
        letters = d.letters ∙ sym (number-take n s (at + 9) (omega arith));
      }

  mark-at-take : {at : ℕ} {k : Mark} → at + mark_width ≤ n → MarkAt s at k → MarkAt (take n s) at k
  mark-at-take {at} h d =
      record {
        code = byte-take (omega arith) d.code;
        whole = omega (arith, length-take n s, d.whole);
        side = d.side ∙ sym (get_or-take n s (at + 1) 0 (omega arith));
        position = d.position ∙ sym (number-take n s (at + 2) (omega arith));
      }

  lengths-take : {p q : ℕ} → lengths_width ≤ n → LengthsAt s p q → LengthsAt (take n s) p q
  lengths-take h l =
      record {
        code = byte-take (omega arith) l.code;
        whole = omega (arith, length-take n s, l.whole);
        first = l.first ∙ sym (number-take n s 1 (omega arith));
        second = l.second ∙ sym (number-take n s 5 (omega arith));
      }

  pub reach-take : {p q at : ℕ} {ms : List Match} {ks : List Mark} → at ≤ n → Reach s p q at ms ks
      → Reach (take n s) p q at ms ks
  reach-take h (opened l a b) = opened (lengths-take h l) a b
  reach-take h (taken r room d w) = taken (reach-take (omega arith) r) room (match-at-take h d) w
  reach-take h (marked r room d o) = marked (reach-take (omega arith) r) room (mark-at-take h d) o

-- of a script longer than n bytes, which are more than the longest admitted one has
module _ {s : List ℕ} (n : ℕ) (long : n < length s) (enough : longest_script < n) where
  before-end : {p q at : ℕ} {ms : List Match} {ks : List Mark} → Reach s p q at ms ks → at + 1 < n
  before-end r = omega (arith, reach-place r)

  kept : {p q at : ℕ} {ms : List Match} {ks : List Mark} → Reach s p q at ms ks → Reach (take n s) p q at ms ks
  kept r = reach-take n (omega (arith, before-end r)) r

  match-kept : {p q at : ℕ} {ms : List Match} {ks : List Mark} {m : Match} → Reach s p q at ms ks
      → length ms < most_matches → MatchAt s at m → MatchAt (take n s) at m
  match-kept r room d = match-at-take n (omega (arith, reach-place r)) d

  mark-kept : {p q at : ℕ} {ms : List Match} {ks : List Mark} {k : Mark} → Reach s p q at ms ks
      → length ks < most_marks → MarkAt s at k → MarkAt (take n s) at k
  mark-kept r room d = mark-at-take n (omega (arith, reach-place r)) d

  short-take : {at : ℕ} → Short s at → Short (take n s) at
  short-take (Short.lengths b h) = absurd (omega arith)
  short-take (Short.pairing r room b h) = absurd (omega (arith, reach-place r))
  short-take (Short.marking r room b h) = absurd (omega (arith, reach-place r))
  short-take (Short.ran_out r e) = absurd (omega (arith, before-end r))

  outcome-take : {a : Answer Contents} → Outcome s a → Outcome (take n s) a
  outcome-take (Outcome.headless (inl e)) = absurd (omega arith)
  outcome-take (Outcome.headless (inr x)) = Outcome.headless (inr (λ e. x (sym (get_or-take n s 0 0 (omega arith)) ∙ e)))
  outcome-take (Outcome.unknown_command {at} r h n1 n2 n3 n4 n5) =
      let same = sym (get_or-take n s at 0 (omega (arith, before-end r))) in
      Outcome.unknown_command (kept r) (omega (arith, length-take n s, before-end r))
      (λ e. n1 (same ∙ e)) (λ e. n2 (same ∙ e)) (λ e. n3 (same ∙ e)) (λ e. n4 (same ∙ e))
      (λ e. n5 (same ∙ e))
  outcome-take (Outcome.cut_short h) = Outcome.cut_short (short-take h)
  outcome-take (Outcome.second_lengths r b) = Outcome.second_lengths (kept r)
      (byte-take n (omega (arith, before-end r)) b)
  outcome-take (Outcome.length_out_of_range l x) = Outcome.length_out_of_range (lengths-take n (omega arith) l) x
  outcome-take (Outcome.too_many_matches r e b) =
      Outcome.too_many_matches (kept r) e (match-byte-take n (omega (arith, before-end r)) b)
  outcome-take (Outcome.empty_match r room d e) = Outcome.empty_match (kept r) room (match-kept r room d) e
  outcome-take (Outcome.beyond_a r room d k a) = Outcome.beyond_a (kept r) room (match-kept r room d) k a
  outcome-take (Outcome.beyond_b r room d k a b) = Outcome.beyond_b (kept r) room (match-kept r room d) k a b
  outcome-take (Outcome.too_many_marks r e b) =
      Outcome.too_many_marks (kept r) e (byte-take n (omega (arith, before-end r)) b)
  outcome-take (Outcome.no_such_side r room d h) = Outcome.no_such_side (kept r) room (mark-kept r room d) h
  outcome-take (Outcome.mark_beyond r room d h) = Outcome.mark_beyond (kept r) room (mark-kept r room d) h
  outcome-take (Outcome.tail r b h) =
      Outcome.tail (kept r) (byte-take n (omega (arith, before-end r)) b) (omega (arith, length-take n s, before-end r))
  outcome-take (Outcome.is_admitted r b e) = absurd (omega (arith, before-end r))

pub prefix-decides : (s : List ℕ) → read_script (take (longest_script + 1) s) ≡ read_script s
prefix-decides s =
    elim (dec_le (length s) (longest_script + 1)) [
      | yes h ↦ rw (take_all (longest_script + 1) s h)
      | no h ↦ answer-inj _ _
          (outcome-alone (outcome-take (longest_script + 1) (lt_of_not-le h) (omega arith) (outcome-stated s)))
    ]
