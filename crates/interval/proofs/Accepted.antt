-- Every call of the 82C53 keeps an accepted record accepted: each change of a counter keeps its fields in their ranges.
use mathlib.Core.Path.{◌≡◌, refl, ap, ◌∙◌}
use mathlib.Core.Bool.{Bool, true, false, cond, ◌&&◌, ◌||◌, not}
use Prim.Native.Nat.{ℕ, ◌≤◌, zero-le}
use native.Mathlib.Omega.{arith}
use lib.Dec.{eqb, leb, ltb}
use borrow.Author.Tests.{le-leb, eqb-false, not-false}
use Rattle.machine.specs.Bits.{bit}
use Rattle.machine.specs.Calls.{longest}
use Rattle.machine.proofs.Choices.{chosen, cond_has, and_both, or_left, by_test}
use Rattle.interval.specs.declared.Counter.{Counter}
use Rattle.interval.specs.declared.Interval.{Interval}
use Rattle.interval.specs.Answers.{CounterAnswer, WriteAnswer, ReadAnswer, PulseAnswer}
use Rattle.interval.specs.Count.{most, digits_ok, number_of}
use Rattle.interval.specs.Counter.{BCD, LATCH, LOW, BOTH, choice_in, format_in, is_mode0, is_mode2, fresh, reads, latch_now, control, low_first, begun, whole, bad_count, complete, write_byte, high_next, read_byte}
use Rattle.interval.specs.Interval.{mode_ok, format_ok, fields, counter_ok, accepted, reset_of, counter_at, put_at, gates_ok, pulses_all}
use Rattle.interval.specs.Calls.{answered, control_answer, write_answer, read_answer, pulse_answer, jump_answer}
use Rattle.interval.proofs.Ranges.{Within, within_of, ok0, ok1, ok2, ok_at, accepted_of}
use Rattle.interval.proofs.Decades.{decimal_le}
use Rattle.interval.proofs.Pulses.{pulses_within, pulses_all_each}

-- A counter

module _ (k : Counter) (w : Within k) where
  within_reads : (h l n : ℕ) → h ≤ 1 → l ≤ 1 → n ≤ most k.bcd → Within (reads h l n k)
  unfolding reads
  within_reads h l n p q r =
      record { set = w.set; levels = w.levels; counts = w.counts; begun = w.begun; reads = record { high = p; latched = q; latch = r } }

  within_begun : (byte : ℕ) → byte ≤ 255 → Within (begun byte k)
  unfolding begun
  within_begun byte h =
      record { set = w.set; levels = w.levels; counts = w.counts; begun = record { first = omega arith; low = h }; reads = w.reads }

  within_complete : (n : ℕ) → n ≤ most k.bcd → Within (complete n k)
  unfolding complete
  within_complete n h =
      let c = w.counts in
      let output = chosen (λ (o : ℕ). o ≤ 1) (eqb k.mode 0) _ _ zero-le w.levels.output in
      record {
        set = w.set;
        levels = record { output = output; gate = w.levels.gate };
        counts = record { loaded = c.loaded; waits = omega arith; count = c.count; reload = c.reload; waiting = h };
        begun = record { first = zero-le; low = zero-le };
        reads = w.reads;
      }

  within_latch : Within (latch_now k)
  unfolding latch_now
  within_latch = chosen Within (eqb k.latched 1) _ _ w (within_reads k.high 1 k.count w.reads.high (omega arith) w.counts.count)

  within_fresh : (b : Bool) (bcd format : ℕ) → bcd ≤ 1 → format_ok format ≡ true → Within (fresh (cond b 0 2) bcd format k.gate)
  unfolding fresh
  within_fresh b bcd format h f =
      let output = chosen (λ (o : ℕ). o ≤ 1) (eqb (cond b 0 2) 0) 0 1 zero-le (omega arith) in
      record {
        set = record { mode = chosen (λ (m : ℕ). mode_ok m ≡ true) b 0 2 refl refl; format = f; bcd = h };
        levels = record { output = output; gate = w.levels.gate };
        counts = record { loaded = zero-le; waits = zero-le; count = zero-le; reload = zero-le; waiting = zero-le };
        begun = record { first = zero-le; low = zero-le };
        reads = record { high = zero-le; latched = zero-le; latch = zero-le };
      }

  within_control : (word : ℕ) → Within (control word k).counter
  unfolding control
  within_control word =
      cond_has (λ (r : CounterAnswer). Within r.counter) (eqb (format_in word) LATCH) _ _ (λ t. within_latch)
      (λ t. chosen (λ (r : CounterAnswer). Within r.counter) (is_mode0 word || is_mode2 word) _ _
      (within_fresh (is_mode0 word) (bit BCD word) (format_in word) (omega arith) (format t)) w)
    where
      positive : (n : ℕ) → (n ≡ 0 → ⊥) → 1 ≤ n
      positive n z = omega arith

      format : eqb (format_in word) LATCH ≡ false → format_ok (format_in word) ≡ true
      format t =
          and_both (leb LOW (format_in word)) (leb (format_in word) BOTH)
          (le-leb LOW (format_in word) (positive (format_in word) (eqb-false (format_in word) LATCH t))) (le-leb (format_in word) BOTH (omega arith))

  whole_le : (byte : ℕ) → byte ≤ 255 → whole byte k ≤ 65535
  unfolding whole
  whole_le byte h =
      let low = w.begun.low in
      chosen (λ (n : ℕ). n ≤ 65535) (eqb k.format 1) _ _ (omega arith)
      (chosen (λ (n : ℕ). n ≤ 65535) (eqb k.format 2) _ _ (omega arith) (omega arith))

  number_le : (v : ℕ) → v ≤ 65535 → bad_count v k ≡ false → number_of k.bcd v ≤ most k.bcd
  unfolding number_of most bad_count
  number_le v h e =
      by_test (eqb k.bcd 1)
      (λ t. simp t (decimal_le v (not-false (digits_ok v) (simp t at (or_left (eqb k.bcd 1 && not (digits_ok v)) _ e)))))
      (λ t. simp t h)

  within_write : (byte : ℕ) → byte ≤ 255 → Within (write_byte byte k).counter
  unfolding write_byte
  within_write byte h =
      chosen (λ (r : CounterAnswer). Within r.counter) (low_first k) _ _ (within_begun byte h)
      (cond_has (λ (r : CounterAnswer). Within r.counter) (bad_count (whole byte k) k) _ _ (λ t. w)
      (λ t. within_complete (number_of k.bcd (whole byte k)) (number_le (whole byte k) (whole_le byte h) t)))

  within_read : Within (read_byte k).counter
  unfolding read_byte
  within_read =
      chosen Within (high_next k) _ _
      (within_reads 1 k.latched k.latch (omega arith) w.reads.latched w.reads.latch) (within_reads 0 0 0 zero-le zero-le zero-le)

-- The chip

kept_put : (i : ℕ) (k : Counter) (c : Interval) → accepted c ≡ true → Within k → accepted (put_at i k c) ≡ true
unfolding put_at
kept_put i k c e w =
    accepted_of _ (chosen Within (eqb i 0) _ _ w (within_of c.counter0 (ok0 c e)))
    (chosen Within (eqb i 1) _ _ w (within_of c.counter1 (ok1 c e)))
    (chosen Within (eqb i 2) _ _ w (within_of c.counter2 (ok2 c e)))

Kept : WriteAnswer → Type 0
Kept r = accepted r.interval ≡ true

kept_answered : (i : ℕ) (r : CounterAnswer) (c : Interval) → accepted c ≡ true → Within r.counter → Kept (answered i r c)
unfolding answered Kept
kept_answered i r c e w = chosen Kept (eqb r.code 0) _ _ (kept_put i r.counter c e w) e

pub reset_kept : accepted reset_of ≡ true
unfolding accepted counter_ok fields most reset_of fresh
reset_kept = refl

pub write_kept : (c : Interval) (address byte : ℕ) → byte ≤ 255 → accepted c ≡ true → accepted (write_answer c address byte).interval ≡ true
unfolding write_answer control_answer Kept
write_kept c address byte h e =
    chosen Kept (accepted c) _ _
    (chosen Kept (leb address 3) _ _
    (chosen Kept (eqb address 3) _ _
    (chosen Kept (ltb (choice_in byte) 3) _ _
    (kept_answered (choice_in byte) _ c e (within_control (counter_at (choice_in byte) c) (within_of _ (ok_at (choice_in byte) c e)) byte)) e)
    (kept_answered address _ c e (within_write (counter_at address c) (within_of _ (ok_at address c e)) byte h)))
    e)
    e

pub read_kept : (c : Interval) (address : ℕ) → accepted c ≡ true → accepted (read_answer c address).interval ≡ true
unfolding read_answer
read_kept c address e =
    chosen (λ (r : ReadAnswer). accepted r.interval ≡ true) (accepted c) _ _
    (chosen (λ (r : ReadAnswer). accepted r.interval ≡ true) (ltb address 3) _ _
    (kept_put address _ c e (within_read (counter_at address c) (within_of _ (ok_at address c e)))) e)
    e

pub pulses_kept : (n gates : ℕ) (c : Interval) → accepted c ≡ true → accepted (pulses_all n gates c) ≡ true
pulses_kept n gates c e =
    ap accepted (pulses_all_each n gates c)
    ∙ accepted_of _ (pulses_within n (bit 0 gates) c.counter0 (omega arith) (within_of c.counter0 (ok0 c e)))
    (pulses_within n (bit 1 gates) c.counter1 (omega arith) (within_of c.counter1 (ok1 c e)))
    (pulses_within n (bit 2 gates) c.counter2 (omega arith) (within_of c.counter2 (ok2 c e)))

KeptPulse : PulseAnswer → Type 0
KeptPulse r = accepted r.interval ≡ true

pub pulse_kept : (c : Interval) (gates : ℕ) → accepted c ≡ true → accepted (pulse_answer c gates).interval ≡ true
unfolding pulse_answer pulses_all KeptPulse
pulse_kept c gates e =
    chosen KeptPulse (accepted c) _ _ (chosen KeptPulse (gates_ok gates) _ _ (pulses_kept 1 gates c e) e) e

pub jump_kept : (c : Interval) (gates n : ℕ) → accepted c ≡ true → accepted (jump_answer c gates n).interval ≡ true
unfolding jump_answer KeptPulse
jump_kept c gates n e =
    chosen KeptPulse (accepted c) _ _
    (chosen KeptPulse (gates_ok gates) _ _ (chosen KeptPulse (leb n longest) _ _ (pulses_kept n gates c e) e) e)
    e
