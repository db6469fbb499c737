-- The serial port at rest: a quiet cycle is a stride of 1, strides add up, and a start bit that waits in mode 2 is found;
-- by the laws of its ticks.
use Prim.Native.Nat.{ℕ, suc, ◌+◌, ◌*◌, ◌%◌}
use mathlib.Core.Path.{◌≡◌, refl, sym, ap, ◌∙◌}
use mathlib.Core.Bool.{Bool, true, false, cond, ◌&&◌, not, and-false}
use native.Mathlib.Nat.{zero-mul, one-mul}
use native.Mathlib.Omega.{arith}
use lib.Dec.{eqb}
use borrow.Author.Tests.{eq-eqb, ne_eqb, eqb-true, eqb-false, not-true}
use Rattle.machine.specs.declared.Serial.{Serial}
use Rattle.machine.specs.declared.Ticks.{Ticks}
use Rattle.machine.specs.Bits.{bit}
use Rattle.machine.specs.Registers.{SMOD, REN, RCLK, TCLK}
use Rattle.machine.specs.Record.{serial_mode}
use Rattle.machine.specs.Serial.{half_after, ticks1, mode2_ticks, ticks_of, serial_ticks, with_half, with_receive, send, start_found, receive_start, receive_counted, receive_work, receive_tick, receive_ticks, receive, serial_step}
use Rattle.laws.specs.Ranges.{SerialOk}
use Rattle.machine.proofs.Choices.{chosen, cond_same, by_test, and_left, and_right, and_two, and_both}
use Rattle.receiver.proofs.Quiet as Quiet
use Rattle.serial.proofs.Sending.{send_counter}
use Rattle.serial.proofs.Quiet.{rest_send_ticks, rest_shift, rest_no_ticks, rest_ticks}
use Rattle.strides.specs.Stride.{start_next, serial_settled, ticks2, sampled, stride_serial}
use Rattle.laws.proofs.Flags.{never_both}

-- A stride is another send counter and another last line sample

strides_to : (s : Serial) {a b x y : ℕ} → a ≡ b → x ≡ y → Quiet.sampled x (send_counter a s) ≡ Quiet.sampled y (send_counter b s)
strides_to s p q = λ i. Quiet.sampled (q i) (send_counter (p i) s)

module _ (smod rxd : ℕ) (s : Serial) where
  -- outside mode 2 it leaves the serial port as it is
  pub stride_still : (m : ℕ) → SerialOk s → eqb (serial_mode s.scon) 2 ≡ false → stride_serial m smod rxd s ≡ s
  unfolding stride_serial ticks2 sampled
  stride_still m o e =
      let same : (s.send.counter + 0) % 16 ≡ s.send.counter = omega (arith, o.send.counter) in
      simp e (strides_to s same refl)

  -- no cycle
  pub serial_none : SerialOk s → stride_serial 0 smod rxd s ≡ s
  unfolding stride_serial ticks2 sampled
  serial_none o =
      let same : (s.send.counter + 0) % 16 ≡ s.send.counter = omega (arith, o.send.counter) in
      strides_to s (simp (zero-mul, cond_same) same) (taken (eqb (serial_mode s.scon) 2))
    where
      taken : (two : Bool) → cond (two && false) rxd s.receive.sample ≡ s.receive.sample
      taken true = refl
      taken false = refl

  -- m cycles after one
  pub serial_more : (m : ℕ) → stride_serial m smod rxd (stride_serial 1 smod rxd s) ≡ stride_serial (suc m) smod rxd s
  unfolding stride_serial ticks2 sampled
  serial_more m = strides_to s (counts (eqb (serial_mode s.scon) 2)) (taken (eqb (serial_mode s.scon) 2) (eqb m 0))
    where
      counts : (two : Bool) → ((s.send.counter + cond two (1 * mode2_ticks smod) 0) % 16 + cond two (m * mode2_ticks smod) 0) % 16
          ≡ (s.send.counter + cond two (suc m * mode2_ticks smod) 0) % 16
      counts true = omega arith
      counts false = omega arith

      taken : (two none : Bool) → cond (two && not none) rxd (cond (two && true) rxd s.receive.sample)
          ≡ cond (two && not (eqb (suc m) 0)) rxd s.receive.sample
      taken true none = cond_same (not none) rxd ∙ simp (ne_eqb (suc m) 0 (λ e. omega arith))
      taken false none = refl

  -- both positions go on resting, and no start bit comes to wait
  pub serial_settled_lem : (m : ℕ) → serial_settled rxd s ≡ true → serial_settled rxd (stride_serial m smod rxd s) ≡ true
  unfolding serial_settled start_found stride_serial sampled
  serial_settled_lem m e =
      let rests = eqb s.send.position 0 && eqb s.receive.position 0 in
      let two = eqb (serial_mode s.scon) 2 in
      let ren = eqb (bit REN s.scon) 1 in
      let parts = and_two rests (not (start_next rxd s)) e in
      let starts : (l : ℕ) → Bool = λ l. two && (ren && (eqb l 1 && eqb rxd 0)) in
      and_both rests _ parts.0
      (ap not (chosen (λ (l : ℕ). starts l ≡ false) (two && not (eqb m 0)) rxd s.receive.sample (simp (never_both, and-false)) (not-true (start_next rxd s) parts.1)))

-- The ticks of a cycle that finds a start bit

started : ℕ → Serial → Serial
started rxd s =
    with_receive (record { position = 1; value = 0; counter = 0; votes = s.receive.votes; sample = rxd }) s

start_tick : (rxd : ℕ) (s : Serial) → s.receive.position ≡ 0 → start_found rxd s ≡ true → receive_tick rxd s ≡ started rxd s
unfolding receive_tick receive_start started
start_tick rxd s e h = simp (eq-eqb s.receive.position 0 e, h)

-- the others do not come to the first sample
start_ticks : (b : Bool) (rxd : ℕ) (s : Serial) → s.receive.position ≡ 0 → start_found rxd s ≡ true
    → (receive_ticks (cond b 6 3) rxd s).receive.position ≡ 1
unfolding receive_ticks receive_tick receive_work receive_counted started
start_ticks true rxd s e h = ap (λ (u : Serial). (receive_ticks 5 rxd u).receive.position) (start_tick rxd s e h)
start_ticks false rxd s e h = ap (λ (u : Serial). (receive_ticks 2 rxd u).receive.position) (start_tick rxd s e h)

-- Steps 4 and 5 without an overflow

module _ (pcon t2con : ℕ) (s : Serial) (o : SerialOk s) where
  ticks : Ticks
  ticks = serial_ticks pcon t2con s 0 0

  half_stays : ticks.half ≡ s.half
  unfolding ticks serial_ticks half_after
  half_stays =
      let same : (s.half + 0) % 2 ≡ s.half = omega (arith, o.half) in
      simp (same, cond_same)

  -- the ticks of a direction: those of mode 2, otherwise none
  ticks_two : (clock : ℕ) → serial_mode s.scon ≡ 2
      → ticks_of (serial_mode s.scon) (bit SMOD pcon) (bit clock t2con) (ticks1 (bit SMOD pcon) s.half 0) 0 ≡ mode2_ticks (bit SMOD pcon)
  unfolding ticks_of
  ticks_two clock e = ap (λ (mode : ℕ). ticks_of mode (bit SMOD pcon) (bit clock t2con) (ticks1 (bit SMOD pcon) s.half 0) 0) e

  ticks_none : (clock : ℕ) → eqb (serial_mode s.scon) 2 ≡ false
      → ticks_of (serial_mode s.scon) (bit SMOD pcon) (bit clock t2con) (ticks1 (bit SMOD pcon) s.half 0) 0 ≡ 0
  unfolding ticks_of ticks1
  ticks_none clock e = simp (e, cond_same)

  module _ (rxd : ℕ) (p : s.send.position ≡ 0) (q : s.receive.position ≡ 0) where
    -- mode 2 with no start bit
    quiet_two : serial_mode s.scon ≡ 2 → start_found rxd s ≡ false → serial_step ticks rxd s ≡ stride_serial 1 (bit SMOD pcon) rxd s
    unfolding ticks serial_ticks stride_serial ticks2 sampled
    quiet_two e w =
        rest_ticks ticks rxd s (λ z. omega arith) p q o.send.counter w
        ∙ ((λ i. Quiet.sampled (sampling i) (send_counter (counting i) (with_half (half_stays i) s)))
        ∙ sym (simp (eq-eqb (serial_mode s.scon) 2 e, one-mul)))
      where
        some : (b : Bool) → cond (eqb (cond b 6 3) 0) s.receive.sample rxd ≡ rxd
        some true = refl
        some false = refl

        sampling : cond (eqb ticks.receive 0) s.receive.sample rxd ≡ rxd
        sampling = ap (λ (n : ℕ). cond (eqb n 0) s.receive.sample rxd) (ticks_two RCLK e) ∙ some (eqb (bit SMOD pcon) 1)

        counting : (s.send.counter + ticks.send) % 16 ≡ (s.send.counter + mode2_ticks (bit SMOD pcon)) % 16
        counting = ap (λ (n : ℕ). (s.send.counter + n) % 16) (ticks_two TCLK e)

    -- the other modes
    quiet_others : eqb (serial_mode s.scon) 2 ≡ false → serial_step ticks rxd s ≡ stride_serial 1 (bit SMOD pcon) rxd s
    unfolding ticks serial_ticks
    quiet_others e =
        by_test (eqb (serial_mode s.scon) 0) (λ z. rest_shift ticks rxd s (eqb-true (serial_mode s.scon) 0 z) p q)
        (λ z. rest_no_ticks ticks rxd s (eqb-false (serial_mode s.scon) 0 z) (ticks_none TCLK e) (ticks_none RCLK e))
        ∙ (ap (λ (h : ℕ). with_half h s) half_stays ∙ sym (stride_still (bit SMOD pcon) rxd s 1 o e))

    pub quiet_serial : start_next rxd s ≡ false → serial_step (serial_ticks pcon t2con s 0 0) rxd s ≡ stride_serial 1 (bit SMOD pcon) rxd s
    unfolding ticks
    quiet_serial w =
        by_test (eqb (serial_mode s.scon) 2) (λ e. quiet_two (eqb-true (serial_mode s.scon) 2 e) (simp e at w)) quiet_others

    -- a start bit that waits is found
    pub start_found_lem : start_next rxd s ≡ true → (serial_step (serial_ticks pcon t2con s 0 0) rxd s).receive.position ≡ 1
    unfolding start_found serial_step send receive ticks serial_ticks
    start_found_lem w =
        let two = eqb-true (serial_mode s.scon) 2 (and_left (eqb (serial_mode s.scon) 2) (start_found rxd s) w) in
        let t = with_half ticks.half s in
        let u = send_counter ((s.send.counter + ticks.send) % 16) t in
        simp (ne_eqb (serial_mode s.scon) 0 (λ z. omega arith), rest_send_ticks ticks.send t p o.send.counter)
        (ap (λ (n : ℕ). (receive_ticks n rxd u).receive.position) (ticks_two RCLK two)
        ∙ start_ticks (eqb (bit SMOD pcon) 1) rxd u q (and_right (eqb (serial_mode s.scon) 2) (start_found rxd s) w))
