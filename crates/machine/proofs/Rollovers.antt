-- No accepted device meets a double rollover: a cycle brings a serial counter at most six ticks, by what the timers can overflow and
-- by the modes; and n ticks from count c roll it over at most (c + n) / 16 times, by induction.
use mathlib.Core.Path.{◌≡◌, refl, ap, ◌∙◌}
use mathlib.Core.Bool.{true, false, cond, ◌&&◌, ◌||◌}
use Prim.Native.Nat.{ℕ, zero, suc, ◌+◌, ◌-◌, ◌/◌, ◌%◌, ◌≤◌, zero-le}
use native.Mathlib.Omega.{arith}
use lib.Dec.{eqb, leb}
use borrow.Author.Tests.{eqb-true, eqb-false}
use Rattle.machine.specs.declared.Receiver.{Receiver}
use Rattle.machine.specs.declared.Serial.{Serial}
use Rattle.machine.specs.declared.Device.{Device}
use Rattle.machine.specs.Bits.{bit, set_bit, put_bit}
use Rattle.machine.specs.Registers.{SMOD, SM2, RB8, TI, RI, RCLK, TCLK, T2EX, TL1, TH1, RCAP2L, RCAP2H, TL2, TH2}
use Rattle.machine.specs.Power.{powered_down}
use Rattle.machine.specs.Record.{registers, hidden_fields, accepted, pins_of, serial_mode, last_position}
use Rattle.machine.specs.Timers.{timers_step}
use Rattle.machine.specs.Timer2.{timer2_step}
use Rattle.machine.specs.Serial as S
use Rattle.machine.specs.Serial.{with_send, with_receive, with_received, send_at, receive_at, with_votes, with_value, send_counted, counter_next, rolls_over}
use Rattle.machine.specs.Cycle.{falls, counted, ticks_in, steps, cycle_of}
use Rattle.machine.specs.Calls.{value_in}
use Rattle.machine.specs.Rollovers.{send_rollovers, receive_rollovers, ticks_of_cycle, handed_on, sent_in, rxd_in, received_in, most_ticks, FewTicks, AtMostOneRollover}
use Rattle.machine.proofs.Choices.{chosen, cond_has, cond_ap, by_test}
use Rattle.machine.proofs.Accepted.{Each, Most, byte, hidden_most}
use Rattle.machine.proofs.Accepted.Each.{◌&◌}
use Rattle.machine.proofs.Overflowing.{timer1_once, timer2_few}

-- Step 4

ticks1_few : (smod half overflow1 : ℕ) → overflow1 ≤ 1 → S.ticks1 smod half overflow1 ≤ 1
unfolding S.ticks1
ticks1_few smod half o h =
    chosen (λ (n : ℕ). n ≤ 1) (eqb smod 1) o _ h (chosen (λ (n : ℕ). n ≤ 1) (eqb half 1) o 0 h zero-le)

-- the ticks of a direction
ticks_few : (mode smod clock one two : ℕ) → one ≤ 1 → two ≤ 6 → S.ticks_of mode smod clock one two ≤ most_ticks
unfolding S.ticks_of
ticks_few mode smod clock one two h l =
    chosen (λ (n : ℕ). n ≤ most_ticks) (eqb mode 0) 0 _ zero-le
    (chosen (λ (n : ℕ). n ≤ most_ticks) (eqb mode 2) _ _
    (chosen (λ (n : ℕ). n ≤ most_ticks) (eqb smod 1) _ _ (omega arith) (omega arith))
    (chosen (λ (n : ℕ). n ≤ most_ticks) (eqb clock 1) two one (omega arith) (omega arith)))

-- a cycle of an accepted device, the pin byte as the kind takes it: one overflow of Timer 1 at most, six of Timer 2, six ticks
module _ (d : Device) (a : accepted d ≡ true) (l : ℕ) where
  one : (timers_step d.timers l).overflow1 ≤ 1
  unfolding registers value_in
  one = timer1_once d.timers l (byte d a TL1) (byte d a TH1)

  two : (timer2_step d.timer2 (falls d.levels l T2EX)).overflows ≤ 6
  unfolding registers value_in
  two =
      let tl2 = byte d a TL2 in
      let th2 = byte d a TH2 in
      let rcap2l = byte d a RCAP2L in
      let rcap2h = byte d a RCAP2H in
      timer2_few d.timer2 (omega arith) (falls d.levels l T2EX) (omega arith)

  pub few_ticks : FewTicks (ticks_in d (counted d l))
  unfolding ticks_in counted S.serial_ticks
  few_ticks =
      let m = serial_mode d.serial.scon in
      let smod = bit SMOD d.pcon in
      let by1 = ticks1_few smod d.serial.half _ one in
      record {
        send = ticks_few m smod (bit TCLK d.timer2.t2con) _ _ by1 two;
        receive = ticks_few m smod (bit RCLK d.timer2.t2con) _ _ by1 two;
      }

-- Step 5, sending: n ticks from count c roll the counter over at most (c + n) / 16 times

-- the send counter of s is c
SendsAt : ℕ → Serial → Type 0
SendsAt c s = s.send.counter ≡ c

tick_sends : (s : Serial) → SendsAt (counter_next s.send.counter) (S.send_tick s)
unfolding SendsAt S.send_tick S.send_move
tick_sends s =
    let n = counter_next s.send.counter in
    let u = send_counted s.send in
    let p = s.send.position in
    chosen (SendsAt n) (rolls_over s.send.counter) _ (with_send s.scon u s)
    (chosen (SendsAt n) (eqb p 0) (with_send s.scon u s) _ refl
    (chosen (SendsAt n) (eqb p (last_position s.scon)) (with_send (set_bit TI s.scon) (send_at 0 u) s) (with_send s.scon (send_at (p + 1) u) s) refl refl))
    refl

send_rolls : (n : ℕ) (s : Serial) → s.send.counter ≤ 15 → send_rollovers n s ≤ (s.send.counter + n) / 16
unfolding send_rollovers SendsAt
send_rolls zero s h = zero-le
send_rolls (suc n) s h =
    let c = s.send.counter in
    let e = tick_sends s in
    let i = send_rolls n (S.send_tick s) (omega arith) in
    cond_has (λ (r : ℕ). r + send_rollovers n (S.send_tick s) ≤ (c + suc n) / 16) (rolls_over c) 1 0
    (λ d. omega (arith, eqb-true c 15 d)) (λ d. omega (arith, eqb-false c 15 d))

-- sending leaves the receiver alone

Receives : Receiver → Serial → Type 0
Receives r s = s.receive ≡ r

move_receives : (s : Serial) → Receives s.receive (S.send_move s)
unfolding Receives S.send_move
move_receives s =
    chosen (Receives s.receive) (eqb s.send.position 0) s _ refl
    (chosen (Receives s.receive) (eqb s.send.position (last_position s.scon)) _ _ refl refl)

tick_receives : (s : Serial) → Receives s.receive (S.send_tick s)
unfolding Receives S.send_tick
tick_receives s =
    let t = with_send s.scon (send_counted s.send) s in
    chosen (Receives s.receive) (rolls_over s.send.counter) (S.send_move t) t (move_receives t) refl

ticks_receive : (n : ℕ) (s : Serial) → Receives s.receive (S.send_ticks n s)
unfolding Receives S.send_ticks
ticks_receive zero s = refl
ticks_receive (suc n) s = ticks_receive n (S.send_tick s) ∙ tick_receives s

send_receives : (n : ℕ) (s : Serial) → Receives s.receive (S.send n s)
unfolding S.send
send_receives n s =
    chosen (Receives s.receive) (eqb (serial_mode s.scon) 0) (S.send_move s) (S.send_ticks n s) (move_receives s) (ticks_receive n s)

-- Step 5, receiving: the same, and a start of a frame only takes the counter back

-- a whole frame changes no receive field
pub done_receive : (b : ℕ) (s : Serial) → (S.frame_done b s).receive ≡ s.receive
unfolding S.frame_done
done_receive b s =
    chosen (λ (t : Serial). t.receive ≡ s.receive) (eqb (bit RI s.scon) 0 && (eqb (bit SM2 s.scon) 0 || eqb b 1))
    (with_received (set_bit RI (put_bit RB8 b s.scon)) (s.receive.value % 256) s) s refl refl

-- the receive counter of s is c
ReceivesAt : ℕ → Serial → Type 0
ReceivesAt c s = s.receive.counter ≡ c

bit_receives : (b : ℕ) (s : Serial) → ReceivesAt s.receive.counter (S.receive_bit b s)
unfolding ReceivesAt S.receive_bit
bit_receives b s =
    let r = s.receive in
    let p = r.position in
    let c = r.counter in
    let done = S.frame_done b s in
    chosen (ReceivesAt c) (eqb p 1) _ _
    (chosen (ReceivesAt c) (eqb b 1) (with_receive (receive_at 0 r) s) s refl refl)
    (chosen (ReceivesAt c) (leb p 9) (with_receive (with_value (put_bit (p - 2) b r.value) r) s) _ refl
    (chosen (ReceivesAt c) (eqb p 10) _ (with_receive (receive_at 0 r) s)
    (chosen (ReceivesAt c) (eqb (serial_mode s.scon) 1) (with_receive (receive_at 0 r) done) done refl
    (ap (λ (q : Receiver). q.counter) (done_receive b s)))
    refl))

work_receives : (rxd : ℕ) (s : Serial) → ReceivesAt (counter_next s.receive.counter) (S.receive_work rxd s)
unfolding ReceivesAt S.receive_work S.receive_counted
work_receives rxd s =
    let n = counter_next s.receive.counter in
    let r = S.receive_counted s.scon s.receive in
    let t = with_receive r s in
    chosen (ReceivesAt n) (eqb n 7) (with_receive (with_votes rxd r) s) _ refl
    (chosen (ReceivesAt n) (eqb n 8) (with_receive (with_votes (S.votes_added r.votes rxd) r) s) _ refl
    (chosen (ReceivesAt n) (eqb n 9) (S.receive_bit (S.bit_of r.votes rxd) t) t (bit_receives (S.bit_of r.votes rxd) t) refl))

start_receives : (rxd : ℕ) (s : Serial) → (S.receive_start rxd s).receive.counter ≤ s.receive.counter
unfolding S.receive_start
start_receives rxd s =
    let r = s.receive in
    let started : Receiver = record { position = 1; value = 0; counter = 0; votes = r.votes; sample = r.sample } in
    chosen (λ (t : Serial). t.receive.counter ≤ r.counter) (S.start_found rxd s) (with_receive started s) s
    zero-le (omega arith)

tick_rests : (rxd : ℕ) (s : Serial) → eqb s.receive.position 0 ≡ true → (S.receive_tick rxd s).receive.counter ≤ s.receive.counter
unfolding S.receive_tick
tick_rests rxd s e = simp e (start_receives rxd s)

tick_works : (rxd : ℕ) (s : Serial) → eqb s.receive.position 0 ≡ false → (S.receive_tick rxd s).receive.counter ≡ counter_next s.receive.counter
unfolding S.receive_tick ReceivesAt
tick_works rxd s e = simp e (work_receives rxd s)

receive_rolls : (n rxd : ℕ) (s : Serial) → s.receive.counter ≤ 15 → receive_rollovers n rxd s ≤ (s.receive.counter + n) / 16
unfolding receive_rollovers
receive_rolls zero rxd s h = zero-le
receive_rolls (suc n) rxd s h =
    let c = s.receive.counter in
    let t = S.receive_tick rxd s in
    by_test (eqb s.receive.position 0)
    (λ e.
    let l = tick_rests rxd s e in
    let i = receive_rolls n rxd t (omega arith) in
    simp e (omega arith))
    (λ e.
    let l = tick_works rxd s e in
    let i = receive_rolls n rxd t (omega arith) in
    simp e
    (cond_has (λ (r : ℕ). r + receive_rollovers n rxd t ≤ (c + suc n) / 16) (rolls_over c) 1 0
    (λ d. omega (arith, eqb-true c 15 d)) (λ d. omega (arith, eqb-false c 15 d))))

-- The theorem

-- the counters of an accepted device
record Counters (s : Serial) : Type 0 where
  send : s.send.counter ≤ 15
  receive : s.receive.counter ≤ 15

counters : (d : Device) → Each Most (hidden_fields d) → Counters d.serial
unfolding hidden_fields
counters d (sendPosition & sendValue & send_counter & receivePosition & receiveValue & receiveCounter & others) =
    record { send = send_counter; receive = receiveCounter }

-- step 5 as the cycle has it
in_cycle : (pins : ℕ) (d : Device) → (cycle_of pins d).serial ≡ cond (powered_down d.pcon) d.serial (received_in pins d)
unfolding cycle_of steps S.serial_step
in_cycle pins d = cond_ap (λ (e : Device). e.serial) (powered_down d.pcon) _ _

pub one_rollover : (pins : ℕ) (d : Device) → accepted d ≡ true → AtMostOneRollover pins d
unfolding Receives
one_rollover pins d a =
    let k = ticks_of_cycle pins d in
    let s = handed_on pins d in
    let u = sent_in pins d in
    let few = few_ticks d a (pins_of d.kind pins) in
    let c = counters d (hidden_most d a) in
    let same : u.receive.counter ≡ s.receive.counter = ap (λ (r : Receiver). r.counter) (send_receives k.send s) in
    let i = send_rolls k.send s c.send in
    let j = receive_rolls k.receive (rxd_in pins d) u (omega (arith, c.receive)) in
    record {
      cycle = in_cycle pins d;
      ticks = few;
      send_once = omega (arith, few.send, c.send);
      receive_once = omega (arith, few.receive, c.receive);
    }

-- And the words of the theorem count: with frames under way both ways and both counters at 15, a seventeenth tick is the second
-- rollover of each
late : Serial
late =
    record {
      scon = 0x50;
      send = record { position = 2; value = 0; counter = 15 };
      receive = record { position = 1; value = 0; counter = 15; votes = 0; sample = 0 };
      half = 0;
      received = 0;
    }

seventeen_sends : send_rollovers 17 late ≡ 2
unfolding send_rollovers S.send_tick S.send_move late
seventeen_sends = refl

seventeen_receives : receive_rollovers 17 0 late ≡ 2
unfolding receive_rollovers S.receive_tick S.receive_work S.receive_counted S.receive_rolled S.receive_bit S.votes_added S.bit_of S.frame_done late
seventeen_receives = refl
