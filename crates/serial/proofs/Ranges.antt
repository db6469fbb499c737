-- The serial port stays within its ranges and in its mode, part by part, in a cycle and in a write.
use mathlib.Core.Path.{◌≡◌, refl, sym, subst, ◌∙◌}
use mathlib.Core.Bool.{false, cond}
use Prim.Native.Nat.{ℕ, zero, suc, ◌+◌, ◌%◌, ◌≤◌, ◌<◌, zero-le}
use native.Mathlib.Omega.{arith}
use lib.Dec.{eqb}
use borrow.Author.Tests.{eqb-true, eqb-false, eq-eqb, ne_eqb}
use Rattle.machine.specs.declared.Sender.{Sender}
use Rattle.machine.specs.declared.Serial.{Serial}
use Rattle.machine.specs.declared.Ticks.{Ticks}
use Rattle.machine.specs.Bits.{bit, set_bit}
use Rattle.machine.specs.Record.{serial_mode, last_position}
use Rattle.machine.specs.Registers.{SMOD, TB8, TI, SM01}
use Rattle.machine.specs.Serial as S
use Rattle.machine.specs.Serial.{with_send, with_receive, with_half, send_at, receive_at, send_counted, rolls_over}
use Rattle.laws.proofs.Bits.{bit_below, field_set_above, set_lt}
use Rattle.laws.specs.Ranges.{SenderOk, ReceiverOk, SerialOk}
use Rattle.machine.proofs.Choices.{chosen, cond_has}
use Rattle.receiver.proofs.Receiving.{asked}
use Rattle.receiver.proofs.Ranges.{last, last_least, last_most, Kept, receive_at_lem, counted, receive_kept}

-- no position is past the ninth bit's
pub sends_below : (s : Serial) → SerialOk s → s.send.position ≤ 11
sends_below s o = omega (arith, o.send.position, last_most (serial_mode s.scon))

pub ok : (m : ℕ) (s : Serial) → Kept m s → SerialOk s
ok m s k =
    record {
      scon = k.scon;
      send = subst (λ (n : ℕ). SenderOk (last n) s.send) (sym k.mode) k.send;
      receive = subst (λ (n : ℕ). ReceiverOk (last n) s.receive) (sym k.mode) k.receive;
      half = k.half;
      received = k.received;
    }

-- other parts within their ranges

with_send_lem : (m scon : ℕ) (u : Sender) (s : Serial) → Kept m s → scon < 256 → serial_mode scon ≡ m → SenderOk (last m) u → Kept m (with_send scon u s)
with_send_lem m scon u s k h e o = record { scon = h; mode = e; send = o; receive = k.receive; half = k.half; received = k.received }

send_at_lem : (l p : ℕ) (u : Sender) → SenderOk l u → p ≤ l → SenderOk l (send_at p u)
send_at_lem l p u o h = record { position = h; value = o.value; counter = o.counter }

-- Sending

move_kept : (m : ℕ) (s : Serial) → Kept m s → Kept m (S.send_move s)
unfolding S.send_move
move_kept m s k =
    let p = s.send.position in
    let u = s.send in
    chosen (Kept m) (eqb p 0) s _ k
    (cond_has (Kept m) (eqb p (last_position s.scon)) (with_send (set_bit TI s.scon) (send_at 0 u) s) (with_send s.scon (send_at (p + 1) u) s)
    (λ d. with_send_lem m (set_bit TI s.scon) (send_at 0 u) s k (set_lt 8 TI s.scon (omega arith) k.scon) (field_set_above SM01 2 TI s.scon (omega arith) ∙ k.mode)
    (send_at_lem (last m) 0 u k.send zero-le))
    (λ d.
    let n = eqb-false p (last m) (subst (λ (l : ℕ). eqb p (last l) ≡ false) k.mode d) in
    with_send_lem m s.scon (send_at (p + 1) u) s k k.scon k.mode (send_at_lem (last m) (p + 1) u k.send (omega (arith, n, k.send.position)))))

tick_kept : (m : ℕ) (s : Serial) → Kept m s → Kept m (S.send_tick s)
unfolding S.send_tick
tick_kept m s k =
    let t = with_send s.scon (send_counted s.send) s in
    let o : Kept m t = with_send_lem m s.scon (send_counted s.send) s k k.scon k.mode
    (record { position = k.send.position; value = k.send.value; counter = counted s.send.counter }) in
    chosen (Kept m) (rolls_over s.send.counter) (S.send_move t) t (move_kept m t o) o

pub ticks_kept : (m n : ℕ) (s : Serial) → Kept m s → Kept m (S.send_ticks n s)
unfolding S.send_ticks
ticks_kept m zero s k = k
ticks_kept m (suc n) s k = ticks_kept m n (S.send_tick s) (tick_kept m s k)

pub send_kept : (m n : ℕ) (s : Serial) → Kept m s → Kept m (S.send n s)
unfolding S.send
send_kept m n s k =
    chosen (Kept m) (eqb (serial_mode s.scon) 0) (S.send_move s) (S.send_ticks n s) (move_kept m s k) (ticks_kept m n s k)

-- Step 5. Sending keeps the mode, so that one test of it tells how to send and how to receive

pub half_kept : (h : ℕ) (s : Serial) → h ≤ 1 → SerialOk s → Kept (serial_mode s.scon) (with_half h s)
half_kept h s l o = record { scon = o.scon; mode = refl; send = o.send; receive = o.receive; half = l; received = o.received }

module _ (k : Ticks) (rxd : ℕ) (s : Serial) (h : k.half ≤ 1) (o : SerialOk s) where
  pub step_shift : serial_mode s.scon ≡ 0 → S.serial_step k rxd s ≡ S.receive_shift rxd (S.send_move (with_half k.half s))
  unfolding S.serial_step S.send S.receive
  step_shift z =
      let m = serial_mode s.scon in
      let t = with_half k.half s in
      simp (eq-eqb m 0 z, eq-eqb (serial_mode (S.send_move t).scon) 0 ((move_kept m t (half_kept k.half s h o)).mode ∙ z))

  pub step_ticks : (serial_mode s.scon ≡ 0 → ⊥)
      → S.serial_step k rxd s ≡ S.receive_ticks k.receive rxd (S.send_ticks k.send (with_half k.half s))
  unfolding S.serial_step S.send S.receive
  step_ticks z =
      let m = serial_mode s.scon in
      let t = with_half k.half s in
      let u = S.send_ticks k.send t in
      simp (ne_eqb m 0 z, ne_eqb (serial_mode u.scon) 0 (λ e. z (sym (ticks_kept m k.send t (half_kept k.half s h o)).mode ∙ e)))

-- sent by ticks, it is ready to receive by them
pub sent_ok : (n h : ℕ) (s : Serial) → h ≤ 1 → SerialOk s → SerialOk (S.send_ticks n (with_half h s))
sent_ok n h s l o =
    let m = serial_mode s.scon in
    ok m (S.send_ticks n (with_half h s)) (ticks_kept m n (with_half h s) (half_kept h s l o))

pub sent_mode : (n h : ℕ) (s : Serial) → h ≤ 1 → SerialOk s → serial_mode (S.send_ticks n (with_half h s)).scon ≡ serial_mode s.scon
sent_mode n h s l o = (ticks_kept (serial_mode s.scon) n (with_half h s) (half_kept h s l o)).mode

-- it keeps the ranges, and the mode

step_kept : (k : Ticks) (rxd : ℕ) (s : Serial) → k.half ≤ 1 → rxd ≤ 1 → SerialOk s → Kept (serial_mode s.scon) (S.serial_step k rxd s)
unfolding S.serial_step
step_kept k rxd s h l o =
    let m = serial_mode s.scon in
    let t = with_half k.half s in
    receive_kept m k.receive rxd (S.send k.send t) l (send_kept m k.send t (half_kept k.half s h o))

pub step_ok : (k : Ticks) (rxd : ℕ) (s : Serial) → k.half ≤ 1 → rxd ≤ 1 → SerialOk s → SerialOk (S.serial_step k rxd s)
step_ok k rxd s h l o = ok (serial_mode s.scon) (S.serial_step k rxd s) (step_kept k rxd s h l o)

-- Step 4

pub half_within : (pcon t2con : ℕ) (s : Serial) (overflow1 overflows2 : ℕ) → s.half ≤ 1
    → (S.serial_ticks pcon t2con s overflow1 overflows2).half ≤ 1
unfolding S.serial_ticks S.half_after
half_within pcon t2con s one two h =
    chosen (λ (n : ℕ). n ≤ 1) (eqb (bit SMOD pcon) 1) s.half ((s.half + one) % 2) h (omega arith)

-- Writes

pub write_sbuf_ok : (v : ℕ) (s : Serial) → v < 256 → SerialOk s → SerialOk (S.write_sbuf v s)
unfolding S.write_sbuf
write_sbuf_ok v s h o =
    record {
      scon = o.scon;
      send =
          record {
            position = omega (arith, last_least (serial_mode s.scon));
            value = omega (arith, bit_below TB8 s.scon);
            counter = o.send.counter;
          };
      receive = o.receive;
      half = o.half;
      received = o.received;
    }

asked_ok : (s : Serial) → SerialOk s → SerialOk (S.receive_asked s)
unfolding S.receive_asked
asked_ok s o =
    let m = serial_mode s.scon in
    chosen SerialOk (asked s.scon s.receive.position) (with_receive (receive_at 1 s.receive) s) s
    (record {
      scon = o.scon;
      send = o.send;
      receive = receive_at_lem (last m) 1 s.receive o.receive (omega (arith, last_least m));
      half = o.half;
      received = o.received;
    })
    o

pub write_scon_ok : (v : ℕ) (s : Serial) → v < 256 → SerialOk s → SerialOk (S.write_scon v s)
unfolding S.write_scon
write_scon_ok v s h o =
    let same = with_send v s.send s in
    let rested = with_receive (receive_at 0 s.receive) (with_send v (send_at 0 s.send) s) in
    asked_ok (cond (eqb (serial_mode v) (serial_mode s.scon)) same rested)
    (cond_has SerialOk (eqb (serial_mode v) (serial_mode s.scon)) same rested
    (λ e.
    let d = sym (eqb-true (serial_mode v) (serial_mode s.scon) e) in
    record {
      scon = h;
      send = subst (λ (m : ℕ). SenderOk (last m) s.send) d o.send;
      receive = subst (λ (m : ℕ). ReceiverOk (last m) s.receive) d o.receive;
      half = o.half;
      received = o.received;
    })
    (λ e. record {
      scon = h;
      send = record { position = zero-le; value = o.send.value; counter = o.send.counter };
      receive = record { position = zero-le; value = o.receive.value; counter = o.receive.counter; votes = o.receive.votes; sample = o.receive.sample };
      half = o.half;
      received = o.received;
    }))
