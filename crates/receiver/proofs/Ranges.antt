-- Receiving keeps the serial port within its ranges and in its mode, part by part.
use Rattle.std.proofs.Common.{◌≡◌, ℕ, zero, suc, ◌+◌, ◌-◌, ◌%◌, ◌<◌, ◌≤◌, cond, ◌&&◌, ◌||◌, eqb, leb, sym, refl, ◌∙◌, subst, zero-le, arith, eq-eqb, leb-false, leb-true}
use mathlib.Core.Bool.{and-true}
use borrow.Author.Tests.{eqb-false}
use Rattle.machine.specs.declared.Receiver.{Receiver}
use Rattle.machine.specs.declared.Serial.{Serial}
use Rattle.machine.specs.Bits.{set_bit, put_bit}
use Rattle.machine.specs.Record.{serial_mode, last_position}
use Rattle.machine.specs.Registers.{RB8, RI, SM01}
use Rattle.machine.specs.Serial as S
use Rattle.machine.specs.Serial.{with_receive, with_received, receive_at, with_votes, with_value, with_sample, counter_next, rolls_over}
use Rattle.laws.proofs.Bits.{field_set_above, field_put_above, set_lt, put_lt}
use Rattle.laws.specs.Ranges.{SenderOk, ReceiverOk, SerialOk}
use Rattle.machine.proofs.Choices.{chosen, cond_has, by_test, or_left, or_right}
use Rattle.machine.proofs.Rollovers.{done_receive}
use Rattle.receiver.proofs.Receiving.{takes, bit_of_below}

-- the last position of mode m
abbrev pub last : ℕ → ℕ
last m = cond (leb 2 m) 11 10

pub last_least : (m : ℕ) → 10 ≤ last m
last_least m = chosen (λ (l : ℕ). 10 ≤ l) (leb 2 m) 11 10 (omega arith) (omega arith)

pub last_most : (m : ℕ) → last m ≤ 11
last_most m = chosen (λ (l : ℕ). l ≤ 11) (leb 2 m) 11 10 (omega arith) (omega arith)

-- the ranges, and mode m
pub record Kept (m : ℕ) (s : Serial) : Type 0 where
  pub scon : s.scon < 256
  pub mode : serial_mode s.scon ≡ m
  pub send : SenderOk (last m) s.send
  pub receive : ReceiverOk (last m) s.receive
  pub half : s.half ≤ 1
  pub received : s.received < 256

pub kept : (s : Serial) → SerialOk s → Kept (serial_mode s.scon) s
kept s o = record { scon = o.scon; mode = refl; send = o.send; receive = o.receive; half = o.half; received = o.received }

-- other parts within their ranges

with_receive_lem : (m : ℕ) (r : Receiver) (s : Serial) → Kept m s → ReceiverOk (last m) r → Kept m (with_receive r s)
with_receive_lem m r s k o = record { scon = k.scon; mode = k.mode; send = k.send; receive = o; half = k.half; received = k.received }

with_received_lem : (m scon b : ℕ) (s : Serial) → Kept m s → scon < 256 → serial_mode scon ≡ m → b < 256 → Kept m (with_received scon b s)
with_received_lem m scon b s k h e l = record { scon = h; mode = e; send = k.send; receive = k.receive; half = k.half; received = l }

pub receive_at_lem : (l p : ℕ) (r : Receiver) → ReceiverOk l r → p ≤ l → ReceiverOk l (receive_at p r)
receive_at_lem l p r o h = record { position = h; value = o.value; counter = o.counter; votes = o.votes; sample = o.sample }

with_value_lem : (l v : ℕ) (r : Receiver) → ReceiverOk l r → v ≤ 511 → ReceiverOk l (with_value v r)
with_value_lem l v r o h = record { position = o.position; value = h; counter = o.counter; votes = o.votes; sample = o.sample }

with_votes_lem : (l v : ℕ) (r : Receiver) → ReceiverOk l r → v ≤ 2 → ReceiverOk l (with_votes v r)
with_votes_lem l v r o h = record { position = o.position; value = o.value; counter = o.counter; votes = h; sample = o.sample }

with_sample_lem : (l v : ℕ) (r : Receiver) → ReceiverOk l r → v ≤ 1 → ReceiverOk l (with_sample v r)
with_sample_lem l v r o h = record { position = o.position; value = o.value; counter = o.counter; votes = o.votes; sample = h }

-- a bit of the value, and the low bits of SCON

value_put : (place b v : ℕ) → place < 9 → b ≤ 1 → v ≤ 511 → put_bit place b v ≤ 511
value_put place b v h l o = let p : put_bit place b v < 512 = put_lt 9 place b v h (omega arith) (omega arith) in omega arith

pub counted : (n : ℕ) → counter_next n ≤ 15
counted n = omega arith

-- Receiving

start_kept : (m rxd : ℕ) (s : Serial) → Kept m s → Kept m (S.receive_start rxd s)
unfolding S.receive_start
start_kept m rxd s k =
    let r = s.receive in
    let started : Receiver = record { position = 1; value = 0; counter = 0; votes = r.votes; sample = r.sample } in
    chosen (Kept m) (S.start_found rxd s) (with_receive started s) s
    (with_receive_lem m started s k
    (record { position = omega (arith, last_least m); value = zero-le; counter = zero-le; votes = k.receive.votes; sample = k.receive.sample }))
    k

-- a rollover in modes 1 to 3 passes no last position
rolled_within : (scon p : ℕ) → (serial_mode scon ≡ 0 → ⊥) → p ≤ last_position scon → S.receive_rolled scon p ≤ last_position scon
unfolding S.receive_rolled
rolled_within scon p z h =
    let m = serial_mode scon in
    let rests = eqb p 10 && eqb m 1 in
    cond_has (λ (q : ℕ). q ≤ last m) (rests || eqb p 11) 0 (p + 1) (λ e. zero-le)
    (λ e. by_test (leb 2 m)
    (λ d.
    let l : p ≤ 11 = simp d at h in
    simp d (omega (arith, eqb-false p 11 (or_right rests (eqb p 11) e))))
    (λ d.
    let l : p ≤ 10 = simp d at h in
    let one = eq-eqb m 1 (omega (arith, leb-false 2 m d)) in
    simp d (omega (arith, eqb-false p 10 (simp (one, and-true) at (or_left rests (eqb p 11) e))))))

counted_kept : (m scon : ℕ) (r : Receiver) → serial_mode scon ≡ m → (m ≡ 0 → ⊥) → ReceiverOk (last m) r → ReceiverOk (last m) (S.receive_counted scon r)
unfolding S.receive_counted
counted_kept m scon r e z o =
    record {
      position = chosen (λ (p : ℕ). p ≤ last m) (rolls_over r.counter) (S.receive_rolled scon r.position) r.position
          (subst (λ (n : ℕ). S.receive_rolled scon r.position ≤ last n) e
          (rolled_within scon r.position (λ q. z (sym e ∙ q)) (subst (λ (n : ℕ). r.position ≤ last n) (sym e) o.position)))
          o.position;
      value = o.value;
      counter = counted r.counter;
      votes = o.votes;
      sample = o.sample;
    }

votes_within : (votes rxd : ℕ) → S.votes_added votes rxd ≤ 2
unfolding S.votes_added
votes_within votes rxd =
    cond_has (λ (v : ℕ). v ≤ 2) (leb 2 (votes + rxd)) 2 (votes + rxd) (λ e. omega arith) (λ e. omega (arith, leb-false 2 (votes + rxd) e))

done_kept : (m b : ℕ) (s : Serial) → b ≤ 1 → Kept m s → Kept m (S.frame_done b s)
unfolding S.frame_done
done_kept m b s l k =
    let put = put_bit RB8 b s.scon in
    chosen (Kept m) (takes b s) (with_received (set_bit RI put) (s.receive.value % 256) s) s
    (with_received_lem m (set_bit RI put) (s.receive.value % 256) s k
    (set_lt 8 RI put (omega arith) (put_lt 8 RB8 b s.scon (omega arith) (omega arith) k.scon))
    (field_set_above SM01 2 RI put (omega arith) ∙ field_put_above SM01 2 RB8 b s.scon (omega arith) (omega arith) ∙ k.mode)
    (omega arith))
    k

-- the receive position at rest
rests_kept : (m : ℕ) (s : Serial) → Kept m s → Kept m (with_receive (receive_at 0 s.receive) s)
rests_kept m s k = with_receive_lem m (receive_at 0 s.receive) s k (receive_at_lem (last m) 0 s.receive k.receive zero-le)

bit_kept : (m b : ℕ) (s : Serial) → b ≤ 1 → Kept m s → Kept m (S.receive_bit b s)
unfolding S.receive_bit
bit_kept m b s l k =
    let r = s.receive in
    let p = r.position in
    let done = S.frame_done b s in
    let o = done_kept m b s l k in
    let v = put_bit (p - 2) b r.value in
    chosen (Kept m) (eqb p 1) _ _
    (chosen (Kept m) (eqb b 1) (with_receive (receive_at 0 r) s) s (rests_kept m s k) k)
    (cond_has (Kept m) (leb p 9) (with_receive (with_value v r) s) _
    (λ d. with_receive_lem m (with_value v r) s k (with_value_lem (last m) v r k.receive
    (value_put (p - 2) b r.value (omega (arith, leb-true p 9 d)) l k.receive.value)))
    (λ d. chosen (Kept m) (eqb p 10) _ (with_receive (receive_at 0 r) s)
    (chosen (Kept m) (eqb (serial_mode s.scon) 1) (with_receive (receive_at 0 r) done) done
    (subst (λ (q : Receiver). Kept m (with_receive (receive_at 0 q) done)) (done_receive b s) (rests_kept m done o)) o)
    (rests_kept m s k)))

work_kept : (m rxd : ℕ) (s : Serial) → (m ≡ 0 → ⊥) → rxd ≤ 1 → Kept m s → Kept m (S.receive_work rxd s)
unfolding S.receive_work
work_kept m rxd s z l k =
    let r = S.receive_counted s.scon s.receive in
    let o : ReceiverOk (last m) r = counted_kept m s.scon s.receive k.mode z k.receive in
    let t = with_receive r s in
    let n = r.counter in
    let kt = with_receive_lem m r s k o in
    let added = S.votes_added r.votes rxd in
    chosen (Kept m) (eqb n 7) (with_receive (with_votes rxd r) s) _
    (with_receive_lem m (with_votes rxd r) s k (with_votes_lem (last m) rxd r o (omega arith)))
    (chosen (Kept m) (eqb n 8) (with_receive (with_votes added r) s) _
    (with_receive_lem m (with_votes added r) s k (with_votes_lem (last m) added r o (votes_within r.votes rxd)))
    (chosen (Kept m) (eqb n 9) (S.receive_bit (S.bit_of r.votes rxd) t) t
    (bit_kept m (S.bit_of r.votes rxd) t (bit_of_below r.votes rxd) kt) kt))

pub receive_tick_kept : (m rxd : ℕ) (s : Serial) → (m ≡ 0 → ⊥) → rxd ≤ 1 → Kept m s → Kept m (S.receive_tick rxd s)
unfolding S.receive_tick
receive_tick_kept m rxd s z l k =
    let t = cond (eqb s.receive.position 0) (S.receive_start rxd s) (S.receive_work rxd s) in
    let o = chosen (Kept m) (eqb s.receive.position 0) (S.receive_start rxd s) (S.receive_work rxd s)
    (start_kept m rxd s k) (work_kept m rxd s z l k) in
    with_receive_lem m (with_sample rxd t.receive) t o (with_sample_lem (last m) rxd t.receive o.receive l)

receive_ticks_kept : (m n rxd : ℕ) (s : Serial) → (m ≡ 0 → ⊥) → rxd ≤ 1 → Kept m s → Kept m (S.receive_ticks n rxd s)
unfolding S.receive_ticks
receive_ticks_kept m zero rxd s z l k = k
receive_ticks_kept m (suc n) rxd s z l k = receive_ticks_kept m n rxd (S.receive_tick rxd s) z l (receive_tick_kept m rxd s z l k)

shift_kept : (m rxd : ℕ) (s : Serial) → rxd ≤ 1 → Kept m s → Kept m (S.receive_shift rxd s)
unfolding S.receive_shift
shift_kept m rxd s l k =
    let r = s.receive in
    let p = r.position in
    let v = put_bit (p - 2) rxd r.value in
    let taken = with_received (set_bit RI s.scon) (r.value % 256) s in
    chosen (Kept m) (eqb p 0) s _ k
    (chosen (Kept m) (eqb p 1) (with_receive (receive_at 2 r) s) _
    (with_receive_lem m (receive_at 2 r) s k (receive_at_lem (last m) 2 r k.receive (omega (arith, last_least m))))
    (cond_has (Kept m) (leb p 9) (with_receive (receive_at (p + 1) (with_value v r)) s) (with_receive (receive_at 0 r) taken)
    (λ f.
    let h = leb-true p 9 f in
    with_receive_lem m (receive_at (p + 1) (with_value v r)) s k
    (receive_at_lem (last m) (p + 1) (with_value v r)
    (with_value_lem (last m) v r k.receive (value_put (p - 2) rxd r.value (omega arith) l k.receive.value))
    (omega (arith, last_least m))))
    (λ f. rests_kept m taken (with_received_lem m (set_bit RI s.scon) (r.value % 256) s k (set_lt 8 RI s.scon (omega arith) k.scon)
    (field_set_above SM01 2 RI s.scon (omega arith) ∙ k.mode) (omega arith)))))

pub receive_kept : (m n rxd : ℕ) (s : Serial) → rxd ≤ 1 → Kept m s → Kept m (S.receive n rxd s)
unfolding S.receive
receive_kept m n rxd s l k =
    cond_has (Kept m) (eqb (serial_mode s.scon) 0) (S.receive_shift rxd s) (S.receive_ticks n rxd s) (λ e. shift_kept m rxd s l k)
    (λ e. receive_ticks_kept m n rxd s (λ q. eqb-false (serial_mode s.scon) 0 e (k.mode ∙ q)) l k)
