-- A resting serial port: in mode 0, and without ticks, only half changes; ticks with no start bit waiting move the
-- send counter and sample the line. By induction on the ticks.
use mathlib.Core.Path.{◌≡◌, ap, ◌∙◌}
use mathlib.Core.Bool.{true, false, cond, ◌&&◌, ◌||◌, not}
use Prim.Native.Nat.{ℕ, zero, suc, ◌+◌, ◌%◌, ◌≤◌}
use native.Mathlib.Omega.{arith}
use lib.Dec.{eqb}
use borrow.Author.Tests.{eq-eqb, ne_eqb, eqb-true, eqb-false}
use Rattle.machine.specs.declared.Serial.{Serial}
use Rattle.machine.specs.declared.Ticks.{Ticks}
use Rattle.machine.specs.Record.{serial_mode}
use Rattle.machine.specs.Serial as S
use Rattle.machine.specs.Serial.{with_half, rolls_over, counter_next}
use Rattle.serial.specs.Rest.{idles}
use Rattle.machine.proofs.Choices.{cond_same, and_left, and_right, by_test}
use Rattle.receiver.proofs.Quiet.{sampled, rest_receive_ticks}
use Rattle.serial.proofs.Sending.{send_counter}

-- Sending

rest_move : (s : Serial) → s.send.position ≡ 0 → S.send_move s ≡ s
unfolding S.send_move
rest_move s p = simp (eq-eqb s.send.position 0 p)

rest_send_tick : (s : Serial) → s.send.position ≡ 0 → S.send_tick s ≡ send_counter (counter_next s.send.counter) s
unfolding S.send_tick
rest_send_tick s p =
    let t = send_counter (counter_next s.send.counter) s in
    ap (λ (u : Serial). cond (rolls_over s.send.counter) u t) (rest_move t p) ∙ cond_same (rolls_over s.send.counter) t

pub rest_send_ticks : (n : ℕ) (s : Serial) → s.send.position ≡ 0 → s.send.counter ≤ 15
    → S.send_ticks n s ≡ send_counter ((s.send.counter + n) % 16) s
unfolding S.send_ticks
rest_send_ticks zero s p h =
    let e : s.send.counter ≡ (s.send.counter + 0) % 16 = omega arith in
    ap (λ (c : ℕ). send_counter c s) e
rest_send_ticks (suc n) s p h =
    let t = send_counter (counter_next s.send.counter) s in
    let e : (counter_next s.send.counter + n) % 16 ≡ (s.send.counter + suc n) % 16 = omega arith in
    ap (S.send_ticks n) (rest_send_tick s p) ∙ rest_send_ticks n t p (omega arith) ∙ ap (λ (c : ℕ). send_counter c s) e

-- Step 5

-- in mode 0
pub rest_shift : (k : Ticks) (rxd : ℕ) (s : Serial) → serial_mode s.scon ≡ 0 → s.send.position ≡ 0 → s.receive.position ≡ 0
    → S.serial_step k rxd s ≡ with_half k.half s
unfolding S.serial_step S.send S.send_move S.receive S.receive_shift
rest_shift k rxd s m p q = simp (eq-eqb (serial_mode s.scon) 0 m, eq-eqb s.send.position 0 p, eq-eqb s.receive.position 0 q)

-- in modes 1 to 3 without ticks, whatever is under way
pub rest_no_ticks : (k : Ticks) (rxd : ℕ) (s : Serial) → (serial_mode s.scon ≡ 0 → ⊥) → k.send ≡ 0 → k.receive ≡ 0
    → S.serial_step k rxd s ≡ with_half k.half s
unfolding S.serial_step S.send S.send_ticks S.receive S.receive_ticks
rest_no_ticks k rxd s m p q = simp (ne_eqb (serial_mode s.scon) 0 m, p, q)

-- in modes 1 to 3 with ticks and no start bit waiting
pub rest_ticks : (k : Ticks) (rxd : ℕ) (s : Serial) → (serial_mode s.scon ≡ 0 → ⊥) → s.send.position ≡ 0 → s.receive.position ≡ 0
    → s.send.counter ≤ 15 → S.start_found rxd s ≡ false
    → S.serial_step k rxd s ≡ sampled (cond (eqb k.receive 0) s.receive.sample rxd) (send_counter ((s.send.counter + k.send) % 16) (with_half k.half s))
unfolding S.serial_step S.send S.receive S.start_found
rest_ticks k rxd s m p q h w =
    let t = with_half k.half s in
    let u = send_counter ((s.send.counter + k.send) % 16) t in
    simp (ne_eqb (serial_mode s.scon) 0 m, rest_send_ticks k.send t p h) (rest_receive_ticks k.receive rxd u q w)

-- in any mode, by one test: nothing under way in mode 0, or no tick in the others
pub rest_idles : (k : Ticks) (rxd : ℕ) (s : Serial) → idles k s ≡ true → S.serial_step k rxd s ≡ with_half k.half s
rest_idles k rxd s e =
    let m = serial_mode s.scon in
    let none = eqb k.send 0 && eqb k.receive 0 in
    let rest = eqb s.send.position 0 && eqb s.receive.position 0 in
    let n = and_left none (not (eqb m 0) || rest) e in
    let o = and_right none (not (eqb m 0) || rest) e in
    by_test (eqb m 0)
    (λ z.
    let r : rest ≡ true = simp z at o in
    rest_shift k rxd s (eqb-true m 0 z)
    (eqb-true s.send.position 0 (and_left (eqb s.send.position 0) (eqb s.receive.position 0) r))
    (eqb-true s.receive.position 0 (and_right (eqb s.send.position 0) (eqb s.receive.position 0) r)))
    (λ z. rest_no_ticks k rxd s (eqb-false m 0 z)
    (eqb-true k.send 0 (and_left (eqb k.send 0) (eqb k.receive 0) n))
    (eqb-true k.receive 0 (and_right (eqb k.send 0) (eqb k.receive 0) n)))
