-- A cycle of a device that idles is a count of TL1 or the reload, which may be a tick of the serial port: steps 2 to 5,
-- and then all of it.
use Rattle.std.proofs.Common.{◌≡◌, ℕ, ◌+◌, ◌/◌, ◌%◌, ◌^◌, ◌<◌, Bool, true, false, cond, not, ◌||◌, eqb, refl, ◌∙◌, arith, eqb-true}
use borrow.Author.Tests.{eqb-false}
use Rattle.machine.specs.declared.Timers.{Timers}
use Rattle.machine.specs.declared.Timer2.{Timer2}
use Rattle.machine.specs.declared.Counted.{Counted}
use Rattle.machine.specs.declared.Serial.{Serial}
use Rattle.machine.specs.declared.Ticks.{Ticks}
use Rattle.machine.specs.declared.Device.{Device}
use Rattle.machine.specs.Bits.{bit}
use Rattle.machine.specs.Registers.{RXD, T2EX, SMOD, TF1, TR2, RCLK, TCLK}
use Rattle.machine.specs.Record.{serial_mode}
use Rattle.machine.specs.Counting.{reload8, hold}
use Rattle.machine.specs.Timers.{timer0_mode, count_in, flagged, pair0, high0, high_overflow0, pair1, timer_flags, timers_step}
use Rattle.machine.specs.Timer2.{timer2_step}
use Rattle.machine.specs.Serial.{ticks1, ticks_of, serial_ticks, with_half, serial_step}
use Rattle.machine.specs.Cycle.{falls, counted, ticks_in, steps}
use Rattle.laws.specs.Ranges.{SerialOk, Ranges}
use Rattle.laws.proofs.Bits.{set_same}
use Rattle.machine.proofs.Choices.{clash, by_test}
use Rattle.receiver.proofs.Quiet.{sampled}
use Rattle.serial.proofs.Sending.{send_counter}
use Rattle.serial.proofs.Quiet.{rest_shift, rest_ticks}
use Rattle.strides.proofs.Timers.{no_flags}
use Rattle.strides.proofs.Serial.{quiet_serial, stride_still}
use Rattle.strides.proofs.Steps.{steps_rest}
use Rattle.reload.specs.Reload.{Idling, clocks, clocking_of, idling_of, reloaded, with_pair1, with_port, put_idling, raised, idle_cycle}
use Rattle.reload.proofs.Alone.{Alone, Idle}

-- Step 2

-- TF1 is set already, or Timer 0 in mode 3 has it
no_flag : (t : Timers) → (eqb (bit TF1 t.tcon) 1 || eqb (timer0_mode t) 3) ≡ true → timer_flags t 0 0 1 ≡ t.tcon
unfolding timer_flags flagged
no_flag t = go (eqb (bit TF1 t.tcon) 1) (eqb (timer0_mode t) 3) refl
  where
    go : (set three : Bool) → eqb (bit TF1 t.tcon) 1 ≡ set → (set || three) ≡ true
        → flagged TF1 (cond three 0 1) t.tcon ≡ t.tcon
    go set true p e = refl
    go true false p e = set_same TF1 t.tcon (eqb-true (bit TF1 t.tcon) 1 p)
    go false false p e = absurd (clash e refl)

module _ (l : ℕ) (t : Timers) (f : Alone l t) where
  -- from Timer 1's count
  alone_step : (n o : ℕ) → reload8 t.tl1 t.th1 ≡ record { tl = n; th = t.th1; overflow = o } → timer_flags t 0 0 o ≡ t.tcon
      → timers_step t l ≡ record { timers = with_pair1 n t.th1 t; overflow0 = 0; overflow_th0 = 0; overflow1 = o }
  unfolding timers_step pair0 pair1 count_in high0 high_overflow0 hold
  alone_step n o e q = simp (f.low, f.high, f.counts, f.reloads, e, q)

  step_over : t.tl1 ≡ 255
      → timers_step t l ≡ record { timers = with_pair1 t.th1 t.th1 t; overflow0 = 0; overflow_th0 = 0; overflow1 = 1 }
  unfolding reload8
  step_over e = alone_step t.th1 1 (simp e) (no_flag t f.flag)

  step_up : t.tl1 < 255
      → timers_step t l ≡ record { timers = with_pair1 (t.tl1 + 1) t.th1 t; overflow0 = 0; overflow_th0 = 0; overflow1 = 0 }
  unfolding reload8
  step_up h =
      let o : (t.tl1 + 1) / 256 ≡ 0 = omega arith in
      let n : (t.tl1 + 1) % 256 ≡ t.tl1 + 1 = omega arith in
      alone_step (t.tl1 + 1) 0 (simp (o, n)) (no_flags t)

-- Step 3

pub stopped : (t : Timer2) (fell : ℕ) → bit TR2 t.t2con ≡ 0 → timer2_step t fell ≡ record { timer2 = t; overflows = 0; tf2 = 0 }
unfolding timer2_step
stopped t fell e = simp e

-- Steps 4 and 5

-- the ticks of a direction
ticks_by : (mode smod clock by1 : ℕ) → eqb mode 0 ≡ false → eqb mode 2 ≡ false → ticks_of mode smod clock by1 0 ≡ cond (not (eqb clock 1)) by1 0
unfolding ticks_of
ticks_by mode smod clock by1 z e = simp (z, e) (go (eqb clock 1))
  where
    go : (b : Bool) → cond b 0 by1 ≡ cond (not b) by1 0
    go true = refl
    go false = refl

module _ (l : ℕ) (d : Device) (o : SerialOk d.serial) (f : Idle l d) where
  port_over : serial_step (serial_ticks d.pcon d.timer2.t2con d.serial 1 0) (bit RXD l) d.serial
      ≡ with_port (reloaded (clocking_of l d) (idling_of d)) d.serial
  unfolding serial_ticks reloaded clocking_of clocks
  port_over = by_test (eqb mode 0) shifts moves
    where
      s : Serial
      s = d.serial

      mode : ℕ
      mode = serial_mode s.scon

      smod : ℕ
      smod = bit SMOD d.pcon

      t2con : ℕ
      t2con = d.timer2.t2con

      k : Ticks
      k = serial_ticks d.pcon t2con s 1 0

      same : (s.send.counter + 0) % 16 ≡ s.send.counter
      same = omega (arith, o.send.counter)

      shifts : eqb mode 0 ≡ true → serial_step k (bit RXD l) s ≡ with_port (reloaded (clocking_of l d) (idling_of d)) s
      shifts z = rest_shift k (bit RXD l) s (eqb-true mode 0 z) f.rest.sends f.rest.receives ∙ simp (z, same)

      by : (clock : ℕ) → eqb mode 0 ≡ false → ticks_of mode smod (bit clock t2con) (ticks1 smod s.half 1) 0 ≡ cond (not (eqb (bit clock t2con) 1)) (ticks1 smod s.half 1) 0
      by clock z = ticks_by mode smod (bit clock t2con) (ticks1 smod s.half 1) z f.two

      moves : eqb mode 0 ≡ false → serial_step k (bit RXD l) s ≡ with_port (reloaded (clocking_of l d) (idling_of d)) s
      moves z =
          rest_ticks k (bit RXD l) s (eqb-false mode 0 z) f.rest.sends f.rest.receives o.send.counter f.starts
          ∙ ((λ i. sampled (cond (eqb (by RCLK z i) 0) s.receive.sample (bit RXD l)) (send_counter ((s.send.counter + by TCLK z i) % 16) (with_half k.half s)))
          ∙ simp z)

  port_still : serial_step (serial_ticks d.pcon d.timer2.t2con d.serial 0 0) (bit RXD l) d.serial ≡ d.serial
  port_still =
      let s = d.serial in
      quiet_serial d.pcon d.timer2.t2con s o (bit RXD l) f.rest.sends f.rest.receives f.rest.starts
      ∙ stride_still (bit SMOD d.pcon) (bit RXD l) s 1 o f.two

-- Steps 1 to 8

module _ (l : ℕ) (d : Device) (f : Idle l d) (x : Idling) (o : ℕ)
    (step2 : timers_step d.timers l ≡ record { timers = with_pair1 x.tl1 x.th1 d.timers; overflow0 = 0; overflow_th0 = 0; overflow1 = o })
    (step5 : serial_step (serial_ticks d.pcon d.timer2.t2con d.serial o 0) (bit RXD l) d.serial ≡ with_port x d.serial) where
  steps23 : Counted
  steps23 =
      record {
        timers = record { timers = with_pair1 x.tl1 x.th1 d.timers; overflow0 = 0; overflow_th0 = 0; overflow1 = o };
        timer2 = record { timer2 = d.timer2; overflows = 0; tf2 = 0 };
      }

  counted_idle : counted d l ≡ steps23
  unfolding counted steps23
  counted_idle = λ i. record { timers = step2 i; timer2 = stopped d.timer2 (falls d.levels l T2EX) f.stops i }

  idle_steps : steps d l ≡ put_idling ((d.cycle + 1) % 2 ^ 64) x d
  unfolding put_idling ticks_in steps23
  idle_steps =
      steps_rest l d f.rest steps23 _ counted_idle step5
      (record { tcon = refl; due0 = refl; due1 = refl; t2con = refl; due2 = refl; scon = refl; tf2 = refl })

pub steps_idle : (l : ℕ) (d : Device) → Ranges d → Idle l d
    → steps d l ≡ put_idling ((d.cycle + 1) % 2 ^ 64) (idle_cycle (clocking_of l d) (idling_of d)) d
unfolding idle_cycle reloaded clocking_of raised
steps_idle l d r f = by_test (eqb d.timers.tl1 255) over up
  where
    over : eqb d.timers.tl1 255 ≡ true
        → steps d l ≡ put_idling ((d.cycle + 1) % 2 ^ 64) (idle_cycle (clocking_of l d) (idling_of d)) d
    over z =
        simp z
        (idle_steps l d f (reloaded (clocking_of l d) (idling_of d)) 1 (step_over l d.timers f.alone (eqb-true d.timers.tl1 255 z)) (port_over l d r.serial f))

    up : eqb d.timers.tl1 255 ≡ false
        → steps d l ≡ put_idling ((d.cycle + 1) % 2 ^ 64) (idle_cycle (clocking_of l d) (idling_of d)) d
    up z =
        simp z
        (idle_steps l d f (raised 1 (idling_of d)) 0
        (step_up l d.timers f.alone (omega (arith, r.timers.tl1, eqb-false d.timers.tl1 255 z))) (port_still l d r.serial f))
