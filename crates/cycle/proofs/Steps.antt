-- A cycle put together from its steps: each step's result is its definition's, so the whole is. In power-down it has no steps.
use Rattle.std.proofs.Common.{◌≡◌, ℕ, ◌+◌, ◌%◌, ◌^◌, false, List, sym, ap, ◌∙◌}
use Rattle.machine.specs.declared.Timers.{Timers}
use Rattle.machine.specs.declared.Timer2.{Timer2}
use Rattle.machine.specs.declared.Serial.{Serial}
use Rattle.machine.specs.declared.Counted.{Counted}
use Rattle.machine.specs.declared.Ticks.{Ticks}
use Rattle.machine.specs.declared.FlagTimes.{FlagTimes}
use Rattle.machine.specs.declared.Device.{Device}
use Rattle.machine.specs.Bits.{bit}
use Rattle.machine.specs.Registers.{RXD, ET2}
use Rattle.machine.specs.Power.{powered_down}
use Rattle.machine.specs.Record.{pins_of, levels_of}
use Rattle.machine.specs.Timers.{flagged}
use Rattle.machine.specs.Serial.{serial_step}
use Rattle.machine.specs.Interrupts.{seen_of}
use Rattle.machine.specs.Flags.{flags_of, flags, risen}
use Rattle.machine.specs.Times.{times_after}
use Rattle.machine.specs.Cycle.{counted, ticks_in, timers_after, timer2_after, steps, cycle_of}

-- the device with what the steps of a cycle put into it
abbrev pub with_all : Device → Timers → Timer2 → Serial → ℕ → ℕ → List ℕ → ℕ → FlagTimes → Device
with_all d t u s seen polled now number times =
    record {
      kind = d.kind;
      pcon = d.pcon;
      timers = t;
      timer2 = u;
      serial = s;
      interrupts =
          record {
            ie = d.interrupts.ie;
            ip = d.interrupts.ip;
            seen = seen;
            polled = polled;
            low = d.interrupts.low;
            high = d.interrupts.high;
          };
      levels = now;
      cycle = number;
      times = times;
    }

-- the times of the flags after a cycle that leaves these registers
abbrev pub times_after_lem : Device → ℕ → ℕ → ℕ → ℕ → FlagTimes
times_after_lem d number tcon scon t2con = times_after number (risen (flags d) (flags_of tcon scon t2con)) d.times

module _ (d : Device) (l : ℕ) {rxd polled seen number : ℕ} {c : Counted} {k : Ticks} {s : Serial} {t : Timers} {u : Timer2} {now : List ℕ} {times : FlagTimes} where
  pub steps_are : c ≡ counted d l
      → k ≡ ticks_in d c
      → rxd ≡ bit RXD l
      → s ≡ serial_step k rxd d.serial
      → t ≡ timers_after d.levels l c.timers.timers
      → u ≡ timer2_after d.levels l c.timer2.timer2
      → polled ≡ flagged ET2 c.timer2.tf2 d.interrupts.seen
      → seen ≡ seen_of t.tcon s.scon u.t2con
      → now ≡ levels_of l
      → number ≡ (d.cycle + 1) % 2 ^ 64
      → times ≡ times_after_lem d number t.tcon s.scon u.t2con
      → with_all d t u s seen polled now number times ≡ steps d l
  unfolding steps
  steps_are ec ek er es et eu ep en eo em ef = rw (ef, ep, en, et, eu, es, eo, em, er, ek, ec)

module _ (pins : ℕ) (d : Device) where
  -- out of power-down
  pub cycle_up : powered_down d.pcon ≡ false → cycle_of pins d ≡ steps d (pins_of d.kind pins)
  unfolding cycle_of
  cycle_up f = rw f

  -- with the pin byte as the kind takes it, the cycle is that of the pin byte which is given
  pub cycle_reaches : powered_down d.pcon ≡ false → {l : ℕ} {u : Device} → l ≡ pins_of d.kind pins → u ≡ steps d l
      → u ≡ cycle_of pins d
  cycle_reaches f e g = g ∙ (ap (steps d) e ∙ sym (cycle_up f))
