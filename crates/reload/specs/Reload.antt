-- A settled device in which Timer 1 alone counts, in mode 2, and its overflow raises no flag: all that happens is its
-- reload, which may be a tick of a serial port at rest.
use Rattle.std.specs.Prelude.{◌≡◌, ℕ, zero, suc, ◌+◌, ◌-◌, ◌%◌, ◌^◌, ◌≤◌, Bool, cond, not, ◌&&◌, ◌||◌, List, [], ◌∷◌, ◌==◌}
use Rattle.machine.specs.declared.Timers.{Timers}
use Rattle.machine.specs.declared.Serial.{Serial}
use Rattle.machine.specs.declared.Totals.{Totals}
use Rattle.machine.specs.declared.Device.{Device}
use Rattle.machine.specs.Bits.{bit}
use Rattle.machine.specs.Registers.{RXD, SMOD, TF1, TR2, RCLK, TCLK}
use Rattle.machine.specs.Record.{serial_mode}
use Rattle.machine.specs.Timers.{timer0_mode, timer1_mode, counts0, counts1, counts_high0}
use Rattle.machine.specs.Serial.{half_after, ticks1, start_found, with_sample}
use Rattle.machine.specs.Rounds.{rounds_of}
use Rattle.stretch.specs.Stretch.{lapped}
use Rattle.strides.specs.Stride.{settled_at, with_parts}
use Rattle.reload.specs.declared.Clocking.{Clocking}
use Rattle.reload.specs.declared.lap.Lap.{Lap}

-- Here l is the pin byte as the kind takes it.

-- Timer 1 alone counts, in mode 2; its overflow raises no flag where TF1 is set, or belongs to Timer 0 in mode 3
unfoldable pub timer1_alone : ℕ → Timers → Bool
timer1_alone l t =
    ((counts1 t l && timer1_mode t == 2) && (bit TF1 t.tcon == 1 || timer0_mode t == 3))
    && not (counts0 t l || counts_high0 t)

-- no ticks but those of overflows, and none of them finds a start bit
unfoldable pub line_rests : ℕ → Serial → Bool
line_rests rxd s = not (serial_mode s.scon == 2) && not (start_found rxd s)

-- Timer 1's reload is all that happens, Timer 2 not running
unfoldable pub reload_only : ℕ → Device → Bool
reload_only l d =
    (timer1_alone l d.timers && bit TR2 d.timer2.t2con == 0) && line_rests (bit RXD l) d.serial

-- in a settled device
unfoldable pub idles_at : ℕ → Device → Bool
idles_at l d = reload_only l d && settled_at l d

-- The reload

-- Timer 1's overflows clock a direction: in modes 1 and 3 without its clock bit
unfoldable pub clocks : ℕ → ℕ → Bool
clocks scon clock = not (serial_mode scon == 0) && not (clock == 1)

-- what a reload works on
pub record Idling : Type 0 where
  pub tl1 : ℕ
  pub th1 : ℕ
  pub half : ℕ
  pub counter : ℕ
  pub sample : ℕ

-- what it goes by, and these, in a device
unfoldable pub clocking_of : ℕ → Device → Clocking
clocking_of l d =
    record {
      smod = bit SMOD d.pcon;
      rxd = bit RXD l;
      sends = clocks d.serial.scon (bit TCLK d.timer2.t2con);
      receives = clocks d.serial.scon (bit RCLK d.timer2.t2con);
    }

abbrev pub idling_of : Device → Idling
idling_of d =
    record {
      tl1 = d.timers.tl1;
      th1 = d.timers.th1;
      half = d.serial.half;
      counter = d.serial.send.counter;
      sample = d.serial.receive.sample;
    }

-- the ticks of a direction: those of Timer 1's overflow, where it clocks the direction
abbrev pub ticks_by : Bool → Clocking → Idling → ℕ
ticks_by clocked k x = cond clocked (ticks1 k.smod x.half 1) 0

-- TL1 takes TH1; a tick adds 1 to the send counter and takes RXD into the last line sample
unfoldable pub reloaded : Clocking → Idling → Idling
reloaded k x =
    record {
      tl1 = x.th1;
      th1 = x.th1;
      half = half_after k.smod x.half 1;
      counter = (x.counter + ticks_by k.sends k x) % 16;
      sample = cond (ticks_by k.receives k x == 0) x.sample k.rxd;
    }

-- Timers 0 and 1 with another TL1 and TH1
abbrev pub with_pair1 : ℕ → ℕ → Timers → Timers
with_pair1 tl th t =
    record { tcon = t.tcon; tmod = t.tmod; tl0 = t.tl0; tl1 = tl; th0 = t.th0; th1 = th; due0 = t.due0; due1 = t.due1 }

-- the serial port with these
abbrev pub with_port : Idling → Serial → Serial
with_port x s =
    record {
      scon = s.scon;
      send = record { position = s.send.position; value = s.send.value; counter = x.counter };
      receive = with_sample x.sample s.receive;
      half = x.half;
      received = s.received;
    }

-- the device with another cycle number and with these
unfoldable pub put_idling : ℕ → Idling → Device → Device
put_idling n x d = with_parts n (with_pair1 x.tl1 x.th1 d.timers) d.timer2 (with_port x d.serial) d

-- Cycles in a row

-- m counts of TL1
unfoldable pub raised : ℕ → Idling → Idling
raised m x = record { tl1 = x.tl1 + m; th1 = x.th1; half = x.half; counter = x.counter; sample = x.sample }

-- a cycle is a reload or a count, and n cycles in turn
unfoldable pub idle_cycle : Clocking → Idling → Idling
idle_cycle k x = cond (x.tl1 == 255) (reloaded k x) (raised 1 x)

unfoldable pub idle_cycles : ℕ → Clocking → Idling → Idling
idle_cycles zero k x = x
idle_cycles (suc n) k x = idle_cycles n k (idle_cycle k x)

-- which of them are busy: the reloads
unfoldable pub idle_marks : ℕ → Clocking → Idling → List Bool
idle_marks zero k x = []
idle_marks (suc n) k x = (x.tl1 == 255) ∷ idle_marks n k (idle_cycle k x)

-- the device after n cycles
unfoldable pub idle_at : ℕ → ℕ → Device → Device
idle_at n l d = put_idling ((d.cycle + n) % 2 ^ 64) (idle_cycles n (clocking_of l d) (idling_of d)) d

-- the rounds of them
unfoldable pub idle_rounds : ℕ → ℕ → Device → ℕ
idle_rounds n l d = rounds_of (idle_marks n (clocking_of l d) (idling_of d))

-- and the overflows in them: those of Timer 1's n counts over the stretch, in mode 2
unfoldable pub idle_totals : ℕ → Timers → Totals
idle_totals n t = record { timer0 = 0; timer1 = (lapped n 8 t.th1 t.tl1).overflows; timer2 = 0 }

-- a round has some of the cycles that are left, ends where these end, and is the first of their rounds
pub record Rounded (k : Clocking) (x : Idling) (left used : ℕ) (y : Idling) : Type 0 where
  pub moves : 1 ≤ used
  pub most : used ≤ left
  pub reaches : y ≡ idle_cycles used k x
  pub counts : rounds_of (idle_marks left k x) ≡ suc (rounds_of (idle_marks (left - used) k y))

-- The same as the code has it: of TL1 and of TH1 what is left of 255

abbrev pub unwound : Lap → Idling
unwound x = record { tl1 = 255 - x.room; th1 = 255 - x.full; half = x.half; counter = x.counter; sample = x.sample }
