-- Document 01, "One cycle, in this order": steps 1 to 8. P is the saved level of a pin, L its level now. Document 02, request One: in
-- power-down a cycle alters nothing; request Two: Timer 2's overflow is heard in its own cycle; request Six: a cycle keeps the times of
-- the flags that rise in it.
use Rattle.std.specs.Prelude.{ℕ, zero, suc, ◌+◌, ◌%◌, ◌^◌, cond, ◌&&◌, List, eqb, get_or}
use Rattle.machine.specs.declared.Timers.{Timers}
use Rattle.machine.specs.declared.Timer2.{Timer2}
use Rattle.machine.specs.declared.Counted.{Counted}
use Rattle.machine.specs.declared.Overflows.{Overflows}
use Rattle.machine.specs.declared.Ticks.{Ticks}
use Rattle.machine.specs.declared.Interrupts.{Interrupts}
use Rattle.machine.specs.declared.Device.{Device}
use Rattle.machine.specs.Bits.{bit}
use Rattle.machine.specs.Registers.{RXD, INT0, INT1, T0, T1, T2, T2EX, IT0, IT1, IE0, IE1, ET2}
use Rattle.machine.specs.Power.{powered_down}
use Rattle.machine.specs.Record.{pins_of, levels_of}
use Rattle.machine.specs.Timers.{flagged, timers_step}
use Rattle.machine.specs.Timer2.{timer2_step}
use Rattle.machine.specs.Serial.{serial_ticks, serial_step}
use Rattle.machine.specs.Interrupts.{external, seen_of}
use Rattle.machine.specs.Flags.{flags_of, flags, risen}
use Rattle.machine.specs.Times.{times_after}

-- a pin falls when P = 1 and L = 0: 1 or 0
unfoldable pub falls : List ℕ → ℕ → ℕ → ℕ
falls saved pins pin = cond (eqb (get_or saved pin 0) 1 && eqb (bit pin pins) 0) 1 0

-- step 1: polled takes seen, so that a flag is heard one cycle after it was seen; Timer 2's bit is also 1 where an overflow set
-- TF2 in this cycle, newly or again (tf2 is 1). And step 8: seen takes the flags
abbrev pub polling : ℕ → ℕ → Interrupts → Interrupts
polling tf2 seen i =
    record { ie = i.ie; ip = i.ip; seen = seen; polled = flagged ET2 tf2 i.seen; low = i.low; high = i.high }

-- step 6, on TCON: INT0, then INT1
unfoldable pub externals : List ℕ → ℕ → ℕ → ℕ
externals saved pins tcon =
    external IT1 IE1 (falls saved pins INT1) (bit INT1 pins)
    (external IT0 IE0 (falls saved pins INT0) (bit INT0 pins) tcon)

-- steps 6 and 7 of Timers 0 and 1: due marks become 1 where T0, T1 fell, otherwise 0 (a counter counts in the cycle after a fall)
unfoldable pub timers_after : List ℕ → ℕ → Timers → Timers
timers_after saved pins t =
    record {
      tcon = externals saved pins t.tcon;
      tmod = t.tmod;
      tl0 = t.tl0;
      tl1 = t.tl1;
      th0 = t.th0;
      th1 = t.th1;
      due0 = falls saved pins T0;
      due1 = falls saved pins T1;
    }

-- step 7 of Timer 2
unfoldable pub timer2_after : List ℕ → ℕ → Timer2 → Timer2
timer2_after saved pins t =
    record {
      t2con = t.t2con;
      rcap2l = t.rcap2l;
      rcap2h = t.rcap2h;
      tl2 = t.tl2;
      th2 = t.th2;
      due2 = falls saved pins T2;
    }

-- steps 2 and 3: what the timers count in a cycle, the pin byte as the kind takes it
unfoldable pub counted : Device → ℕ → Counted
counted d pins =
    record { timers = timers_step d.timers pins; timer2 = timer2_step d.timer2 (falls d.levels pins T2EX) }

-- the overflows of a cycle: Timer 0 (TL0 in mode 3), TH0 in mode 3, Timer 1, Timer 2
abbrev pub overflows_of : Counted → Overflows
overflows_of c =
    record {
      timer0 = c.timers.overflow0;
      th0 = c.timers.overflow_th0;
      timer1 = c.timers.overflow1;
      timer2 = c.timer2.overflows;
    }

-- step 4, with what steps 2 and 3 hand on: the overflows of Timers 1 and 2
unfoldable pub ticks_in : Device → Counted → Ticks
ticks_in d c = serial_ticks d.pcon d.timer2.t2con d.serial c.timers.overflow1 c.timer2.overflows

-- steps 1 to 8, the pin byte as the kind takes it: c is steps 2 and 3, s steps 4 and 5, t and u steps 6 and 7; steps 1 and 8 are
-- polling, and step 8 saves the levels and counts the cycle. Then, of a flag that is 0 before the cycle and 1 after it, the number that
-- the count leaves is kept
unfoldable pub steps : Device → ℕ → Device
steps d pins =
    let c = counted d pins in
    let s = serial_step (ticks_in d c) (bit RXD pins) d.serial in
    let t = timers_after d.levels pins c.timers.timers in
    let u = timer2_after d.levels pins c.timer2.timer2 in
    let number = (d.cycle + 1) % 2 ^ 64 in
    record {
      kind = d.kind;
      pcon = d.pcon;
      timers = t;
      timer2 = u;
      serial = s;
      interrupts = polling c.timer2.tf2 (seen_of t.tcon s.scon u.t2con) d.interrupts;
      levels = levels_of pins;
      cycle = number;
      times = times_after number (risen (flags d) (flags_of t.tcon s.scon u.t2con)) d.times;
    }

-- one cycle; in power-down it alters nothing, not even the cycle number
unfoldable pub cycle_of : ℕ → Device → Device
cycle_of pins d = cond (powered_down d.pcon) d (steps d (pins_of d.kind pins))

-- n cycles with one pin byte
unfoldable pub cycles : ℕ → ℕ → Device → Device
cycles zero pins d = d
cycles (suc n) pins d = cycles n pins (cycle_of pins d)
