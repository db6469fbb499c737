-- The quiet run of cycles from a device on, with one pin byte: how long it is, and the device after m of its cycles.
use Rattle.std.specs.Prelude.{ℕ, ◌+◌, ◌-◌, ◌*◌, ◌/◌, ◌%◌, ◌^◌, min, Bool, cond, ◌&&◌, ◌||◌, not, eqb}
use Rattle.machine.specs.declared.Timers.{Timers}
use Rattle.machine.specs.declared.Timer2.{Timer2}
use Rattle.machine.specs.declared.Serial.{Serial}
use Rattle.machine.specs.declared.Interrupts.{Interrupts}
use Rattle.machine.specs.declared.Device.{Device}
use Rattle.machine.specs.declared.Count.{Count}
use Rattle.machine.specs.Bits.{bit}
use Rattle.machine.specs.Registers.{RXD, INT0, INT1, IT0, IT1, IE0, IE1, SMOD, TR2, C/T2}
use Rattle.machine.specs.Power.{powered_down}
use Rattle.machine.specs.Record.{serial_mode, pins_of, levels_of}
use Rattle.machine.specs.Counting.{pair13, pair16, hold}
use Rattle.machine.specs.Timers.{timer0_mode, timer1_mode, counts0, counts1, counts_high0}
use Rattle.machine.specs.Timer2.{count2, with_count2, baud_rate}
use Rattle.machine.specs.Serial.{start_found, mode2_ticks, with_sample}
use Rattle.machine.specs.Interrupts.{seen_of}
use Rattle.machine.specs.Calls.{longest}
use Rattle.machine.specs.Same.{same}

-- Here l is the pin byte as the kind takes it.

-- A device is settled if it is out of power-down and a cycle without overflows finds nothing to do

-- IEi of a level-triggered input is 1 - L: the two differ
abbrev pub level_settled : ℕ → ℕ → ℕ → ℕ → Bool
level_settled it ie level tcon = eqb (bit it tcon) 1 || not (eqb (bit ie tcon) level)

-- Timers 0 and 1, and step 6
unfoldable pub timers_settled : ℕ → Timers → Bool
timers_settled l t =
    (eqb t.due0 0 && eqb t.due1 0)
    && (level_settled IT0 IE0 (bit INT0 l) t.tcon && level_settled IT1 IE1 (bit INT1 l) t.tcon)

-- a start bit that the next cycle finds: serial mode 2 ticks in every cycle
abbrev pub start_next : ℕ → Serial → Bool
start_next rxd s = eqb (serial_mode s.scon) 2 && start_found rxd s

-- both positions rest, and the next cycle finds no start bit
unfoldable pub serial_settled : ℕ → Serial → Bool
serial_settled rxd s = (eqb s.send.position 0 && eqb s.receive.position 0) && not (start_next rxd s)

-- seen and polled are the flags
abbrev pub interrupts_settled : ℕ → Interrupts → Bool
interrupts_settled now i = eqb i.seen now && eqb i.polled now

-- the rest of the device: it is out of power-down, and the saved levels are the pins' too
unfoldable pub others_settled : ℕ → Device → Bool
others_settled l d =
    not (powered_down d.pcon)
    && ((same d.levels (levels_of l) && timers_settled l d.timers)
    && (eqb d.timer2.due2 0
    && interrupts_settled (seen_of d.timers.tcon d.serial.scon d.timer2.t2con) d.interrupts))

-- the device
unfoldable pub settled_at : ℕ → Device → Bool
settled_at l d = serial_settled (bit RXD l) d.serial && others_settled l d

-- The room of a unit that counts: its cycles before the one in which it overflows; where it does not count, any jump's

abbrev pub room_of : Bool → ℕ → ℕ
room_of counts left = cond counts left longest

-- the counts of w bits before the one that overflows
abbrev pub left : ℕ → ℕ → ℕ
left w n = 2 ^ w - 1 - n

-- of a timer's pair, in its mode: 13 bits, 16 bits, or TL's 8
unfoldable pub left_in : ℕ → ℕ → ℕ → ℕ
left_in mode tl th = cond (eqb mode 0) (left 13 (pair13 tl th)) (cond (eqb mode 1) (left 16 (pair16 tl th)) (left 8 tl))

-- Timer 1 in mode 3 holds
unfoldable pub moves1 : Timers → ℕ → Bool
moves1 t l = counts1 t l && not (eqb (timer1_mode t) 3)

-- Timer 0, TH0 in mode 3, Timer 1
unfoldable pub room_timers : ℕ → Timers → ℕ
room_timers l t =
    min (room_of (counts0 t l) (left_in (timer0_mode t) t.tl0 t.th0))
    (min (room_of (counts_high0 t) (left 8 t.th0)) (room_of (moves1 t l) (left_in (timer1_mode t) t.tl1 t.th1)))

-- Timer 2 as a timer
unfoldable pub moves2 : Timer2 → Bool
moves2 t = eqb (bit TR2 t.t2con) 1 && eqb (bit C/T2 t.t2con) 0

-- it counts six times a cycle with RCLK or TCLK set
unfoldable pub left2 : Timer2 → ℕ
left2 t = cond (baud_rate t) (left 16 (count2 t) / 6) (left 16 (count2 t))

-- Timer 2
abbrev pub room2 : Timer2 → ℕ
room2 t = room_of (moves2 t) (left2 t)

-- the least of them; none in a device that is not settled
unfoldable pub awake_room : ℕ → Device → ℕ
awake_room l d = cond (settled_at l d) (min (room_timers l d.timers) (room2 d.timer2)) 0

-- in power-down nothing happens in any jump
unfoldable pub room_at : ℕ → Device → ℕ
room_at l d = cond (powered_down d.pcon) longest (awake_room l d)

-- the cycles of a round with so much room, of those that are left: one where the next is busy, otherwise the quiet run or
-- what is left
abbrev pub used_of : ℕ → ℕ → ℕ
used_of room left = cond (eqb room 0) 1 (min room left)

-- The stride: m quiet cycles at once

-- m counts without an overflow, of 13 bits, of 16 bits, and of TL's 8
abbrev pub by13 : ℕ → ℕ → ℕ → Count
by13 m tl th = record { tl = tl / 32 * 32 + (pair13 tl th + m) % 32; th = (pair13 tl th + m) / 32; overflow = 0 }

abbrev pub by16 : ℕ → ℕ → ℕ → Count
by16 m tl th = record { tl = (pair16 tl th + m) % 256; th = (pair16 tl th + m) / 256; overflow = 0 }

abbrev pub by8 : ℕ → ℕ → ℕ → Count
by8 m tl th = record { tl = tl + m; th = th; overflow = 0 }

-- in a timer's mode
unfoldable pub moved_in : ℕ → ℕ → ℕ → ℕ → Count
moved_in m mode tl th = cond (eqb mode 0) (by13 m tl th) (cond (eqb mode 1) (by16 m tl th) (by8 m tl th))

-- of a timer that counts, or not
unfoldable pub moved : ℕ → Bool → ℕ → ℕ → ℕ → Count
moved m counts mode tl th = cond counts (moved_in m mode tl th) (hold tl th)

-- Timers 0 and 1; in mode 3 TH0 counts apart
unfoldable pub stride_timers : ℕ → ℕ → Timers → Timers
stride_timers m l t =
    let low = moved m (counts0 t l) (timer0_mode t) t.tl0 t.th0 in
    let one = moved m (moves1 t l) (timer1_mode t) t.tl1 t.th1 in
    record {
      tcon = t.tcon;
      tmod = t.tmod;
      tl0 = low.tl;
      tl1 = one.tl;
      th0 = cond (counts_high0 t) (t.th0 + m) low.th;
      th1 = one.th;
      due0 = t.due0;
      due1 = t.due1;
    }

-- Timer 2's counts of m cycles
unfoldable pub counts2 : ℕ → Timer2 → ℕ
counts2 m t = cond (moves2 t) (cond (baud_rate t) (m * 6) m) 0

-- Timer 2
unfoldable pub stride2 : ℕ → Timer2 → Timer2
stride2 m t = with_count2 (count2 t + counts2 m t) t

-- serial mode 2 ticks in every cycle; at rest the others have no ticks but those of overflows
unfoldable pub ticks2 : ℕ → ℕ → ℕ → ℕ
ticks2 m smod scon = cond (eqb (serial_mode scon) 2) (m * mode2_ticks smod) 0

-- a tick takes RXD into the last line sample
unfoldable pub sampled : ℕ → ℕ → ℕ → ℕ → ℕ
sampled m scon rxd sample = cond (eqb (serial_mode scon) 2 && not (eqb m 0)) rxd sample

-- the send counter takes the ticks, and the last line sample RXD
unfoldable pub stride_serial : ℕ → ℕ → ℕ → Serial → Serial
stride_serial m smod rxd s =
    record {
      scon = s.scon;
      send =
          record {
            position = s.send.position;
            value = s.send.value;
            counter = (s.send.counter + ticks2 m smod s.scon) % 16;
          };
      receive = with_sample (sampled m s.scon rxd s.receive.sample) s.receive;
      half = s.half;
      received = s.received;
    }

-- the device with other timers, another serial port and another cycle number
abbrev pub with_parts : ℕ → Timers → Timer2 → Serial → Device → Device
with_parts n t u s d =
    record {
      kind = d.kind;
      pcon = d.pcon;
      timers = t;
      timer2 = u;
      serial = s;
      interrupts = d.interrupts;
      levels = d.levels;
      cycle = n;
      times = d.times;
    }

-- running timers, the serial port in mode 2 and the cycle number move, and nothing else
unfoldable pub awake_stride : ℕ → ℕ → Device → Device
awake_stride m l d =
    with_parts ((d.cycle + m) % 2 ^ 64) (stride_timers m l d.timers) (stride2 m d.timer2)
    (stride_serial m (bit SMOD d.pcon) (bit RXD l) d.serial) d

-- in power-down nothing does
unfoldable pub stride_at : ℕ → ℕ → Device → Device
stride_at m l d = cond (powered_down d.pcon) d (awake_stride m l d)

-- The same of a pin byte as it is given

-- the length of the run of cycles from d on that are not busy, at most a jump's
unfoldable pub room : ℕ → Device → ℕ
room pins d = room_at (pins_of d.kind pins) d

-- the device after m of these cycles
unfoldable pub stride : ℕ → ℕ → Device → Device
stride m pins d = stride_at m (pins_of d.kind pins) d
