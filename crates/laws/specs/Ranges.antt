-- Document 01, "The device record", with request Six's flag times: the ranges of an accepted record, field by field and laid out as the
-- record is. Of r : Ranges d the range of d.timers.tcon is r.timers.tcon. This is the one place that states them; every law of a crate
-- above `machine` about a device within its ranges takes one of these records.
use Rattle.std.specs.Prelude.{ℕ, ◌<◌, ◌≤◌, ◌^◌, ◌≡◌, true, ◌⊎◌}
use Rattle.machine.specs.declared.Timers.{Timers}
use Rattle.machine.specs.declared.Timer2.{Timer2}
use Rattle.machine.specs.declared.Sender.{Sender}
use Rattle.machine.specs.declared.Receiver.{Receiver}
use Rattle.machine.specs.declared.Serial.{Serial}
use Rattle.machine.specs.declared.Ticks.{Ticks}
use Rattle.machine.specs.declared.Interrupts.{Interrupts}
use Rattle.machine.specs.declared.Device.{Device}
use Rattle.machine.specs.Registers.{PCON, IE, IP, implemented, within}
use Rattle.machine.specs.Record.{last_position, levels_ok}
use Rattle.machine.specs.Times.{times_ok}
use Rattle.machine.specs.Rollovers.{most_ticks}

-- Timers 0 and 1
pub record TimersOk (t : Timers) : Type 0 where
  pub tcon : t.tcon < 256
  pub tmod : t.tmod < 256
  pub tl0 : t.tl0 < 256
  pub tl1 : t.tl1 < 256
  pub th0 : t.th0 < 256
  pub th1 : t.th1 < 256
  pub due0 : t.due0 ≤ 1
  pub due1 : t.due1 ≤ 1

-- Timer 2
pub record Timer2Ok (t : Timer2) : Type 0 where
  pub t2con : t.t2con < 256
  pub rcap2l : t.rcap2l < 256
  pub rcap2h : t.rcap2h < 256
  pub tl2 : t.tl2 < 256
  pub th2 : t.th2 < 256
  pub due2 : t.due2 ≤ 1

-- Timer 2 on kind 51: the registers and the due mark are 0
pub record Absent (t : Timer2) : Type 0 where
  pub t2con : t.t2con ≡ 0
  pub rcap2l : t.rcap2l ≡ 0
  pub rcap2h : t.rcap2h ≡ 0
  pub tl2 : t.tl2 ≡ 0
  pub th2 : t.th2 ≡ 0
  pub due2 : t.due2 ≡ 0

-- the send fields, with the last position of the mode
pub record SenderOk (last : ℕ) (u : Sender) : Type 0 where
  pub position : u.position ≤ last
  pub value : u.value ≤ 511
  pub counter : u.counter ≤ 15

-- the receive fields
pub record ReceiverOk (last : ℕ) (r : Receiver) : Type 0 where
  pub position : r.position ≤ last
  pub value : r.value ≤ 511
  pub counter : r.counter ≤ 15
  pub votes : r.votes ≤ 2
  pub sample : r.sample ≤ 1

-- the serial port
pub record SerialOk (s : Serial) : Type 0 where
  pub scon : s.scon < 256
  pub send : SenderOk (last_position s.scon) s.send
  pub receive : ReceiverOk (last_position s.scon) s.receive
  pub half : s.half ≤ 1
  pub received : s.received < 256

-- step 4: the ticks of the sender, and half; the receiver's ticks may be any number
pub record TicksOk (k : Ticks) : Type 0 where
  pub send : k.send ≤ most_ticks
  pub half : k.half ≤ 1

-- the interrupt controller; IE and IP have no bit outside those that the kind implements
pub record InterruptsOk (kind : ℕ) (i : Interrupts) : Type 0 where
  pub ie : i.ie < 256
  pub ie_bits : within (implemented kind IE) i.ie ≡ true
  pub ip : i.ip < 256
  pub ip_bits : within (implemented kind IP) i.ip ≡ true
  pub seen : i.seen ≤ 63
  pub polled : i.polled ≤ 63
  pub low : i.low ≤ 1
  pub high : i.high ≤ 1

-- the record
pub record Ranges (d : Device) : Type 0 where
  pub kind : (d.kind ≡ 51) ⊎ (d.kind ≡ 52)
  pub pcon : d.pcon < 256
  pub pcon_bits : within (implemented d.kind PCON) d.pcon ≡ true
  pub timers : TimersOk d.timers
  pub timer2 : Timer2Ok d.timer2
  pub absent : d.kind ≡ 51 → Absent d.timer2
  pub serial : SerialOk d.serial
  pub interrupts : InterruptsOk d.kind d.interrupts
  pub levels : levels_ok d.levels ≡ true
  pub cycle : d.cycle < 2 ^ 64
  pub times : times_ok d.times ≡ true
