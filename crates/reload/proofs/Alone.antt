-- A device in which Timer 1's reload is all that happens, fact by fact, and its room: the counts of TL1 before the reload.
use Rattle.std.proofs.Common.{◌≡◌, ℕ, true, false, not, ◌&&◌, ◌||◌, eqb, arith, eqb-true}
use borrow.Author.Tests.{not-true}
use Rattle.machine.specs.declared.Timers.{Timers}
use Rattle.machine.specs.declared.Timer2.{Timer2}
use Rattle.machine.specs.declared.Device.{Device}
use Rattle.machine.specs.Bits.{bit}
use Rattle.machine.specs.Registers.{RXD, TF1, TR2}
use Rattle.machine.specs.Record.{serial_mode}
use Rattle.machine.specs.Timers.{timer0_mode, timer1_mode, counts0, counts1, counts_high0}
use Rattle.machine.specs.Serial.{start_found}
use Rattle.machine.specs.Calls.{longest}
use Rattle.machine.proofs.Choices.{and_two, and_four, or_left, or_right}
use Rattle.strides.specs.Stride.{settled_at, left, left_in, moves1, room_timers, moves2, room2, awake_room, room_at}
use Rattle.strides.proofs.Settles.{Rest, settled_rest, rest_settled}
use Rattle.reload.specs.Reload.{timer1_alone, line_rests, reload_only, idles_at}

-- the facts of Timer 1 counting alone
pub record Alone (l : ℕ) (t : Timers) : Type 0 where
  pub counts : counts1 t l ≡ true
  pub reloads : timer1_mode t ≡ 2
  pub flag : (eqb (bit TF1 t.tcon) 1 || eqb (timer0_mode t) 3) ≡ true
  pub low : counts0 t l ≡ false
  pub high : counts_high0 t ≡ false

alone_facts : (l : ℕ) (t : Timers) → timer1_alone l t ≡ true → Alone l t
unfolding timer1_alone
alone_facts l t e =
    let flag = eqb (bit TF1 t.tcon) 1 || eqb (timer0_mode t) 3 in
    let others = counts0 t l || counts_high0 t in
    let whole = and_two ((counts1 t l && eqb (timer1_mode t) 2) && flag) (not others) e in
    let one = and_two (counts1 t l && eqb (timer1_mode t) 2) flag whole.0 in
    let two = and_two (counts1 t l) (eqb (timer1_mode t) 2) one.0 in
    let none = not-true others whole.1 in
    record {
      counts = two.0;
      reloads = eqb-true (timer1_mode t) 2 two.1;
      flag = one.1;
      low = or_left (counts0 t l) (counts_high0 t) none;
      high = or_right (counts0 t l) (counts_high0 t) none;
    }

-- the facts of a device that idles
pub record Idle (l : ℕ) (d : Device) : Type 0 where
  pub alone : Alone l d.timers
  pub stops : bit TR2 d.timer2.t2con ≡ 0
  pub two : eqb (serial_mode d.serial.scon) 2 ≡ false
  pub starts : start_found (bit RXD l) d.serial ≡ false
  pub rest : Rest l d

pub idles_idle : (l : ℕ) (d : Device) → idles_at l d ≡ true → Idle l d
unfolding idles_at reload_only line_rests
idles_idle l d e =
    let s = d.serial in
    let alone = timer1_alone l d.timers in
    let stopped = eqb (bit TR2 d.timer2.t2con) 0 in
    let second = eqb (serial_mode s.scon) 2 in
    let starting = start_found (bit RXD l) s in
    let whole = and_two (reload_only l d) (settled_at l d) e in
    let parts = and_four alone stopped (not second) (not starting) whole.0 in
    record {
      alone = alone_facts l d.timers parts.0.0;
      stops = eqb-true (bit TR2 d.timer2.t2con) 0 parts.0.1;
      two = not-true second parts.1.0;
      starts = not-true starting parts.1.1;
      rest = settled_rest l d whole.1;
    }

-- Timer 1's counts are the room
room_alone : (l : ℕ) (t : Timers) → Alone l t → room_timers l t ≡ left 8 t.tl1
unfolding room_timers moves1 left_in
room_alone l t f = simp (f.low, f.high, f.counts, f.reloads) (omega arith)

room_stopped : (t : Timer2) → bit TR2 t.t2con ≡ 0 → room2 t ≡ longest
unfolding moves2
room_stopped t e = simp e

pub room_idle : (l : ℕ) (d : Device) → Idle l d → room_at l d ≡ left 8 d.timers.tl1
unfolding room_at awake_room
room_idle l d f =
    simp (f.rest.awake, rest_settled l d f.rest, room_alone l d.timers f.alone, room_stopped d.timer2 f.stops) (omega arith)
