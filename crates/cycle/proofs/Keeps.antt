-- Two laws of the whole cycle: at most six ticks come, and an accepted device stays accepted. By the ranges of its parts.
use Rattle.std.proofs.Common.{◌≡◌, ℕ, ◌+◌, ◌≤◌, true, ◌&&◌, eqb, leb, List, get_or, sym, ◌∙◌, mod-lt, arith, lit<, lit≤, ne_eqb, le-leb}
use mathlib.Core.Bool.{and-false}
use native.Mathlib.Nat.{le-pred_of_lt}
use Rattle.machine.specs.declared.Counted.{Counted}
use Rattle.machine.specs.declared.Ticks.{Ticks}
use Rattle.machine.specs.declared.Device.{Device}
use Rattle.machine.specs.Bits.{bit, set_bit}
use Rattle.machine.specs.Registers.{RXD, T2, T2EX, IT0, IT1, IE0, IE1, ET2}
use Rattle.machine.specs.Power.{powered_down}
use Rattle.machine.specs.Record.{accepted, pins_of, levels_of, levels_ok}
use Rattle.machine.specs.Timers.{flagged}
use Rattle.machine.specs.Cycle.{falls, externals, counted, timers_after, timer2_after, ticks_in, steps, cycle_of}
use Rattle.laws.specs.Ranges.{TimersOk, Timer2Ok, Absent, TicksOk, Ranges}
use Rattle.laws.proofs.Bits.{bit_below, bit_set, bit_set_other, flagged_lt}
use Rattle.laws.proofs.Flags.{times_kept}
use Rattle.machine.proofs.Choices.{chosen}
use Rattle.machine.proofs.Rollovers.{few_ticks}
use Rattle.timers.proofs.Ranges as timers
use Rattle.timer2.proofs.Ranges as timer2
use Rattle.serial.proofs.Ranges.{half_within, step_ok, sends_below}
use Rattle.interrupts.proofs.Ranges.{external_byte, seen_most}
use Rattle.record.proofs.Accepted.{ranges_of, accepted_of}

-- 1 or 0
falls_bit : (saved : List ℕ) (pins pin : ℕ) → falls saved pins pin ≤ 1
unfolding falls
falls_bit saved pins pin =
    chosen (λ (n : ℕ). n ≤ 1) (eqb (get_or saved pin 0) 1 && eqb (bit pin pins) 0) 1 0 (lit≤ tt) (lit≤ tt)

-- a pin that is high does not fall
falls_not : (saved : List ℕ) (pins pin : ℕ) → bit pin pins ≡ 1 → falls saved pins pin ≡ 0
unfolding falls
falls_not saved pins pin h = rw (ne_eqb (bit pin pins) 0 (λ e. omega arith), and-false)

-- kind 51 takes T2 as 1
takes_t2 : (pins : ℕ) → bit T2 (pins_of 51 pins) ≡ 1
unfolding pins_of
takes_t2 pins = bit_set_other T2 T2EX (set_bit T2 pins) (omega arith) ∙ bit_set T2 pins

module _ (d : Device) (r : Ranges d) where
  -- step 4
  half_keeps : (l : ℕ) → (ticks_in d (counted d l)).half ≤ 1
  unfolding ticks_in
  half_keeps l = half_within d.pcon d.timer2.t2con d.serial _ _ r.serial.half

  -- step 2, then steps 6 and 7
  timers_keep : (l : ℕ) → TimersOk (timers_after d.levels l (counted d l).timers.timers)
  unfolding timers_after externals counted
  timers_keep l =
      let k = timers.step_kept d.timers r.timers l in
      record {
        tcon = external_byte IT1 IE1 _ _ _ (lit< tt) (external_byte IT0 IE0 _ _ _ (lit< tt) k.tcon);
        tmod = k.tmod;
        tl0 = k.tl0;
        tl1 = k.tl1;
        th0 = k.th0;
        th1 = k.th1;
        due0 = falls_bit _ _ _;
        due1 = falls_bit _ _ _;
      }

  timer2_keeps : (l : ℕ) → Timer2Ok (timer2_after d.levels l (counted d l).timer2.timer2)
  unfolding timer2_after counted
  timer2_keeps l =
      let k = timer2.step_kept d.timer2 (falls d.levels l T2EX) r.timer2 in
      record {
        t2con = k.t2con;
        rcap2l = k.rcap2l;
        rcap2h = k.rcap2h;
        tl2 = k.tl2;
        th2 = k.th2;
        due2 = falls_bit _ _ _;
      }

  -- on kind 51 Timer 2 stands still
  absent_keeps : (pins : ℕ) → d.kind ≡ 51
      → Absent (timer2_after d.levels (pins_of d.kind pins) (counted d (pins_of d.kind pins)).timer2.timer2)
  unfolding timer2_after counted
  absent_keeps pins e =
      let a = r.absent e in
      let high : falls d.levels (pins_of d.kind pins) T2 ≡ 0 = rw e (falls_not d.levels (pins_of 51 pins) T2 (takes_t2 pins)) in
      rw (timer2.step_still d.timer2 _ a.t2con, high ∙ sym a.due2) a

  -- step 1
  polled_keeps : (l : ℕ) → flagged ET2 (counted d l).timer2.tf2 d.interrupts.seen ≤ 63
  polled_keeps l =
      le-pred_of_lt (flagged_lt 6 ET2 (counted d l).timer2.tf2 d.interrupts.seen (lit< tt) (omega (arith, r.interrupts.seen)))

  levels_keep : (l : ℕ) → levels_ok (levels_of l) ≡ true
  unfolding levels_of
  levels_keep l =
      simp (low 0, low 1, low 2, low 3, low 4, low 5, low 6)
    where
      low : (k : ℕ) → leb (bit k l) 1 ≡ true
      low k = le-leb (bit k l) 1 (le-pred_of_lt (bit_below k l))

  steps_ranges : (pins : ℕ) → Ranges (steps d (pins_of d.kind pins))
  unfolding steps
  steps_ranges pins =
      let l = pins_of d.kind pins in
      record {
        kind = r.kind;
        pcon = r.pcon;
        pcon_bits = r.pcon_bits;
        timers = timers_keep l;
        timer2 = timer2_keeps l;
        absent = absent_keeps pins;
        serial = step_ok _ (bit RXD l) d.serial (half_keeps l) (le-pred_of_lt (bit_below RXD l)) r.serial;
        interrupts =
            record {
              ie = r.interrupts.ie;
              ie_bits = r.interrupts.ie_bits;
              ip = r.interrupts.ip;
              ip_bits = r.interrupts.ip_bits;
              seen = seen_most _ _ _;
              polled = polled_keeps l;
              low = r.interrupts.low;
              high = r.interrupts.high;
            };
        levels = levels_keep l;
        cycle = mod-lt (d.cycle + 1) (omega arith);
        times = times_kept _ _ d.times (mod-lt (d.cycle + 1) (omega arith)) r.times;
      }

  pub cycle_ranges : (pins : ℕ) → Ranges (cycle_of pins d)
  unfolding cycle_of
  cycle_ranges pins = chosen Ranges (powered_down d.pcon) d (steps d (pins_of d.kind pins)) r (steps_ranges pins)

-- at most six ticks come in a cycle of an accepted device, by the law of the machine
pub ticks_ok : (d : Device) → accepted d ≡ true → (l : ℕ) {c : Counted} {k : Ticks} → c ≡ counted d l → k ≡ ticks_in d c → TicksOk k
ticks_ok d a l e f = rw (f, e) (record { send = (few_ticks d a l).send; half = half_keeps d (ranges_of d a) l })

-- the saved levels of an accepted device
pub accepted_levels : (d : Device) → accepted d ≡ true → levels_ok d.levels ≡ true
accepted_levels d a = (ranges_of d a).levels

-- a cycle keeps an accepted device accepted
pub cycle_accepted : (pins : ℕ) (d : Device) → accepted d ≡ true → accepted (cycle_of pins d) ≡ true
cycle_accepted pins d a = accepted_of (cycle_of pins d) (cycle_ranges d (ranges_of d a) pins)

-- the send position of an accepted device
pub sends_within : (d : Device) → accepted d ≡ true → d.serial.send.position ≤ 11
sends_within d a = sends_below d.serial (ranges_of d a).serial
