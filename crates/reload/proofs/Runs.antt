-- Cycles in a row of a device that idles: it goes on idling, the busy ones are the reloads, and each is silent; by induction.
use Rattle.std.proofs.Common.{◌≡◌, ℕ, zero, suc, ◌+◌, ◌%◌, ◌^◌, Bool, true, false, ◌&&◌, eqb, List, ◌∷◌, sym, refl, ap, ◌∙◌, subst, arith, eqb-true}
use mathlib.Core.Bool.{and-false}
use borrow.Author.Tests.{eqb-false}
use Rattle.machine.specs.declared.Device.{Device}
use Rattle.machine.specs.Bits.{bit}
use Rattle.machine.specs.Registers.{RXD, REN}
use Rattle.machine.specs.Record.{pins_of}
use Rattle.machine.specs.Timers.{counts0, counts1, counts_high0}
use Rattle.machine.specs.Serial.{start_found}
use Rattle.machine.specs.Flags.{flags}
use Rattle.machine.specs.Cycle.{cycle_of, cycles}
use Rattle.machine.specs.Rounds.{busy, marks, rounds_of, rounds}
use Rattle.laws.specs.Ranges.{Ranges}
use Rattle.machine.proofs.Choices.{chosen, by_test, and_right, and_both}
use Rattle.cycle.proofs.Keeps.{cycle_ranges}
use Rattle.cycle.proofs.Steps.{cycle_up}
use Rattle.strides.specs.Stride.{timers_settled, serial_settled, others_settled, settled_at, left, room}
use Rattle.laws.proofs.Flags.{never_both}
use Rattle.strides.proofs.Runs.{number_none, number_more}
use Rattle.strides.proofs.Settles.{settled_rest, rest_settled}
use Rattle.strides.proofs.Silent.{Silent}
use Rattle.strides.proofs.Exact.{room_idle as not-busy, no_room}
use Rattle.reload.specs.Reload.{Idling, idles_at, clocking_of, idling_of, ticks_by, reloaded, with_port, put_idling, raised, idle_cycle, idle_cycles, idle_marks, idle_at, idle_rounds}
use Rattle.reload.specs.declared.Clocking.{Clocking}
use Rattle.reload.proofs.Alone.{Idle, idles_idle, room_idle}
use Rattle.reload.proofs.Step.{steps_idle}

-- a cycle leaves no start bit to be found
cycle_starts : (ren : Bool) (k : Clocking) (x : Idling) → (ren && (eqb x.sample 1 && eqb k.rxd 0)) ≡ false
    → (ren && (eqb (idle_cycle k x).sample 1 && eqb k.rxd 0)) ≡ false
unfolding idle_cycle reloaded raised
cycle_starts ren k x w =
    chosen (λ (y : Idling). None y.sample) (eqb x.tl1 255) (reloaded k x) (raised 1 x)
    (chosen None (eqb (ticks_by k.receives k x) 0) x.sample k.rxd w (simp (never_both, and-false))) w
  where
    None : ℕ → Type 0
    None sample = (ren && (eqb sample 1 && eqb k.rxd 0)) ≡ false

-- the device idles on
put_idle : (l n : ℕ) (x : Idling) (d : Device) → Idle l d → start_found (bit RXD l) (with_port x d.serial) ≡ false
    → Idle l (put_idling n x d)
unfolding put_idling counts0 counts1 counts_high0 settled_at others_settled timers_settled serial_settled
put_idle l n x d f w =
    record {
      alone =
          record {
            counts = f.alone.counts;
            reloads = f.alone.reloads;
            flag = f.alone.flag;
            low = f.alone.low;
            high = f.alone.high;
          };
      stops = f.stops;
      two = f.two;
      starts = w;
      rest =
          settled_rest l (put_idling n x d)
          (and_both (serial_settled (bit RXD l) (with_port x d.serial)) (others_settled l d) (simp (f.two, f.rest.sends, f.rest.receives))
          (and_right (serial_settled (bit RXD l) d.serial) (others_settled l d) (rest_settled l d f.rest)));
    }

module _ (pins : ℕ) (d : Device) (r : Ranges d) (f : Idle (pins_of d.kind pins) d) where
  -- the device after a cycle
  unfoldable pub next : Device
  next =
      let l = pins_of d.kind pins in
      put_idling ((d.cycle + 1) % 2 ^ 64) (idle_cycle (clocking_of l d) (idling_of d)) d

  pub cycle_next : cycle_of pins d ≡ next
  unfolding next
  cycle_next = cycle_up pins d f.rest.awake ∙ steps_idle (pins_of d.kind pins) d r f

  next_idle : Idle (pins_of next.kind pins) next
  unfolding next start_found clocking_of put_idling
  next_idle =
      let l = pins_of d.kind pins in
      put_idle l ((d.cycle + 1) % 2 ^ 64) (idle_cycle (clocking_of l d) (idling_of d)) d f
      (cycle_starts (eqb (bit REN d.serial.scon) 1) (clocking_of l d) (idling_of d) f.starts)

  pub cycle_idle : Idle (pins_of (cycle_of pins d).kind pins) (cycle_of pins d)
  cycle_idle = subst (λ (e : Device). Idle (pins_of e.kind pins) e) (sym cycle_next) next_idle

  -- it is silent
  next_silent : Silent d next
  unfolding flags next put_idling
  next_silent = record { flags = refl; offers = refl }

  pub cycle_silent : Silent d (cycle_of pins d)
  cycle_silent = subst (Silent d) (sym cycle_next) next_silent

idle_cycles_lem : (n pins : ℕ) (d : Device) → Ranges d → Idle (pins_of d.kind pins) d
    → cycles n pins d ≡ idle_at n (pins_of d.kind pins) d
unfolding cycles idle_at idle_cycles next put_idling clocking_of
idle_cycles_lem zero pins d r f = λ i. put_idling (sym (number_none d.cycle r.cycle) i) (idling_of d) d
idle_cycles_lem (suc n) pins d r f =
    let l = pins_of d.kind pins in
    let k = clocking_of l d in
    idle_cycles_lem n pins (cycle_of pins d) (cycle_ranges d r pins) (cycle_idle pins d r f)
    ∙ (ap (λ (e : Device). idle_at n (pins_of e.kind pins) e) (cycle_next pins d r f)
    ∙ (λ i. put_idling (number_more n d.cycle i) (idle_cycles n k (idle_cycle k (idling_of d))) d))

-- n cycles of a device that idles
pub idle_law : (n pins : ℕ) (d : Device) → Ranges d → idles_at (pins_of d.kind pins) d ≡ true
    → cycles n pins d ≡ idle_at n (pins_of d.kind pins) d
idle_law n pins d r e = idle_cycles_lem n pins d r (idles_idle (pins_of d.kind pins) d e)

-- Its rounds

-- a cycle is busy if and only if it is a reload
idle_busy : (pins : ℕ) (d : Device) → Ranges d → Idle (pins_of d.kind pins) d → busy pins d ≡ eqb d.timers.tl1 255
unfolding room
idle_busy pins d r f =
    let here : room pins d ≡ left 8 d.timers.tl1 = room_idle (pins_of d.kind pins) d f in
    by_test (eqb d.timers.tl1 255)
    (λ t. no_room pins d r (omega (arith, here, eqb-true d.timers.tl1 255 t)) ∙ sym t)
    (λ t. not-busy pins d r (omega (arith, here, r.timers.tl1, eqb-false d.timers.tl1 255 t)) ∙ sym t)

idle_marks_lem : (n pins : ℕ) (d : Device) → Ranges d → Idle (pins_of d.kind pins) d
    → marks n pins d ≡ idle_marks n (clocking_of (pins_of d.kind pins) d) (idling_of d)
unfolding marks idle_marks next put_idling clocking_of
idle_marks_lem zero pins d r f = refl
idle_marks_lem (suc n) pins d r f =
    let later = idle_marks_lem n pins (cycle_of pins d) (cycle_ranges d r pins) (cycle_idle pins d r f) in
    (λ i. idle_busy pins d r f i ∷ later i)
    ∙ ap (λ (e : Device). eqb d.timers.tl1 255 ∷ idle_marks n (clocking_of (pins_of e.kind pins) e) (idling_of e)) (cycle_next pins d r f)

pub idle_counted : (n pins : ℕ) (d : Device) → Ranges d → idles_at (pins_of d.kind pins) d ≡ true
    → rounds n pins d ≡ idle_rounds n (pins_of d.kind pins) d
unfolding rounds idle_rounds
idle_counted n pins d r e = ap (λ (ms : List Bool). rounds_of ms) (idle_marks_lem n pins d r (idles_idle (pins_of d.kind pins) d e))
