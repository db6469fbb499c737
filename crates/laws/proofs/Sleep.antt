-- Power-down and idle, for every device and every call: by the cases of a call and by induction on the cycles, and because IDL is none of
-- the bits of PCON that a cycle asks for.
use Prim.Native.Nat.{ℕ, zero, suc}
use mathlib.Core.Path.{◌≡◌, refl, sym, ap, ◌∙◌}
use mathlib.Core.Bool.{Bool, true, false, cond}
use mathlib.Core.List.{List, [], ◌∷◌}
use native.Mathlib.Omega.{arith}
use lib.Dec.{eqb}
use Rattle.machine.specs.declared.Device.{Device}
use Rattle.machine.specs.declared.Answer.{Answer}
use Rattle.machine.specs.Answers.{JumpAnswer, RunAnswer, CycleAnswer, TakeAnswer, LookAnswer as Look}
use Rattle.machine.specs.Registers.{SMOD, PD, IDL}
use Rattle.machine.specs.Power.{powered_down}
use Rattle.machine.specs.Record.{accepted, pins_ok, pins_of}
use Rattle.machine.specs.Serial.{serial_ticks}
use Rattle.machine.specs.Interrupts.{offered, some_source}
use Rattle.machine.specs.Interrupts.Source.{none}
use Rattle.machine.specs.Flags.{flags}
use Rattle.machine.specs.Cycle.{counted, ticks_in, steps, cycle_of, cycles}
use Rattle.machine.specs.Calls.{cycles_fault, first_cycle, rises, offers_to, wakes, judged_look, look_answer, wake_answer, write_answer, cycle_answer, jump_answer, trace_answer, trace_fault, trace_cycles, entry_pins, entry_cycles, take_answer, return_answer}
use Rattle.machine.specs.Lists.{Call, play, run}
use Rattle.machine.specs.Sleep.{NoReset, NoResets, Sleeps, idling, GoesOn}
use Rattle.machine.proofs.Choices.{chosen, cond_ap}
use Rattle.laws.proofs.Bits.{bit_set_other}
use Rattle.laws.proofs.Flags.{none_rises}

module _ (d : Device) (down : powered_down d.pcon ≡ true) where
  pub cycle_down : (pins : ℕ) → cycle_of pins d ≡ d
  unfolding cycle_of
  cycle_down pins = rw down

  pub cycles_stay : (n pins : ℕ) → cycles n pins d ≡ d
  unfolding cycles
  cycles_stay zero pins = refl
  cycles_stay (suc n) pins = ap (cycles n pins) (cycle_down pins) ∙ cycles_stay n pins

  entries_stay : (es : List ℕ) → trace_cycles es d ≡ d
  unfolding trace_cycles
  entries_stay [] = refl
  entries_stay (e ∷ es) = ap (trace_cycles es) (cycles_stay (entry_cycles e) (entry_pins e)) ∙ entries_stay es

  -- each call
  call_stays : (c : Call) → NoReset c → (play c d).device ≡ d
  unfolding NoReset play write_answer cycle_answer jump_answer trace_answer take_answer return_answer
  call_stays (Call.reset kind) n = absurd n
  call_stays (Call.read a) n = refl
  call_stays (Call.write a v) n = rw down (chosen (λ (x : Answer). x.device ≡ d) (accepted d) _ _ refl refl)
  call_stays (Call.cycle pins) n =
      chosen (λ (x : CycleAnswer). x.device ≡ d) (accepted d) _ _
      (chosen (λ (x : CycleAnswer). x.device ≡ d) (pins_ok pins) _ _ (cycle_down pins) refl) refl
  call_stays (Call.jump pins m) n =
      chosen (λ (x : JumpAnswer). x.device ≡ d) (eqb (cycles_fault d pins m) 0) _ _ (cycles_stay m pins) refl
  call_stays (Call.trace es) n =
      chosen (λ (x : RunAnswer). x.device ≡ d) (accepted d) _ _
      (chosen (λ (x : RunAnswer). x.device ≡ d) (eqb (trace_fault es) 0) _ _ (entries_stay es) refl) refl
  call_stays (Call.look pins m) n = refl
  call_stays Call.offer n = refl
  call_stays Call.take n = rw down (chosen (λ (x : TakeAnswer). x.device ≡ d) (accepted d) _ _ refl refl)
  call_stays Call.return n = rw down (chosen (λ (x : Answer). x.device ≡ d) (accepted d) _ _ refl refl)
  call_stays (Call.wake pins m) n = refl

  list_stays : (cs : List Call) → NoResets cs → (run cs d).device ≡ d
  unfolding NoResets run
  list_stays [] n = refl
  list_stays (c ∷ cs) n = ap (λ (e : Device). (run cs e).device) (call_stays c n.0) ∙ list_stays cs n.1

  none_offered : offered d.pcon d.interrupts ≡ none
  unfolding offered
  none_offered = rw down

  asleep : offers_to d ≡ false
  asleep = ap some_source none_offered

  -- a look goes on from the device as it is
  finds_none : (finds : Device → Device → Bool) → finds d d ≡ false → (k n pins : ℕ) → first_cycle finds k n pins d ≡ Look.Nothing
  unfolding first_cycle
  finds_none finds f k zero pins = refl
  finds_none finds f k (suc n) pins = rw (cycle_down pins, f) (finds_none finds f (suc k) n pins)

  pub sleeps : Sleeps d
  unfolding look_answer wake_answer
  sleeps =
      record {
        stays = list_stays;
        offers_none = none_offered;
        looks_none = λ pins n. ap (judged_look d pins n) (finds_none rises (none_rises (flags d)) 0 n pins);
        wakes_none = λ pins n. rw asleep (ap (judged_look d pins n) (finds_none wakes asleep 0 n pins));
      }

module _ (d : Device) where
  -- a cycle asks for SMOD and PD, which IDL is not
  steps_go_on : (l : ℕ) → steps (idling d) l ≡ idling (steps d l)
  unfolding steps idling counted ticks_in serial_ticks flags
  steps_go_on l = rw (bit_set_other SMOD IDL d.pcon (omega arith))

  down_goes_on : powered_down (idling d).pcon ≡ powered_down d.pcon
  unfolding idling
  down_goes_on = ap (λ (n : ℕ). eqb n 1) (bit_set_other PD IDL d.pcon (omega arith))

  cycle_goes_on : (pins : ℕ) → cycle_of pins (idling d) ≡ idling (cycle_of pins d)
  unfolding cycle_of idling
  cycle_goes_on pins =
      let l = pins_of d.kind pins in
      (λ i. cond (down_goes_on i) (idling d) (steps_go_on l i)) ∙ sym (cond_ap idling (powered_down d.pcon) d (steps d l))

  offer_goes_on : offered (idling d).pcon (idling d).interrupts ≡ offered d.pcon d.interrupts
  unfolding offered idling
  offer_goes_on = rw down_goes_on

cycles_go_on : (n pins : ℕ) (d : Device) → cycles n pins (idling d) ≡ idling (cycles n pins d)
unfolding cycles
cycles_go_on zero pins d = refl
cycles_go_on (suc n) pins d = ap (cycles n pins) (cycle_goes_on d pins) ∙ cycles_go_on n pins (cycle_of pins d)

pub goes_on : (d : Device) → GoesOn d
goes_on d = record { cycles = λ n pins. cycles_go_on n pins d; offers = offer_goes_on d }
