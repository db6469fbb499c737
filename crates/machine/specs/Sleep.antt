-- Document 02, request One: what power-down means for every device and every call, and idle for every cycle and offer. No rule asks for
-- it; the theorems of crates/laws/proofs/Sleep.antt are stated with it.
use Rattle.std.specs.Prelude.{ℕ, ◌≡◌, List, [], ◌∷◌}
use Rattle.machine.specs.declared.Device.{Device}
use Rattle.machine.specs.Answers.{LookAnswer as Look}
use Rattle.machine.specs.Bits.{set_bit}
use Rattle.machine.specs.Registers.{IDL}
use Rattle.machine.specs.Interrupts.{offered}
use Rattle.machine.specs.Interrupts.Source.{none}
use Rattle.machine.specs.Cycle.{cycles}
use Rattle.machine.specs.Calls.{judged_look, look_answer, wake_answer, with_interrupts}
use Rattle.machine.specs.Lists.{Call, run}
use Rattle.machine.specs.Lists.Call.{reset, read, write, cycle, jump, trace, look, offer, take, return, wake}

-- a call that is no reset, and a list of them
unfoldable pub NoReset : Call → Type 0
NoReset (reset kind) = ⊥
NoReset (read a) = Unit {0}
NoReset (write a v) = Unit {0}
NoReset (cycle pins) = Unit {0}
NoReset (jump pins n) = Unit {0}
NoReset (trace es) = Unit {0}
NoReset (look pins n) = Unit {0}
NoReset offer = Unit {0}
NoReset take = Unit {0}
NoReset return = Unit {0}
NoReset (wake pins n) = Unit {0}

unfoldable pub NoResets : List Call → Type 0
NoResets [] = Unit {0}
NoResets (c ∷ cs) = NoReset c × NoResets cs

-- Power-down: only reset ends it. Every list of other calls leaves the device as it is; nothing is offered, and a look that passes says
-- none
pub record Sleeps (d : Device) : Type 0 where
  pub stays : (cs : List Call) → NoResets cs → (run cs d).device ≡ d
  pub offers_none : offered d.pcon d.interrupts ≡ none
  pub looks_none : (pins n : ℕ) → look_answer d pins n ≡ judged_look d pins n Look.Nothing
  pub wakes_none : (pins n : ℕ) → wake_answer d pins n ≡ judged_look d pins n Look.Nothing

-- the device with IDL set
unfoldable pub idling : Device → Device
idling d = with_interrupts (set_bit IDL d.pcon) d.timers d.interrupts d

-- Idle: cycles do what they do without IDL, and the same is offered
pub record GoesOn (d : Device) : Type 0 where
  pub cycles : (n pins : ℕ) → cycles n pins (idling d) ≡ idling (cycles n pins d)
  pub offers : offered (idling d).pcon (idling d).interrupts ≡ offered d.pcon d.interrupts
