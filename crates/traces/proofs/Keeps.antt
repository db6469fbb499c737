-- A trace run from an accepted device leaves it accepted: by the law of runs of cycles, entry by entry.
use Prim.Native.Nat.{ℕ}
use mathlib.Core.Path.{◌≡◌}
use mathlib.Core.Bool.{true}
use mathlib.Core.List.{List, [], ◌∷◌}
use Rattle.machine.specs.declared.Device.{Device}
use Rattle.machine.specs.Record.{accepted}
use Rattle.machine.specs.Cycle.{cycles}
use Rattle.machine.specs.Calls.{entry_pins, entry_cycles, trace_cycles}
use Rattle.jump.proofs.Keeps.{cycles_accepted}

pub trace_accepted : (es : List ℕ) (d : Device) → accepted d ≡ true → accepted (trace_cycles es d) ≡ true
unfolding trace_cycles
trace_accepted [] d a = a
trace_accepted (e ∷ es) d a =
    trace_accepted es (cycles (entry_cycles e) (entry_pins e) d) (cycles_accepted (entry_cycles e) (entry_pins e) d a)
