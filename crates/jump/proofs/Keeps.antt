-- Runs of cycles from an accepted device: it stays accepted, and ready for more.
use Prim.Native.Nat.{ℕ}
use mathlib.Core.Path.{◌≡◌, ap, ◌∙◌}
use mathlib.Core.Bool.{true}
use Rattle.machine.specs.declared.Device.{Device}
use Rattle.machine.specs.Record.{accepted, pins_of}
use Rattle.machine.specs.Cycle.{cycles}
use Rattle.record.proofs.Accepted.{ranges_of, accepted_of}
use Rattle.strides.proofs.Runs.{cycles_kind, cycles_ranges}
use Rattle.jump.specs.Rounds.{Ready}

-- n cycles keep an accepted device accepted
pub cycles_accepted : (n pins : ℕ) (d : Device) → accepted d ≡ true → accepted (cycles n pins d) ≡ true
cycles_accepted n pins d a = accepted_of (cycles n pins d) (cycles_ranges n pins d (ranges_of d a))

-- and the pin byte as its kind takes it
pub cycles_ready : (n pins : ℕ) (d : Device) → Ready pins d → Ready pins (cycles n pins d)
cycles_ready n pins d r =
    record { good = cycles_accepted n pins d r.good; taken = ap (λ (k : ℕ). pins_of k pins) (cycles_kind n pins d) ∙ r.taken }
