-- What a look may look for: a test of the device before a cycle and after it that reads no more than the flags and what is offered.
use Rattle.std.specs.Prelude.{◌≡◌, Bool, false}
use Rattle.machine.specs.declared.Device.{Device}
use Rattle.machine.specs.Flags.{flags}
use Rattle.machine.specs.Calls.{offers_to}

-- nothing is found yet
abbrev pub Still : (Device → Device → Bool) → Device → Type 0
Still finds d = finds d d ≡ false

-- where the flags and what is offered stay, nothing more is found; and what is not found in a cycle is not found after it
pub record FlagTest (finds : Device → Device → Bool) : Type 0 where
  pub stays : (d e : Device) → flags e ≡ flags d → offers_to e ≡ offers_to d → finds d e ≡ finds d d
  pub goes_on : (d e : Device) → finds d e ≡ false → Still finds e
