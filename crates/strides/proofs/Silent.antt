-- What the looks ask for is left as it is: the flags, and whether an interrupt is offered. A quiet run is silent, by the stride law.
use Prim.Native.Nat.{ℕ, ◌≤◌}
use mathlib.Core.Path.{◌≡◌, refl, sym, subst, ◌∙◌}
use Rattle.machine.specs.declared.Device.{Device}
use Rattle.machine.specs.Power.{powered_down}
use Rattle.machine.specs.Record.{pins_of}
use Rattle.machine.specs.Flags.{flags}
use Rattle.machine.specs.Cycle.{cycles}
use Rattle.machine.specs.Calls.{offers_to}
use Rattle.machine.proofs.Choices.{by_test}
use Rattle.laws.specs.Ranges.{Ranges}
use Rattle.strides.specs.Stride.{room, awake_stride, stride_timers, stride2, stride_serial}
use Rattle.strides.proofs.Strides.{down_stride, up_stride, stride_law}

pub record Silent (before after : Device) : Type 0 where
  pub flags : flags after ≡ flags before
  pub offers : offers_to after ≡ offers_to before

unmoved : (d : Device) → Silent d d
unmoved d = record { flags = refl; offers = refl }

stride_silent : (m l : ℕ) (d : Device) → Silent d (awake_stride m l d)
unfolding flags awake_stride stride_timers stride2 stride_serial
stride_silent m l d = record { flags = refl; offers = refl }

pub quiet_silent : (m pins : ℕ) (d : Device) → Ranges d → m ≤ room pins d → Silent d (cycles m pins d)
quiet_silent m pins d r h =
    by_test (powered_down d.pcon) (λ t. subst (Silent d) (sym (stride_law m pins d r h ∙ down_stride pins d t m)) (unmoved d))
    (λ f. subst (Silent d) (sym (stride_law m pins d r h ∙ up_stride pins d f m)) (stride_silent m (pins_of d.kind pins) d))
