-- Where Timer 1's reload is all that happens: the device after the cycles that are left, the overflows in them and their rounds; by the
-- laws of the reload.
use Prim.Native.Nat.{ℕ}
use mathlib.Core.Path.{◌≡◌, sym, ap, ◌∙◌}
use mathlib.Core.Bool.{Bool, true}
use Rattle.machine.specs.declared.Device.{Device}
use Rattle.machine.specs.Record.{pins_of}
use Rattle.machine.specs.Cycle.{cycles}
use Rattle.machine.specs.Totals.{totals}
use Rattle.machine.specs.Rounds.{rounds}
use Rattle.jump.specs.Rounds.{Ready}
use Rattle.record.proofs.Accepted.{ranges_of}
use Rattle.reload.specs.Reload.{idles_at, idle_at, idle_rounds, idle_totals}
use Rattle.reload.proofs.Runs.{idle_law, idle_counted}
use Rattle.reload.proofs.Totals.{idle_totals_lem}

module _ (pins : ℕ) (d : Device) (r : Ready pins d) {b : Bool} (q : b ≡ idles_at pins d) (t : b ≡ true) where
  pub idles_here : idles_at (pins_of d.kind pins) d ≡ true
  idles_here = ap (λ (l : ℕ). idles_at l d) r.taken ∙ (sym q ∙ t)

  law : (n : ℕ) → cycles n pins d ≡ idle_at n (pins_of d.kind pins) d
  law n = idle_law n pins d (ranges_of d r.good) idles_here

  -- the cycles that are left end here
  pub idle_on : (n : ℕ) {u v : Device} → u ≡ idle_at n pins d → cycles n pins d ≡ v → u ≡ v
  idle_on n e i = e ∙ (ap (λ (l : ℕ). idle_at n l d) (sym r.taken) ∙ (sym (law n) ∙ i))

  -- with the overflows of Timer 1's counts over the stretch
  pub idle_laps : (n : ℕ) → totals n pins d ≡ idle_totals n d.timers
  idle_laps n = idle_totals_lem n pins d (ranges_of d r.good) idles_here

  -- and their rounds
  pub idle_rounds_lem : (n : ℕ) → rounds n pins d ≡ idle_rounds n pins d
  idle_rounds_lem n = idle_counted n pins d (ranges_of d r.good) idles_here ∙ ap (λ (l : ℕ). idle_rounds n l d) r.taken
