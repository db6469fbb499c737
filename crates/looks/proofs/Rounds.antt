-- The rounds of a look: what is found in a round is found in its one cycle, and otherwise the look goes on after it; by the laws of the
-- rounds of a jump.
use Prim.Native.Nat.{ℕ, zero, suc, ◌+◌, ◌-◌, ◌≤◌, ◌<◌}
use mathlib.Core.Path.{◌≡◌, refl, sym, ap, ◌∙◌, subst}
use mathlib.Core.Bool.{Bool, true, false}
use native.Mathlib.Omega.{arith}
use Rattle.machine.specs.declared.Totals.{Totals}
use Rattle.machine.specs.declared.Device.{Device}
use Rattle.machine.specs.Answers.{LookAnswer}
use Rattle.machine.specs.Answers.LookAnswer.{At, Nothing}
use Rattle.machine.specs.Record.{accepted, pins_of}
use Rattle.machine.specs.Cycle.{cycle_of, cycles}
use Rattle.machine.specs.Calls.{first_cycle}
use Rattle.machine.proofs.Choices.{clash}
use Rattle.record.proofs.Accepted.{ranges_of}
use Rattle.strides.specs.Stride.{room, room_at}
use Rattle.strides.proofs.Runs.{cycles_one}
use Rattle.strides.proofs.Silent.{Silent, quiet_silent}
use Rattle.reload.specs.Reload.{idles_at}
use Rattle.reload.proofs.Alone.{idles_idle}
use Rattle.jump.specs.declared.Round.{Round}
use Rattle.jump.specs.Rounds.{Ready, Crossed}
use Rattle.jump.proofs.Idles.{idles_here}
use Rattle.jump.proofs.Rounds.{ran, within_room, used_busy, used_quiet}
use Rattle.looks.specs.Tests.{FlagTest, Still}
use Rattle.looks.proofs.Looks.{Hears, of_test, find_quiet, find_idle, on_here, on_one, on_stride}

module _ {finds : Device → Device → Bool} (test : FlagTest finds) where
  hears : Hears finds (Still finds)
  hears = of_test test

  -- no cycle is found in a quiet run to the end, nor where Timer 1's reload is all that happens
  pub quiet_look : (pins left : ℕ) (d : Device) (y : Ready pins d) → Still finds d → {n : ℕ} → n ≡ room_at pins d → left ≤ n
      → (k : ℕ) {v : LookAnswer} → first_cycle finds k left pins d ≡ v → Nothing ≡ v
  quiet_look pins left d y p e h k i =
      sym (find_quiet hears left k pins d (ranges_of d y.good) p (within_room pins left d y e h)) ∙ i

  pub idle_look : (pins : ℕ) (d : Device) (y : Ready pins d) → Still finds d → {b : Bool} → b ≡ idles_at pins d → b ≡ true
      → (k n : ℕ) {v : LookAnswer} → first_cycle finds k n pins d ≡ v → Nothing ≡ v
  idle_look pins d y p q t k n i =
      sym (find_idle hears k n pins d (ranges_of d y.good) p (idles_idle (pins_of d.kind pins) d (idles_here pins d y q t))) ∙ i

  -- A round, after k of the n cycles
  module _ (k n pins : ℕ) (d : Device) (h : k < n) {sum : Totals} {r : Round} (c : Crossed pins (n - k) (ran sum d) r) where
    busy_cycle : room pins d ≡ 0 → r.run.device ≡ cycle_of pins d
    busy_cycle z = c.reaches ∙ (ap (λ (m : ℕ). cycles m pins d) (c.used ∙ used_busy pins (n - k) d z) ∙ cycles_one pins d)

    -- it is found: so is the round's one cycle
    pub look_here : {v : LookAnswer} → accepted d ≡ true → Still finds d → first_cycle finds k (n - k) pins d ≡ v
        → finds d r.run.device ≡ true → At (k + r.used) ≡ v
    look_here {v} a p inv e = go (room pins d) refl
      where
        go : (m : ℕ) → room pins d ≡ m → At (k + r.used) ≡ v
        go zero z =
            ap (λ (m : ℕ). At (k + m)) (c.used ∙ used_busy pins (n - k) d z) ∙ on_here finds k n pins d inv h (busy_cycle z) e
        go (suc m) z =
            let q = used_quiet pins (n - k) d (omega arith) in
            let s = quiet_silent r.used pins d (ranges_of d a) (omega (arith, c.used)) in
            absurd (clash e (hears.silence d r.run.device (subst (Silent d) (sym c.reaches) s) p))

    -- it is not: the look goes on after the round
    pub look_on : {v : LookAnswer} → accepted d ≡ true → Still finds d → first_cycle finds k (n - k) pins d ≡ v
        → finds d r.run.device ≡ false → first_cycle finds (k + r.used) (n - (k + r.used)) pins r.run.device ≡ v
    look_on {v} a p inv e = go (room pins d) refl
      where
        go : (m : ℕ) → room pins d ≡ m → first_cycle finds (k + r.used) (n - (k + r.used)) pins r.run.device ≡ v
        go zero z =
            ap (λ (m : ℕ). first_cycle finds (k + m) (n - (k + m)) pins r.run.device) (c.used ∙ used_busy pins (n - k) d z)
            ∙ on_one finds k n pins d inv h (busy_cycle z) e
        go (suc m) z =
            let q = used_quiet pins (n - k) d (omega arith) in
            on_stride finds k n pins d inv hears r.used (ranges_of d a) p (omega (arith, c.used)) (omega (arith, c.used)) c.reaches
