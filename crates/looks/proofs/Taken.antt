-- A look with the pin byte as the kind takes it is the look with the one that is given; by induction on the cycles.
use Prim.Native.Nat.{ℕ, zero, suc}
use mathlib.Core.Path.{◌≡◌, refl, ap, ◌∙◌}
use mathlib.Core.Bool.{Bool, cond}
use Rattle.machine.specs.declared.Device.{Device}
use Rattle.machine.specs.Answers.{LookAnswer}
use Rattle.machine.specs.Answers.LookAnswer.{At}
use Rattle.machine.specs.Record.{pins_of}
use Rattle.machine.specs.Cycle.{cycle_of}
use Rattle.machine.specs.Calls.{first_cycle, first_rise, offers_to, wakes, first_offer}
use Rattle.jump.proofs.Taken.{taken_on}

find_taken : (finds : Device → Device → Bool) (k n pins : ℕ) (d : Device)
    → first_cycle finds k n (pins_of d.kind pins) d ≡ first_cycle finds k n pins d
unfolding first_cycle
find_taken finds k zero pins d = refl
find_taken finds k (suc n) pins d =
    taken_on (λ (l : ℕ) (e : Device). cond (finds d e) (At (suc k)) (first_cycle finds (suc k) n l e)) pins d
    (ap (cond (finds d (cycle_of pins d)) (At (suc k))) (find_taken finds (suc k) n pins (cycle_of pins d)))

-- what is called with a pin byte as the kind takes it promises the same of the one that is given
module _ (pins : ℕ) (d : Device) {l : ℕ} (e : l ≡ pins_of d.kind pins) where
  find_given : (finds : Device → Device → Bool) (n : ℕ) → first_cycle finds 0 n l d ≡ first_cycle finds 0 n pins d
  find_given finds n = ap (λ (p : ℕ). first_cycle finds 0 n p d) e ∙ find_taken finds 0 n pins d

  pub rise_taken : (n : ℕ) {v : LookAnswer} → v ≡ first_rise n l d → v ≡ first_rise n pins d
  rise_taken n q = q ∙ find_given _ n

  pub offer_taken : (n : ℕ) {v : LookAnswer} → v ≡ first_offer n l d → v ≡ first_offer n pins d
  offer_taken n q = q ∙ ap (cond (offers_to d) (At 0)) (find_given wakes n)
