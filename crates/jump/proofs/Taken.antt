-- The pin byte as the kind takes it stands for the one that is given: taking it again changes nothing, and cycles, their overflows and
-- their rounds are the same with it; by induction on the cycles.
use Prim.Native.Nat.{ℕ, zero, suc}
use mathlib.Core.Path.{◌≡◌, refl, sym, ap, ◌∙◌}
use mathlib.Core.Bool.{Bool, true, false, cond, ◌&&◌, ◌||◌, not}
use mathlib.Core.List.{List, ◌∷◌}
use native.Mathlib.Omega.{arith}
use lib.Dec.{eqb}
use Rattle.machine.specs.declared.Totals.{Totals}
use Rattle.machine.specs.declared.Device.{Device}
use Rattle.machine.specs.Bits.{set_bit}
use Rattle.machine.specs.Registers.{T2, T2EX}
use Rattle.machine.specs.Power.{powered_down}
use Rattle.machine.specs.Record.{accepted, pins_of}
use Rattle.machine.specs.Cycle.{counted, overflows_of, steps, cycle_of, cycles}
use Rattle.machine.specs.Totals.{no_totals, added, by_timer, totals_next, totals}
use Rattle.machine.specs.Same.{same}
use Rattle.machine.specs.Rounds.{overflowed, overflows, working, watched, busy, marks, rounds_of, rounds}
use Rattle.laws.proofs.Bits.{bit_set, bit_set_other, set_same}
use Rattle.strides.proofs.Runs.{cycle_kind}
use Rattle.jump.specs.Rounds.{Ready}

pub pins_twice : (kind pins : ℕ) → pins_of kind (pins_of kind pins) ≡ pins_of kind pins
unfolding pins_of
pins_twice kind pins = go (eqb kind 51)
  where
    -- T2 and T2EX are 1
    both : ℕ
    both = set_bit T2EX (set_bit T2 pins)

    again : set_bit T2EX (set_bit T2 both) ≡ both
    again =
        ap (set_bit T2EX) (set_same T2 both (bit_set_other T2 T2EX (set_bit T2 pins) (omega arith) ∙ bit_set T2 pins))
        ∙ set_same T2EX both (bit_set T2EX (set_bit T2 pins))

    go : (old : Bool) → cond old (set_bit T2EX (set_bit T2 (cond old both pins))) (cond old both pins) ≡ cond old both pins
    go true = again
    go false = refl

pub cycle_taken : (pins : ℕ) (d : Device) → cycle_of (pins_of d.kind pins) d ≡ cycle_of pins d
unfolding cycle_of
cycle_taken pins d = ap (λ (l : ℕ). cond (powered_down d.pcon) d (steps d l)) (pins_twice d.kind pins)

next_taken : (pins : ℕ) (d : Device) → totals_next (pins_of d.kind pins) d ≡ totals_next pins d
unfolding totals_next
next_taken pins d =
    ap (λ (l : ℕ). cond (powered_down d.pcon) no_totals (by_timer (overflows_of (counted d l)))) (pins_twice d.kind pins)

-- what is made of the device after a cycle with the pin byte as its kind takes it, by what is made of it with the pin byte as it is
pub taken_on : {A : Type 0} (f : ℕ → Device → A) (pins : ℕ) (d : Device)
    → f (pins_of (cycle_of pins d).kind pins) (cycle_of pins d) ≡ f pins (cycle_of pins d)
    → f (pins_of d.kind pins) (cycle_of (pins_of d.kind pins) d) ≡ f pins (cycle_of pins d)
taken_on f pins d on =
    ap (f (pins_of d.kind pins)) (cycle_taken pins d)
    ∙ (ap (λ (k : ℕ). f (pins_of k pins) (cycle_of pins d)) (sym (cycle_kind pins d)) ∙ on)

pub cycles_taken : (n pins : ℕ) (d : Device) → cycles n (pins_of d.kind pins) d ≡ cycles n pins d
unfolding cycles
cycles_taken zero pins d = refl
cycles_taken (suc n) pins d = taken_on (cycles n) pins d (cycles_taken n pins (cycle_of pins d))

totals_taken : (n pins : ℕ) (d : Device) → totals n (pins_of d.kind pins) d ≡ totals n pins d
unfolding totals
totals_taken zero pins d = refl
totals_taken (suc n) pins d =
    ap (λ (t : Totals). added t (totals n (pins_of d.kind pins) (cycle_of (pins_of d.kind pins) d))) (next_taken pins d)
    ∙ ap (added (totals_next pins d)) (taken_on (totals n) pins d (totals_taken n pins (cycle_of pins d)))

busy_taken : (pins : ℕ) (d : Device) → busy (pins_of d.kind pins) d ≡ busy pins d
unfolding busy overflows
busy_taken pins d =
    λ i. not (powered_down d.pcon)
    && ((overflowed (overflows_of (counted d (pins_twice d.kind pins i))) || working d)
    || (working (cycle_taken pins d i) || not (same (watched d) (watched (cycle_taken pins d i)))))

marks_taken : (n pins : ℕ) (d : Device) → marks n (pins_of d.kind pins) d ≡ marks n pins d
unfolding marks
marks_taken zero pins d = refl
marks_taken (suc n) pins d =
    λ i. busy_taken pins d i ∷ taken_on (marks n) pins d (marks_taken n pins (cycle_of pins d)) i

-- what is called with a pin byte as the kind takes it promises the same of the one that is given
module _ (pins : ℕ) (d : Device) {l : ℕ} (e : l ≡ pins_of d.kind pins) where
  pub ready_taken : accepted d ≡ true → Ready l d
  ready_taken a = record { good = a; taken = ap (pins_of d.kind) e ∙ (pins_twice d.kind pins ∙ sym e) }

  pub run_taken : (n : ℕ) {u : Device} → u ≡ cycles n l d → u ≡ cycles n pins d
  run_taken n c = c ∙ (ap (λ (p : ℕ). cycles n p d) e ∙ cycles_taken n pins d)

  pub laps_taken : (n : ℕ) (sum : Totals) {t : Totals} → t ≡ added sum (totals n l d) → t ≡ added sum (totals n pins d)
  laps_taken n sum c = c ∙ ap (added sum) (ap (λ (p : ℕ). totals n p d) e ∙ totals_taken n pins d)

  pub count_taken : (n : ℕ) {m : ℕ} → m ≡ rounds n l d → m ≡ rounds n pins d
  unfolding rounds
  count_taken n c = c ∙ (ap (λ (p : ℕ). rounds n p d) e ∙ ap (λ (ms : List Bool). rounds_of ms) (marks_taken n pins d))
