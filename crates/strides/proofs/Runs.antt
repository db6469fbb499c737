-- Cycles in a row, quiet or not: n cycles taken apart, and what they keep.
use Prim.Native.Nat.{ℕ, zero, suc, ◌+◌, ◌-◌, ◌%◌, ◌^◌, ◌≤◌, ◌<◌}
use mathlib.Core.Path.{◌≡◌, refl, sym, ap, ◌∙◌}
use native.Mathlib.Nat.{zero-add, suc-add, add-zero, add-sub_of_le, mod-add-mod, mod-eq_of_lt}
use native.Mathlib.Omega.{arith}
use Rattle.machine.specs.declared.Device.{Device}
use Rattle.machine.specs.Power.{powered_down}
use Rattle.machine.specs.Cycle.{steps, cycle_of, cycles}
use Rattle.machine.proofs.Choices.{chosen}
use Rattle.laws.specs.Ranges.{Ranges}
use Rattle.cycle.proofs.Keeps.{cycle_ranges}

pub cycles_add : (m n pins : ℕ) (d : Device) → cycles (m + n) pins d ≡ cycles n pins (cycles m pins d)
unfolding cycles
cycles_add zero n pins d = rw zero-add
cycles_add (suc m) n pins d = rw suc-add (cycles_add m n pins (cycle_of pins d))

pub cycles_one : (pins : ℕ) (d : Device) → cycles 1 pins d ≡ cycle_of pins d
unfolding cycles
cycles_one pins d = refl

pub cycles_none : (n pins : ℕ) (d : Device) → n ≤ 0 → cycles n pins d ≡ d
unfolding cycles
cycles_none zero pins d h = refl
cycles_none (suc n) pins d h = absurd (omega arith)

-- the pass that goes on from a stretch that was crossed, of a jump of n
pub crossed_on : {m n : ℕ} (pins : ℕ) (d : Device) {u v : Device} → m ≤ n → u ≡ cycles m pins d → cycles n pins d ≡ v
    → cycles (n - m) pins u ≡ v
crossed_on {m} {n} pins d h e i =
    ap (cycles (n - m) pins) e ∙ (sym (cycles_add m (n - m) pins d) ∙ (ap (λ (k : ℕ). cycles k pins d) (add-sub_of_le h) ∙ i))

-- the kind stays, and so do the pins that it takes
pub cycle_kind : (pins : ℕ) (d : Device) → (cycle_of pins d).kind ≡ d.kind
unfolding cycle_of steps
cycle_kind pins d = chosen (λ (e : Device). e.kind ≡ d.kind) (powered_down d.pcon) d _ refl refl

pub cycles_kind : (n pins : ℕ) (d : Device) → (cycles n pins d).kind ≡ d.kind
unfolding cycles
cycles_kind zero pins d = refl
cycles_kind (suc n) pins d = cycles_kind n pins (cycle_of pins d) ∙ cycle_kind pins d

-- the cycle number after none, and after m more than one
pub number_none : (c : ℕ) → c < 2 ^ 64 → (c + 0) % 2 ^ 64 ≡ c
number_none c h = ap (λ (n : ℕ). n % 2 ^ 64) (add-zero c) ∙ mod-eq_of_lt h

pub number_more : (m c : ℕ) → ((c + 1) % 2 ^ 64 + m) % 2 ^ 64 ≡ (c + suc m) % 2 ^ 64
number_more m c =
    let one : c + 1 + m ≡ c + suc m = omega arith in
    mod-add-mod (c + 1) (2 ^ 64) m ∙ ap (λ (n : ℕ). n % 2 ^ 64) one

-- the fields stay within their ranges
pub cycles_ranges : (n pins : ℕ) (d : Device) → Ranges d → Ranges (cycles n pins d)
unfolding cycles
cycles_ranges zero pins d r = r
cycles_ranges (suc n) pins d r = cycles_ranges n pins (cycle_of pins d) (cycle_ranges d r pins)
