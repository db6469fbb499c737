-- Looks by strides, for a look ahead and a wake look alike: no cycle of a silent stretch is found, so the first that is found after it is
-- the first of all.
use Prim.Native.Nat.{ℕ, zero, suc, ◌+◌, ◌-◌, ◌≤◌, ◌<◌}
use mathlib.Core.Path.{◌≡◌, refl, sym, ap, ◌∙◌, subst}
use mathlib.Core.Bool.{Bool, true, false}
use native.Mathlib.Nat.{zero-add, suc-add, add-zero}
use native.Mathlib.Numerals.{add-one}
use native.Mathlib.Omega.{arith}
use Rattle.machine.specs.declared.Device.{Device}
use Rattle.machine.specs.Answers.{LookAnswer}
use Rattle.machine.specs.Answers.LookAnswer.{At, Nothing}
use Rattle.machine.specs.Record.{pins_of}
use Rattle.machine.specs.Flags.{flags, any_rises}
use Rattle.machine.specs.Cycle.{cycle_of, cycles}
use Rattle.machine.specs.Calls.{first_cycle, rises, offers_to, wakes}
use Rattle.laws.specs.Ranges.{Ranges}
use Rattle.laws.proofs.Flags.{none_rises}
use Rattle.cycle.proofs.Keeps.{cycle_ranges}
use Rattle.strides.specs.Stride.{room}
use Rattle.strides.proofs.Runs.{cycles_one}
use Rattle.strides.proofs.Strides.{cycle_room}
use Rattle.strides.proofs.Silent.{Silent, quiet_silent}
use Rattle.looks.specs.Tests.{FlagTest, Still}
use Rattle.reload.proofs.Alone.{Idle}
use Rattle.reload.proofs.Runs.{cycle_idle, cycle_silent}

-- The tests of the two looks

-- a test that finds nothing in a silent stretch from a device of which P holds; where it finds nothing, P holds again
pub record Hears (finds : Device → Device → Bool) (P : Device → Type 0) : Type 0 where
  pub silence : (d e : Device) → Silent d e → P d → finds d e ≡ false
  pub goes_on : (d e : Device) → finds d e ≡ false → P e

-- a look ahead, from any device
abbrev pub Any : Device → Type 0
Any d = Unit {0}

pub hears_rises : Hears rises Any
hears_rises =
    record {
      silence = λ d e s p. ap (any_rises (flags d)) s.flags ∙ none_rises (flags d);
      goes_on = λ d e f. tt;
    }

-- a wake look, from a device that is offered nothing
abbrev pub Asleep : Device → Type 0
Asleep d = offers_to d ≡ false

pub hears_wakes : Hears wakes Asleep
hears_wakes = record { silence = λ d e s p. s.offers ∙ p; goes_on = λ d e f. f }

-- a test that reads no more than the flags and what is offered, from a device of which it finds nothing yet
pub of_test : {finds : Device → Device → Bool} → FlagTest finds → Hears finds (Still finds)
of_test t = record { silence = λ d e s p. t.stays d e s.flags s.offers ∙ p; goes_on = t.goes_on }

pub rises_test : FlagTest rises
rises_test =
    record {
      stays = λ d e same still. ap (any_rises (flags d)) same;
      goes_on = λ d e f. none_rises (flags e);
    }

-- The next cycle

module _ (finds : Device → Device → Bool) where
  find_none : (k n pins : ℕ) (d : Device) → n ≤ 0 → first_cycle finds k n pins d ≡ Nothing
  unfolding first_cycle
  find_none k zero pins d h = refl
  find_none k (suc n) pins d h = absurd (omega arith)

  find_here : (k n pins : ℕ) (d : Device) → 0 < n → finds d (cycle_of pins d) ≡ true → first_cycle finds k n pins d ≡ At (k + 1)
  unfolding first_cycle
  find_here k zero pins d h e = absurd (omega arith)
  find_here k (suc n) pins d h e = simp (e, add-one)

  find_later : (k n pins : ℕ) (d : Device) → k < n → finds d (cycle_of pins d) ≡ false
      → first_cycle finds k (n - k) pins d ≡ first_cycle finds (k + 1) (n - (k + 1)) pins (cycle_of pins d)
  unfolding first_cycle
  find_later k n pins d h e = go (n - k) (n - (k + 1)) (omega arith)
    where
      go : (a b : ℕ) → a ≡ suc b → first_cycle finds k a pins d ≡ first_cycle finds (k + 1) b pins (cycle_of pins d)
      go a b q = simp (q, e, add-one)

-- Silent stretches

module _ {finds : Device → Device → Bool} {P : Device → Type 0} (hears : Hears finds P) where
  quiet_once : (pins : ℕ) (d : Device) → Ranges d → P d → 1 ≤ room pins d → finds d (cycle_of pins d) ≡ false
  quiet_once pins d r p h = hears.silence d (cycle_of pins d) (subst (Silent d) (cycles_one pins d) (quiet_silent 1 pins d r h)) p

  find_add : (m n k pins : ℕ) (d : Device) → Ranges d → P d → m ≤ room pins d
      → first_cycle finds k (m + n) pins d ≡ first_cycle finds (k + m) n pins (cycles m pins d)
  unfolding first_cycle cycles
  find_add zero n k pins d r p h = simp (zero-add, add-zero)
  find_add (suc m) n k pins d r p h =
      let none = quiet_once pins d r p (omega arith) in
      rw (suc-add, none)
      (find_add m n (suc k) pins (cycle_of pins d) (cycle_ranges d r pins) (hears.goes_on d (cycle_of pins d) none) (cycle_room pins d r m h)
      ∙ ap (λ (j : ℕ). first_cycle finds j n pins (cycles m pins (cycle_of pins d))) (omega arith))

  -- no cycle of a quiet run is found
  pub find_quiet : (m k pins : ℕ) (d : Device) → Ranges d → P d → m ≤ room pins d → first_cycle finds k m pins d ≡ Nothing
  find_quiet m k pins d r p h =
      ap (λ (n : ℕ). first_cycle finds k n pins d) (omega arith)
      ∙ (find_add m 0 k pins d r p h ∙ find_none finds (k + m) 0 pins (cycles m pins d) (omega arith))

  find_stride : (m n k pins : ℕ) (d : Device) → Ranges d → P d → m ≤ room pins d → k + m ≤ n
      → first_cycle finds k (n - k) pins d ≡ first_cycle finds (k + m) (n - (k + m)) pins (cycles m pins d)
  find_stride m n k pins d r p h w =
      ap (λ (j : ℕ). first_cycle finds k j pins d) (omega arith) ∙ find_add m (n - (k + m)) k pins d r p h

  -- and none where Timer 1's reload is all that happens
  pub find_idle : (k n pins : ℕ) (d : Device) → Ranges d → P d → Idle (pins_of d.kind pins) d → first_cycle finds k n pins d ≡ Nothing
  unfolding first_cycle
  find_idle k zero pins d r p f = refl
  find_idle k (suc n) pins d r p f =
      let none = hears.silence d (cycle_of pins d) (cycle_silent pins d r f) p in
      rw none
      (find_idle (suc k) n pins (cycle_of pins d) (cycle_ranges d r pins) (hears.goes_on d (cycle_of pins d) none) (cycle_idle pins d r f))

-- The invariant of a loop that looks, `first_cycle finds k (n - k) pins d ≡ v`, at each of its ways on
module _ (finds : Device → Device → Bool) (k n pins : ℕ) (d : Device) {v : LookAnswer} (inv : first_cycle finds k (n - k) pins d ≡ v) where
  pub on_here : {u : Device} → k < n → u ≡ cycle_of pins d → finds d u ≡ true → At (k + 1) ≡ v
  on_here h e r = sym (find_here finds k (n - k) pins d (omega arith) (sym (ap (finds d) e) ∙ r)) ∙ inv

  pub on_one : {u : Device} → k < n → u ≡ cycle_of pins d → finds d u ≡ false → first_cycle finds (k + 1) (n - (k + 1)) pins u ≡ v
  on_one h e r =
      ap (first_cycle finds (k + 1) (n - (k + 1)) pins) e ∙ (sym (find_later finds k n pins d h (sym (ap (finds d) e) ∙ r)) ∙ inv)

  pub on_stride : {P : Device → Type 0} → Hears finds P → (m : ℕ) {u : Device} → Ranges d → P d → m ≤ room pins d → k + m ≤ n
      → u ≡ cycles m pins d → first_cycle finds (k + m) (n - (k + m)) pins u ≡ v
  on_stride hears m r p h w e = ap (first_cycle finds (k + m) (n - (k + m)) pins) e ∙ (sym (find_stride hears m n k pins d r p h w) ∙ inv)

  pub on_none : n ≤ k → Nothing ≡ v
  on_none h = sym (find_none finds k (n - k) pins d (omega arith)) ∙ inv
