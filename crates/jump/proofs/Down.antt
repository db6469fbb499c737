-- A jump in power-down: its cycles leave the device as it is and bring no overflow, and they are one round, if there are any.
use Prim.Native.Nat.{ℕ, zero, suc}
use mathlib.Core.Path.{◌≡◌, refl, sym, ap, ◌∙◌}
use mathlib.Core.Bool.{Bool, true, false, not}
use mathlib.Core.List.{List, ◌∷◌}
use native.Mathlib.Omega.{arith}
use lib.Dec.{eqb}
use borrow.Author.Tests.{ne_eqb}
use Rattle.std.specs.Int.{from_bool}
use Rattle.machine.specs.declared.Device.{Device}
use Rattle.machine.specs.declared.Totals.{Totals}
use Rattle.machine.specs.Power.{powered_down}
use Rattle.machine.specs.Cycle.{cycle_of}
use Rattle.machine.specs.Totals.{no_totals, added, totals_next, totals}
use Rattle.machine.specs.Rounds.{busy, marks, busy_cycles, quiet_runs, rounds_of, rounds}
use Rattle.laws.proofs.Sleep.{cycle_down}
use Rattle.totals.proofs.Sums.{none_added}

-- a run that has a cycle more is still one
longer : (ms : List Bool) → rounds_of (false ∷ false ∷ ms) ≡ rounds_of (false ∷ ms)
unfolding busy_cycles quiet_runs
longer ms = refl

module _ (pins : ℕ) (d : Device) (down : powered_down d.pcon ≡ true) where
  next_none : totals_next pins d ≡ no_totals
  unfolding totals_next
  next_none = rw down

  pub totals_down : (n : ℕ) → totals n pins d ≡ no_totals
  unfolding totals
  totals_down zero = refl
  totals_down (suc n) =
      ap (λ (t : Totals). added t (totals n pins (cycle_of pins d))) next_none
      ∙ (none_added (totals n pins (cycle_of pins d)) ∙ (ap (totals n pins) (cycle_down d down pins) ∙ totals_down n))

  not_busy : busy pins d ≡ false
  unfolding busy
  not_busy = rw down

  mark_down : (n : ℕ) → marks (suc n) pins d ≡ false ∷ marks n pins d
  unfolding marks
  mark_down n =
      ap (λ (b : Bool). b ∷ marks n pins (cycle_of pins d)) not_busy
      ∙ ap (λ (e : Device). false ∷ marks n pins e) (cycle_down d down pins)

  one_run : (n : ℕ) → rounds_of (marks (suc n) pins d) ≡ 1
  unfolding marks busy_cycles quiet_runs
  one_run zero = ap rounds_of (mark_down zero)
  one_run (suc n) =
      ap rounds_of (mark_down (suc n) ∙ ap (λ (ms : List Bool). false ∷ ms) (mark_down n))
      ∙ (longer (marks n pins d) ∙ (ap rounds_of (sym (mark_down n)) ∙ one_run n))

  pub rounds_down : (n : ℕ) → rounds n pins d ≡ from_bool (not (eqb n 0))
  unfolding rounds marks busy_cycles quiet_runs
  rounds_down zero = refl
  rounds_down (suc n) = one_run n ∙ sym (ap (λ (b : Bool). from_bool (not b)) (ne_eqb (suc n) 0 (λ e. omega arith)))
