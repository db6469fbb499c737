-- Totals of cycles in a row, quiet or not: they add up, a quiet run has none, and no jump has more than six for each of its cycles.
use Prim.Native.Nat.{ℕ, zero, suc, ◌+◌, ◌≤◌}
use mathlib.Core.Path.{◌≡◌, refl, sym, ap, ◌∙◌}
use native.Mathlib.Nat.{zero-add, suc-add}
use native.Mathlib.Omega.{arith}
use Rattle.machine.specs.declared.Totals.{Totals}
use Rattle.machine.specs.declared.Device.{Device}
use Rattle.machine.specs.Power.{powered_down}
use Rattle.machine.specs.Record.{pins_of}
use Rattle.machine.specs.Cycle.{cycle_of, cycles}
use Rattle.machine.specs.Totals.{no_totals, added, by_timer, totals_next, totals, Within}
use Rattle.machine.proofs.Choices.{by_test}
use Rattle.laws.specs.Ranges.{Ranges}
use Rattle.totals.proofs.Sums.{none_added, added_none, added_on}
use Rattle.cycle.proofs.Keeps.{cycle_ranges}
use Rattle.cycle.proofs.Totals.{next_within}
use Rattle.strides.specs.Stride.{room}
use Rattle.strides.proofs.Strides.{up_room, up_rest, overflows_quiet, room_timers_lem, room_timer2, cycle_room}

pub totals_none : (n pins : ℕ) (d : Device) → n ≤ 0 → totals n pins d ≡ no_totals
unfolding totals
totals_none zero pins d h = refl
totals_none (suc n) pins d h = absurd (omega arith)

pub totals_one : (pins : ℕ) (d : Device) → totals 1 pins d ≡ totals_next pins d
unfolding totals
totals_one pins d = added_none (totals_next pins d)

pub totals_add : (m n pins : ℕ) (d : Device) → totals (m + n) pins d ≡ added (totals m pins d) (totals n pins (cycles m pins d))
unfolding totals cycles
totals_add zero n pins d = ap (λ (k : ℕ). totals k pins d) (zero-add n) ∙ sym (none_added (totals n pins d))
totals_add (suc m) n pins d =
    rw suc-add
    (ap (added (totals_next pins d)) (totals_add m n pins (cycle_of pins d))
    ∙ sym (added_on (totals_next pins d) (totals m pins (cycle_of pins d)) (totals n pins (cycles m pins (cycle_of pins d)))))

-- a quiet run
quiet_next : (pins : ℕ) (d : Device) → Ranges d → 1 ≤ room pins d → totals_next pins d ≡ no_totals
unfolding totals_next
quiet_next pins d r h =
    by_test (powered_down d.pcon) (λ down. rw down)
    (λ up.
    let l = pins_of d.kind pins in
    let k = rw (up_room pins d up) at h in
    rw up (ap by_timer (overflows_quiet l d r (up_rest pins d up h) (room_timers_lem 1 l d k) (room_timer2 1 l d k))))

pub quiet_totals : (m pins : ℕ) (d : Device) → Ranges d → m ≤ room pins d → totals m pins d ≡ no_totals
unfolding totals
quiet_totals zero pins d r h = refl
quiet_totals (suc m) pins d r h =
    ap (λ (t : Totals). added t (totals m pins (cycle_of pins d))) (quiet_next pins d r (omega arith))
    ∙ (none_added (totals m pins (cycle_of pins d)) ∙ quiet_totals m pins (cycle_of pins d) (cycle_ranges d r pins) (cycle_room pins d r m h))

-- the most of n cycles
pub totals_within : (n pins : ℕ) (d : Device) → Ranges d → Within n (totals n pins d)
unfolding totals
totals_within zero pins d r = record { timer0 = omega arith; timer1 = omega arith; timer2 = omega arith }
totals_within (suc n) pins d r =
    let one = next_within d r pins in
    let others = totals_within n pins (cycle_of pins d) (cycle_ranges d r pins) in
    record {
      timer0 = omega (arith, one.timer0, others.timer0);
      timer1 = omega (arith, one.timer1, others.timer1);
      timer2 = omega (arith, one.timer2, others.timer2);
    }
