-- How often the timers overflow in a cycle: what its steps say, and at most so often, by the ranges of their registers.
use Rattle.std.proofs.Common.{◌≡◌, ℕ, false, arith, lit≤}
use Rattle.machine.specs.declared.Device.{Device}
use Rattle.machine.specs.Registers.{T2EX}
use Rattle.machine.specs.Power.{powered_down}
use Rattle.machine.specs.Record.{pins_of}
use Rattle.machine.specs.Cycle.{falls, counted, overflows_of}
use Rattle.machine.specs.Totals.{no_totals, by_timer, totals_next, Within}
use Rattle.machine.proofs.Choices.{chosen}
use Rattle.machine.proofs.Overflowing.{timer0_once, timer1_once, timer2_few}
use Rattle.laws.specs.Ranges.{Ranges}
use Rattle.timers.proofs.Ranges.{high_once}

module _ (d : Device) (r : Ranges d) where
  pub counted_within : (l : ℕ) → Within 1 (by_timer (overflows_of (counted d l)))
  unfolding counted
  counted_within l =
      let low = timer0_once d.timers l r.timers.tl0 r.timers.th0 in
      let high = high_once d.timers r.timers l in
      let u = r.timer2 in
      record {
        timer0 = omega arith;
        timer1 = timer1_once d.timers l r.timers.tl1 r.timers.th1;
        timer2 =
            timer2_few d.timer2 (omega (arith, u.tl2, u.th2)) (falls d.levels l T2EX) (omega (arith, u.rcap2l, u.rcap2h));
      }

  pub next_within : (pins : ℕ) → Within 1 (totals_next pins d)
  unfolding totals_next
  next_within pins =
      chosen (Within 1) (powered_down d.pcon) no_totals _ (record { timer0 = lit≤ tt; timer1 = lit≤ tt; timer2 = lit≤ tt })
      (counted_within (pins_of d.kind pins))

-- out of power-down
pub totals_up : (pins : ℕ) (d : Device) → powered_down d.pcon ≡ false
    → totals_next pins d ≡ by_timer (overflows_of (counted d (pins_of d.kind pins)))
unfolding totals_next
totals_up pins d f = rw f
