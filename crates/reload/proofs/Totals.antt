-- Totals where Timer 1's reload is all that happens: no timer overflows but Timer 1, and its n cycles are n counts over the stretch, of
-- 8 bits with the reload TH1. By induction on the cycles.
use Rattle.std.proofs.Common.{◌≡◌, ℕ, zero, suc, ◌+◌, ◌<◌, true, eqb, sym, refl, ap, ◌∙◌, arith, eqb-true}
use borrow.Author.Tests.{eqb-false}
use Rattle.machine.specs.declared.Device.{Device}
use Rattle.machine.specs.Registers.{T2EX}
use Rattle.machine.specs.Record.{pins_of}
use Rattle.machine.specs.Counting.{overflow, next_or, reload8, hold}
use Rattle.machine.specs.Timers.{count_in, pair0, high_overflow0, pair1, timers_step}
use Rattle.machine.specs.Cycle.{falls, counted, cycle_of}
use Rattle.machine.specs.Totals.{added, totals_next, totals}
use Rattle.machine.proofs.Choices.{by_test}
use Rattle.machine.proofs.Counting.{next_or_lt}
use Rattle.laws.specs.Counting.{counts_or, overflows_or}
use Rattle.laws.specs.Ranges.{Ranges}
use Rattle.laws.proofs.Counting.{next_or_up, next_or_over}
use Rattle.cycle.proofs.Keeps.{cycle_ranges}
use Rattle.stretch.specs.Stretch.{lapped}
use Rattle.reload.specs.Reload.{Idling, idles_at, clocking_of, idling_of, reloaded, raised, idle_cycle, idle_cycles, put_idling, idle_totals}
use Rattle.reload.specs.declared.Clocking.{Clocking}
use Rattle.reload.proofs.Alone.{Idle, idles_idle}
use Rattle.reload.proofs.Step.{stopped}
use Rattle.reload.proofs.Runs.{next, cycle_next, cycle_idle}

-- One cycle

-- TL1 makes one count of 8 bits that is reloaded from TH1
counts_once : (k : Clocking) (x : Idling) → x.tl1 < 256 → (idle_cycle k x).tl1 ≡ next_or 8 x.th1 x.tl1
unfolding idle_cycle reloaded raised
counts_once k x h =
    by_test (eqb x.tl1 255)
    (λ e. rw e (sym (next_or_over 8 x.th1 x.tl1 (omega (arith, eqb-true x.tl1 255 e)))))
    (λ e. rw e (sym (next_or_up 8 x.th1 x.tl1 (omega (arith, eqb-false x.tl1 255 e)))))

keeps_reload : (k : Clocking) (x : Idling) → (idle_cycle k x).th1 ≡ x.th1
unfolding idle_cycle reloaded raised
keeps_reload k x = by_test (eqb x.tl1 255) (λ e. rw e) (λ e. rw e)

module _ (pins : ℕ) (d : Device) (r : Ranges d) (f : Idle (pins_of d.kind pins) d) where
  next_totals : totals_next pins d ≡ record { timer0 = 0; timer1 = overflow 8 d.timers.tl1; timer2 = 0 }
  unfolding totals_next counted timers_step pair0 pair1 count_in high_overflow0 hold reload8
  next_totals =
      let a = f.alone in
      let l = pins_of d.kind pins in
      rw (f.rest.awake, stopped d.timer2 (falls d.levels l T2EX) f.stops) (simp (a.low, a.high, a.counts, a.reloads))

  next_count : (cycle_of pins d).timers.tl1 ≡ next_or 8 d.timers.th1 d.timers.tl1
  unfolding next put_idling
  next_count = ap (λ (e : Device). e.timers.tl1) (cycle_next pins d r f) ∙ counts_once _ (idling_of d) r.timers.tl1

  next_reload : (cycle_of pins d).timers.th1 ≡ d.timers.th1
  unfolding next put_idling
  next_reload = ap (λ (e : Device). e.timers.th1) (cycle_next pins d r f) ∙ keeps_reload _ (idling_of d)

-- n cycles
idle_laps : (n pins : ℕ) (d : Device) → Ranges d → Idle (pins_of d.kind pins) d → totals n pins d ≡ idle_totals n d.timers
unfolding totals idle_totals overflows_or
idle_laps zero pins d r f = refl
idle_laps (suc n) pins d r f =
    let others = idle_laps n pins (cycle_of pins d) (cycle_ranges d r pins) (cycle_idle pins d r f) in
    (λ i. added (next_totals pins d r f i) (others i))
    ∙ (λ i. record {
      timer0 = 0;
      timer1 = overflow 8 d.timers.tl1 + overflows_or n 8 (next_reload pins d r f i) (next_count pins d r f i);
      timer2 = 0;
    })

idle_counts : (n : ℕ) (k : Clocking) (x : Idling) → x.tl1 < 256 → x.th1 < 256 → (idle_cycles n k x).tl1 ≡ counts_or n 8 x.th1 x.tl1
unfolding idle_cycles counts_or
idle_counts zero k x h l = refl
idle_counts (suc n) k x h l =
    idle_counts n k (idle_cycle k x) (omega (arith, counts_once k x h, next_or_lt 8 x.th1 x.tl1 l)) (omega (arith, keeps_reload k x))
    ∙ (λ i. counts_or n 8 (keeps_reload k x i) (counts_once k x h i))

module _ (n pins : ℕ) (d : Device) (r : Ranges d) (e : idles_at (pins_of d.kind pins) d ≡ true) where
  -- the totals of n cycles of a device that idles
  pub idle_totals_lem : totals n pins d ≡ idle_totals n d.timers
  idle_totals_lem = idle_laps n pins d r (idles_idle (pins_of d.kind pins) d e)

  -- Timer 1 counted over the stretch: TL1 as the rounds leave it, and Timer 1's total
  pub idle_stretch : lapped n 8 d.timers.th1 d.timers.tl1
      ≡ record { count = (idle_cycles n (clocking_of (pins_of d.kind pins) d) (idling_of d)).tl1; overflows = (totals n pins d).timer1 }
  unfolding idle_totals
  idle_stretch =
      λ i. record {
        count = sym (idle_counts n (clocking_of (pins_of d.kind pins) d) (idling_of d) r.timers.tl1 r.timers.th1) i;
        overflows = (sym idle_totals_lem i).timer1;
      }
