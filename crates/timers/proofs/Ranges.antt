-- Step 2 keeps ranges: registers that are bytes stay bytes, TMOD and the due marks stay, by cases on what counts; and TH0 in mode 3
-- overflows at most once.
use Rattle.std.proofs.Common.{ℕ, ◌<◌, ◌≤◌, cond, eqb, arith, lit≤}
use Rattle.laws.specs.Ranges.{TimersOk}
use Rattle.machine.proofs.Choices.{chosen}
use Rattle.machine.proofs.Counting.{next_lt, next_or_lt, overflow_le}
use Rattle.laws.proofs.Bits.{flagged_lt}
use Rattle.machine.specs.Counting.{count13, count16, reload8, count8, hold}
use Rattle.machine.specs.Timers.{timer0_mode, timer1_mode, count_in, flagged, counts0, counts1, counts_high0, pair0, high0, high_overflow0, pair1, timer_flags, timers_step}
use Rattle.machine.specs.declared.Count.{Count}
use Rattle.machine.specs.declared.Timers.{Timers}

-- a register pair after a count
record Counted (n : Count) : Type 0 where
  tl : n.tl < 256
  th : n.th < 256

module _ (tl th : ℕ) (l : tl < 256) (h : th < 256) where
  holding : Counted (hold tl th)
  unfolding hold
  holding = record { tl = l; th = h }

  counting8 : Counted (count8 tl th)
  unfolding count8
  counting8 = record { tl = next_lt 8 tl; th = h }

  counting13 : Counted (count13 tl th)
  unfolding count13
  counting13 = record { tl = omega arith; th = omega arith }

  counting16 : Counted (count16 tl th)
  unfolding count16
  counting16 = record { tl = omega arith; th = omega arith }

  reloading : Counted (reload8 tl th)
  unfolding reload8
  reloading = record { tl = next_or_lt 8 th tl h; th = h }

  counting : (mode : ℕ) (three : Count) → Counted three → Counted (count_in mode three tl th)
  unfolding count_in
  counting mode three p =
      chosen Counted (eqb mode 0) _ _ counting13
      (chosen Counted (eqb mode 1) _ _ counting16 (chosen Counted (eqb mode 2) _ _ reloading p))

module _ (t : Timers) (b : TimersOk t) where
  pair0_counted : (pins : ℕ) → Counted (pair0 t pins)
  unfolding pair0
  pair0_counted pins =
      let tl = t.tl0 in
      let th = t.th0 in
      chosen Counted (counts0 t pins) _ _
      (counting tl th b.tl0 b.th0 (timer0_mode t) (count8 tl th) (counting8 tl th b.tl0 b.th0))
      (holding tl th b.tl0 b.th0)

  pair1_counted : (pins : ℕ) → Counted (pair1 t pins)
  unfolding pair1
  pair1_counted pins =
      let tl = t.tl1 in
      let th = t.th1 in
      let held = holding tl th b.tl1 b.th1 in
      chosen Counted (counts1 t pins) _ _ (counting tl th b.tl1 b.th1 (timer1_mode t) (hold tl th) held) held

  high_below : (th : ℕ) → th < 256 → high0 t th < 256
  unfolding high0
  high_below th h = chosen (λ (n : ℕ). n < 256) (counts_high0 t) _ _ (next_lt 8 th) h

  flags_below : (low high one : ℕ) → timer_flags t low high one < 256
  unfolding timer_flags
  flags_below low high one =
      flagged_lt 8 7 (cond (eqb (timer0_mode t) 3) high one) (flagged 5 low t.tcon) (omega arith)
      (flagged_lt 8 5 low t.tcon (omega arith) b.tcon)

  pub step_kept : (pins : ℕ) → TimersOk (timers_step t pins).timers
  unfolding timers_step
  step_kept pins =
      let low = pair0_counted pins in
      let one = pair1_counted pins in
      record {
        tcon = flags_below (pair0 t pins).overflow (high_overflow0 t (pair0 t pins).th) (pair1 t pins).overflow;
        tmod = b.tmod;
        tl0 = low.tl;
        tl1 = one.tl;
        th0 = high_below (pair0 t pins).th low.th;
        th1 = one.th;
        due0 = b.due0;
        due1 = b.due1;
      }

  pub high_once : (pins : ℕ) → (timers_step t pins).overflow_th0 ≤ 1
  unfolding timers_step high_overflow0
  high_once pins =
      chosen (λ (n : ℕ). n ≤ 1) (counts_high0 t) _ 0 (overflow_le 8 (pair0 t pins).th (pair0_counted pins).th) (lit≤ tt)
