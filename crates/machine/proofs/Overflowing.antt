-- Where the registers are bytes, a cycle brings at most one overflow of Timer 0 (TL0 in mode 3) and of Timer 1, and at most six of Timer 2:
-- by the cases of steps 2 and 3, each count overflowing at most once.
use mathlib.Core.Bool.{Bool, cond}
use Prim.Native.Nat.{ℕ, zero, suc, ◌+◌, ◌<◌, ◌≤◌}
use native.Mathlib.Nat.{le_trans}
use native.Mathlib.Omega.{arith}
use lib.Dec.{eqb, lit<, lit≤}
use Rattle.machine.specs.declared.Count.{Count}
use Rattle.machine.specs.declared.Counted16.{Counted16}
use Rattle.machine.specs.declared.Timers.{Timers}
use Rattle.machine.specs.declared.Timer2.{Timer2}
use Rattle.machine.specs.declared.Timer2Counted.{Timer2Counted}
use Rattle.machine.specs.Bits.{bit}
use Rattle.machine.specs.Registers.{C/T2, TR2}
use Rattle.machine.specs.Counting.{pair13, pair16, count13, count16, reload8, count8, hold}
use Rattle.machine.specs.Timers.{timer0_mode, timer1_mode, count_in, counts0, counts1, pair0, pair1, timers_step}
use Rattle.machine.specs.Timer2.{rcap2, count2, count_once, count_times, baud_rate, counts_of2, captures, counted2, baud_step, capture_step, timer2_step}
use Rattle.machine.proofs.Choices.{chosen}
use Rattle.machine.proofs.Counting.{next_or_lt, overflow_le}

-- Timers 0 and 1: one count, or none

abbrev Once : Count → Type 0
Once n = n.overflow ≤ 1

counts_once : (mode tl th : ℕ) (three : Count) → tl < 256 → th < 256 → Once three → Once (count_in mode three tl th)
unfolding count_in count13 count16 reload8
counts_once mode tl th three l h o =
    chosen Once (eqb mode 0) (count13 tl th) _ (overflow_le 13 (pair13 tl th) (omega arith))
    (chosen Once (eqb mode 1) (count16 tl th) _ (overflow_le 16 (pair16 tl th) (omega arith))
    (chosen Once (eqb mode 2) (reload8 tl th) three (overflow_le 8 tl l) o))

-- where it counts in this cycle, or not
once : (counts : Bool) (mode tl th : ℕ) (three : Count) → tl < 256 → th < 256 → Once three
    → Once (cond counts (count_in mode three tl th) (hold tl th))
unfolding hold
once counts mode tl th three l h o =
    chosen Once counts (count_in mode three tl th) (hold tl th) (counts_once mode tl th three l h o) (lit≤ tt)

pub timer1_once : (t : Timers) (pins : ℕ) → t.tl1 < 256 → t.th1 < 256 → (timers_step t pins).overflow1 ≤ 1
unfolding timers_step pair1 hold
timer1_once t pins l h = once (counts1 t pins) (timer1_mode t) t.tl1 t.th1 (hold t.tl1 t.th1) l h (lit≤ tt)

pub timer0_once : (t : Timers) (pins : ℕ) → t.tl0 < 256 → t.th0 < 256 → (timers_step t pins).overflow0 ≤ 1
unfolding timers_step pair0 count8
timer0_once t pins l h = once (counts0 t pins) (timer0_mode t) t.tl0 t.th0 (count8 t.tl0 t.th0) l h (overflow_le 8 t.tl0 l)

-- Timer 2: as many counts in turn as its mode has, each of 16 bits

times_few : (n reload : ℕ) (s : Counted16) → reload < 65536 → s.count < 65536
    → (count_times n reload s).overflows ≤ s.overflows + n
unfolding count_times count_once
times_few zero reload s r h = omega arith
times_few (suc n) reload s r h =
    omega (arith, overflow_le 16 s.count h, times_few n reload (count_once reload s) r (next_or_lt 16 reload s.count r))

counts_few : (each : ℕ) (t : Timer2) → 1 ≤ each → counts_of2 each t ≤ each
unfolding counts_of2
counts_few each t h =
    chosen (λ (n : ℕ). n ≤ each) (eqb (bit C/T2 t.t2con) 0) each _ (omega arith)
    (chosen (λ (n : ℕ). n ≤ each) (eqb t.due2 1) 1 0 h (omega arith))

module _ (t : Timer2) (count : count2 t < 65536) where
  counted_few : (each reload : ℕ) → 1 ≤ each → reload < 65536 → (counted2 each reload t).overflows ≤ each
  unfolding counted2
  counted_few each reload h r =
      omega (arith, times_few (counts_of2 each t) reload (record { count = count2 t; overflows = 0 }) r count, counts_few each t h)

  pub timer2_few : (fell : ℕ) → rcap2 t < 65536 → (timer2_step t fell).overflows ≤ 6
  unfolding timer2_step baud_step capture_step
  timer2_few fell r =
      let Few : Timer2Counted → Type 0 = λ s. s.overflows ≤ 6 in
      let reload = cond (captures t) 0 (rcap2 t) in
      let below = chosen (λ (n : ℕ). n < 65536) (captures t) 0 (rcap2 t) (lit< tt) r in
      chosen Few (eqb (bit TR2 t.t2con) 1) _ _
      (chosen Few (baud_rate t) (baud_step t fell) (capture_step t fell) (le_trans (counted_few _ (rcap2 t) (lit≤ tt) r) (lit≤ tt))
      (le_trans (counted_few _ reload (lit≤ tt) below) (lit≤ tt)))
      (lit≤ tt)
