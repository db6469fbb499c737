-- Step 3 keeps Timer 2's registers bytes and its due mark, by the cases of its definition.
use Rattle.std.proofs.Common.{◌≡◌, ℕ, ◌<◌, cond, eqb, arith, lit<}
use Rattle.laws.specs.Ranges.{Timer2Ok}
use Rattle.machine.proofs.Choices.{chosen}
use Rattle.laws.proofs.Bits.{set_lt, flagged_lt}
use Rattle.laws.proofs.Counting.{counts_or_lt, count_times_are}
use Rattle.machine.specs.declared.Timer2.{Timer2}
use Rattle.machine.specs.declared.Timer2Counted.{Timer2Counted}
use Rattle.machine.specs.Bits.{bit, set_bit}
use Rattle.machine.specs.Registers.{TF2, EXF2, TR2}
use Rattle.machine.specs.Timers.{flagged}
use Rattle.machine.specs.Timer2.{rcap2, count2, with_t2con, with_count2, with_rcap2, baud_rate, counts_of2, heeds_t2ex, captures, counted2, baud_step, copied2, capture_step, timer2_step}

-- the counts of a cycle leave 16 bits
counted_below : (each reload : ℕ) (t : Timer2) → reload < 65536 → Timer2Ok t → (counted2 each reload t).count < 65536
unfolding counted2
counted_below each reload t r b =
    let n = counts_of2 each t in
    rw (count_times_are n reload (count2 t) 0) (counts_or_lt n 16 reload (count2 t) r (omega arith))

with_count : (n : ℕ) (t : Timer2) → n < 65536 → Timer2Ok t → Timer2Ok (with_count2 n t)
with_count n t h b =
    record { t2con = b.t2con; rcap2l = b.rcap2l; rcap2h = b.rcap2h; tl2 = omega arith; th2 = omega arith; due2 = b.due2 }

with_rcap : (n : ℕ) (t : Timer2) → n < 65536 → Timer2Ok t → Timer2Ok (with_rcap2 n t)
with_rcap n t h b =
    record { t2con = b.t2con; rcap2l = omega arith; rcap2h = omega arith; tl2 = b.tl2; th2 = b.th2; due2 = b.due2 }

with_t2con_lem : (n : ℕ) (t : Timer2) → n < 256 → Timer2Ok t → Timer2Ok (with_t2con n t)
with_t2con_lem n t h b = record { t2con = h; rcap2l = b.rcap2l; rcap2h = b.rcap2h; tl2 = b.tl2; th2 = b.th2; due2 = b.due2 }

baud_kept : (t : Timer2) (fell : ℕ) → Timer2Ok t → Timer2Ok (baud_step t fell).timer2
unfolding baud_step
baud_kept t fell b =
    with_t2con_lem _ _ (flagged_lt 8 EXF2 (cond (heeds_t2ex t fell) 1 0) t.t2con (lit< tt) b.t2con)
    (with_count _ t (counted_below 6 (rcap2 t) t (omega arith) b) b)

-- T2EX's copy
copied : (t : Timer2) → Timer2Ok t → Timer2Ok (copied2 t)
unfolding copied2
copied t b =
    chosen Timer2Ok (captures t) _ _ (with_rcap (count2 t) t (omega arith) b) (with_count (rcap2 t) t (omega arith) b)

capture_kept : (t : Timer2) (fell : ℕ) → Timer2Ok t → Timer2Ok (capture_step t fell).timer2
unfolding capture_step
capture_kept t fell b =
    let reload = cond (captures t) 0 (rcap2 t) in
    let below = counted_below 1 reload t (chosen (λ (n : ℕ). n < 65536) (captures t) 0 (rcap2 t) (lit< tt) (omega arith)) b in
    let s = counted2 1 reload t in
    let x = flagged TF2 s.overflows t.t2con in
    let k : x < 256 = flagged_lt 8 TF2 s.overflows t.t2con (lit< tt) b.t2con in
    let u = with_t2con x (with_count2 s.count t) in
    let ub : Timer2Ok u = with_t2con_lem x _ k (with_count s.count t below b) in
    let v = with_t2con (set_bit EXF2 x) u in
    let c = copied v (with_t2con_lem (set_bit EXF2 x) u (set_lt 8 EXF2 x (lit< tt) k) ub) in
    chosen Timer2Ok (heeds_t2ex t fell) (copied2 v) u c ub

abbrev Kept : Timer2Counted → Type 0
Kept r = Timer2Ok r.timer2

pub step_kept : (t : Timer2) (fell : ℕ) → Timer2Ok t → Timer2Ok (timer2_step t fell).timer2
unfolding timer2_step
step_kept t fell b =
    chosen Kept (eqb (bit TR2 t.t2con) 1) _ _
    (chosen Kept (baud_rate t) (baud_step t fell) (capture_step t fell) (baud_kept t fell b) (capture_kept t fell b))
    b

-- with T2CON 0, as kind 51 has it, Timer 2 stands still
pub step_still : (t : Timer2) (fell : ℕ) → t.t2con ≡ 0 → timer2_step t fell ≡ record { timer2 = t; overflows = 0; tf2 = 0 }
unfolding timer2_step
step_still t fell e = simp e
