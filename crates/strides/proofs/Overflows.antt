-- Where no timer overflows in a cycle, each that counts has room: the counts of a cycle, unit by unit.
use Prim.Native.Nat.{ℕ, zero, suc, ◌+◌, ◌/◌, ◌^◌, ◌≤◌, ◌<◌}
use mathlib.Core.Path.{◌≡◌, refl, sym, ap, ◌∙◌}
use mathlib.Core.Bool.{Bool, true, false, cond, ◌&&◌, not}
use native.Mathlib.Nat.{mod-lt, zero-lt-suc, le-min, le_trans}
use native.Mathlib.Omega.{arith}
use lib.Dec.{eqb}
use Rattle.machine.specs.declared.Timers.{Timers}
use Rattle.machine.specs.declared.Timer2.{Timer2}
use Rattle.machine.specs.declared.Counted16.{Counted16}
use Rattle.machine.specs.declared.Count.{Count}
use Rattle.machine.specs.Bits.{bit}
use Rattle.machine.specs.Registers.{TR2, C/T2}
use Rattle.machine.specs.Counting.{overflow, pair13, pair16, count13, count16, reload8, count8, hold}
use Rattle.machine.specs.Timers.{timer0_mode, timer1_mode, count_in, counts0, counts1, counts_high0, pair0, pair1, high_overflow0, timers_step}
use Rattle.machine.specs.Timer2.{rcap2, count2, count_once, count_times, baud_rate, counts_of2, counted2, captures, baud_step, capture_step, timer2_step}
use Rattle.laws.proofs.Counting.{next_or_up}
use Rattle.strides.specs.Stride.{room_of, left, left_in, moves1, room_timers, moves2, left2, room2}
use Rattle.strides.proofs.Pairs.{no_mode}
use Rattle.strides.proofs.Timers.{high_mode}

-- Timers 0 and 1

-- one count that does not overflow; what mode 3 does is said by the timer
count_left : (mode tl th : ℕ) (three : Count) → (count_in mode three tl th).overflow ≡ 0
    → (eqb mode 0 ≡ false → eqb mode 1 ≡ false → eqb mode 2 ≡ false → three.overflow ≡ 0 → 1 ≤ left 8 tl)
    → 1 ≤ left_in mode tl th
unfolding count_in left_in count13 count16 reload8
count_left mode tl th three = go (eqb mode 0) (eqb mode 1) (eqb mode 2)
  where
    go : (x y z : Bool) → (cond x (count13 tl th) (cond y (count16 tl th) (cond z (reload8 tl th) three))).overflow ≡ 0
        → (x ≡ false → y ≡ false → z ≡ false → three.overflow ≡ 0 → 1 ≤ left 8 tl)
        → 1 ≤ cond x (left 13 (pair13 tl th)) (cond y (left 16 (pair16 tl th)) (left 8 tl))
    go true y z e k = omega arith
    go false true z e k = omega arith
    go false false true e k = omega arith
    go false false false e k = k refl refl refl e

low_left : (counts : Bool) (mode tl th : ℕ)
    → (cond counts (count_in mode (count8 tl th) tl th) (hold tl th)).overflow ≡ 0
    → 1 ≤ room_of counts (left_in mode tl th)
unfolding count8
low_left true mode tl th e = count_left mode tl th (count8 tl th) e (λ x y z k. omega arith)
low_left false mode tl th e = omega arith

one_left : (counts : Bool) (mode tl th : ℕ) → mode < 4 → (three : Bool) → eqb mode 3 ≡ three
    → (cond counts (count_in mode (hold tl th) tl th) (hold tl th)).overflow ≡ 0
    → 1 ≤ room_of (counts && not three) (left_in mode tl th)
one_left true mode tl th f true q e = omega arith
one_left true mode tl th f false q e =
    count_left mode tl th (hold tl th) e
    (λ x y z k. absurd (no_mode mode f x y z q))
one_left false mode tl th f three q e = omega arith

high_left : (high : Bool) (th now : ℕ) → (high ≡ true → now ≡ th) → cond high (overflow 8 now) 0 ≡ 0 → 1 ≤ room_of high (left 8 th)
high_left true th now e h = let q = e refl in omega arith
high_left false th now e h = omega arith

-- in mode 3 Timer 0's count leaves TH0
keeps_high : (counts : Bool) (mode tl th : ℕ) → mode ≡ 3
    → (cond counts (count_in mode (count8 tl th) tl th) (hold tl th)).th ≡ th
unfolding count_in count8 hold
keeps_high counts mode tl th e = ap (λ (n : ℕ). (cond counts (count_in n (count8 tl th) tl th) (hold tl th)).th) e ∙ go counts
  where
    go : (c : Bool) → (cond c (count8 tl th) (hold tl th)).th ≡ th
    go true = refl
    go false = refl

pub timers_room_left : (l : ℕ) (t : Timers) → (timers_step t l).overflow0 ≡ 0 → (timers_step t l).overflow_th0 ≡ 0 → (timers_step t l).overflow1 ≡ 0
    → 1 ≤ room_timers l t
unfolding timers_step room_timers pair0 pair1 high_overflow0 moves1
timers_room_left l t p q r =
    le-min (low_left (counts0 t l) (timer0_mode t) t.tl0 t.th0 p)
    (le-min
    (high_left (counts_high0 t) t.th0 (pair0 t l).th (λ e. keeps_high (counts0 t l) (timer0_mode t) t.tl0 t.th0 (high_mode t e)) q)
    (one_left (counts1 t l) (timer1_mode t) t.tl1 t.th1 (mod-lt (t.tmod / 2 ^ 4) (zero-lt-suc 3)) (eqb (timer1_mode t) 3) refl r))

-- Timer 2

count_times_grow : (n reload : ℕ) (s : Counted16) → s.overflows ≤ (count_times n reload s).overflows
unfolding count_times count_once
count_times_grow zero reload s = omega arith
count_times_grow (suc n) reload s = le_trans (omega arith) (count_times_grow n reload (count_once reload s))

count_once_left : (reload : ℕ) (s : Counted16) → (count_once reload s).overflows ≡ 0 → s.count + 1 < 65536
unfolding count_once
count_once_left reload s e = omega arith

count_once_count : (reload : ℕ) (s : Counted16) → s.count + 1 < 2 ^ 16 → (count_once reload s).count ≡ s.count + 1
unfolding count_once
count_once_count reload s h = next_or_up 16 reload s.count h

-- counts in turn, none of which overflows
count_times_left : (n reload : ℕ) (s : Counted16) → (count_times (suc n) reload s).overflows ≡ 0 → s.count + suc n < 65536
unfolding count_times
count_times_left zero reload s e = count_once_left reload s e
count_times_left (suc n) reload s e =
    let grow = count_times_grow (suc n) reload (count_once reload s) in
    let none : (count_once reload s).overflows ≡ 0 = omega arith in
    let first = count_once_left reload s none in
    let next = count_once_count reload s first in
    let later = count_times_left n reload (count_once reload s) e in
    omega arith

-- as a timer it counts `each` times
counted_left : (each reload : ℕ) (t : Timer2) → eqb (bit C/T2 t.t2con) 0 ≡ true
    → (counted2 (suc each) reload t).overflows ≡ 0 → count2 t + suc each < 65536
unfolding counted2 counts_of2
counted_left each reload t c e =
    count_times_left each reload (record { count = count2 t; overflows = 0 })
    (ap (λ (b : Bool). (count_times (cond b (suc each) (cond (eqb t.due2 1) 1 0)) reload start).overflows) (sym c) ∙ e)
  where
    start : Counted16
    start = record { count = count2 t; overflows = 0 }

pub timer2_room_left : (t : Timer2) (fell : ℕ) → (timer2_step t fell).overflows ≡ 0 → 1 ≤ room2 t
unfolding timer2_step baud_step capture_step moves2 left2
timer2_room_left t fell = go (eqb (bit TR2 t.t2con) 1) (baud_rate t) (eqb (bit C/T2 t.t2con) 0) refl
  where
    go : (run baud timer : Bool) → eqb (bit C/T2 t.t2con) 0 ≡ timer
        → (cond run (cond baud (baud_step t fell) (capture_step t fell)) (record { timer2 = t; overflows = 0; tf2 = 0 })).overflows ≡ 0
        → 1 ≤ room_of (run && timer) (cond baud (left 16 (count2 t) / 6) (left 16 (count2 t)))
    go false baud timer c e = omega arith
    go true baud false c e = omega arith
    go true true true c e = let h = counted_left 5 (rcap2 t) t c e in omega arith
    go true false true c e = let h = counted_left 0 (cond (captures t) 0 (rcap2 t)) t c e in omega arith
