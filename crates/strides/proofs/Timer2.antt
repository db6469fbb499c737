-- Timer 2: a quiet cycle is a stride of 1, strides add up, and the room shrinks with them; counts in turn are one move.
use Prim.Native.Nat.{ℕ, suc, ◌+◌, ◌-◌, ◌*◌, ◌/◌, ◌%◌, ◌^◌, ◌≤◌, ◌<◌}
use mathlib.Core.Path.{◌≡◌, refl, sym, ap, ◌∙◌}
use mathlib.Core.Bool.{Bool, true, false, cond, ◌&&◌}
use native.Mathlib.Nat.{zero-add, add-zero}
use native.Mathlib.Omega.{arith}
use lib.Dec.{eqb}
use Rattle.machine.specs.declared.Timer2.{Timer2}
use Rattle.machine.specs.declared.Timer2Counted.{Timer2Counted}
use Rattle.machine.specs.declared.Counted16.{Counted16}
use Rattle.machine.specs.Bits.{bit}
use Rattle.machine.specs.Registers.{TF2, TR2, C/T2}
use Rattle.machine.specs.Timers.{flagged}
use Rattle.machine.specs.Timer2.{rcap2, count2, with_t2con, with_count2, count_times, baud_rate, counts_of2, heeds_t2ex, captures, counted2, baud_step, capture_step, timer2_step}
use Rattle.machine.specs.Calls.{longest}
use Rattle.laws.specs.Counting.{overflows_or}
use Rattle.laws.proofs.Counting.{counts_or_up, overflows_or_up, count_times_are}
use Rattle.strides.specs.Stride.{room_of, left, moves2, left2, room2, counts2, stride2}
use Rattle.machine.proofs.Choices.{clash}
use Rattle.strides.proofs.Pairs.{unit_room, unit_back}
use Rattle.strides.proofs.Records.{count2_path}

-- n counts in turn without an overflow
count_times_quiet : (n reload count : ℕ) → count + n < 2 ^ 16
    → count_times n reload (record { count = count; overflows = 0 }) ≡ record { count = count + n; overflows = 0 }
count_times_quiet n reload count h =
    count_times_are n reload count 0
    ∙ (λ i. record {
      count = counts_or_up n 16 reload count h i;
      overflows = (zero-add (overflows_or n 16 reload count) ∙ overflows_or_up n 16 reload count h) i;
    })

count_times_none : (reload count : ℕ)
    → count_times 0 reload (record { count = count; overflows = 0 }) ≡ record { count = count + 0; overflows = 0 }
unfolding count_times
count_times_none reload count = λ i. record { count = sym (add-zero count) i; overflows = 0 }

-- the counts of a quiet cycle: none as a counter
counted_quiet : (each reload : ℕ) (t : Timer2) → t.due2 ≡ 0 → (timer : Bool) → eqb (bit C/T2 t.t2con) 0 ≡ timer
    → (timer ≡ true → count2 t + each < 65536)
    → counted2 each reload t ≡ record { count = count2 t + cond timer each 0; overflows = 0 }
unfolding counted2 counts_of2
counted_quiet each reload t e true c h =
    simp c (count_times_quiet each reload (count2 t) (h refl))
counted_quiet each reload t e false c h =
    simp (c, e) (count_times_none reload (count2 t))

-- no count
count_none : (t : Timer2) → t.tl2 < 256 → with_count2 (count2 t + 0) t ≡ t
count_none t h = count2_path t (omega arith) (omega arith)

module _ (t : Timer2) (e : t.due2 ≡ 0) (timer : Bool) (c : eqb (bit C/T2 t.t2con) 0 ≡ timer) where
  baud_quiet : (timer ≡ true → count2 t + 6 < 65536)
      → baud_step t 0 ≡ record { timer2 = with_count2 (count2 t + cond timer 6 0) t; overflows = 0; tf2 = 0 }
  unfolding baud_step heeds_t2ex flagged
  baud_quiet h =
      ap (λ (s : Counted16). record { timer2 = with_count2 s.count t; overflows = s.overflows; tf2 = 0 })
      (counted_quiet 6 (rcap2 t) t e timer c h)

  capture_quiet : (timer ≡ true → count2 t + 1 < 65536)
      → capture_step t 0 ≡ record { timer2 = with_count2 (count2 t + cond timer 1 0) t; overflows = 0; tf2 = 0 }
  unfolding capture_step heeds_t2ex flagged
  capture_quiet h =
      ap (λ (s : Counted16). record {
        timer2 = with_t2con (flagged TF2 s.overflows t.t2con) (with_count2 s.count t);
        overflows = s.overflows;
        tf2 = s.overflows;
      })
      (counted_quiet 1 (cond (captures t) 0 (rcap2 t)) t e timer c h)

-- step 3 of a quiet cycle, T2EX not falling, moves Timer 2 by a cycle's counts and hands on no overflow
pub quiet_timer2 : (t : Timer2) → t.due2 ≡ 0 → t.tl2 < 256 → 1 ≤ room2 t
    → timer2_step t 0 ≡ record { timer2 = stride2 1 t; overflows = 0; tf2 = 0 }
unfolding timer2_step moves2 left2 stride2 counts2
quiet_timer2 t e f = go (eqb (bit TR2 t.t2con) 1) (baud_rate t) (eqb (bit C/T2 t.t2con) 0) refl
  where
    still : Timer2 → Timer2Counted
    still u = record { timer2 = u; overflows = 0; tf2 = 0 }

    go : (run baud timer : Bool) → eqb (bit C/T2 t.t2con) 0 ≡ timer
        → 1 ≤ room_of (run && timer) (cond baud (left 16 (count2 t) / 6) (left 16 (count2 t)))
        → cond run (cond baud (baud_step t 0) (capture_step t 0)) (still t)
        ≡ still (with_count2 (count2 t + cond (run && timer) (cond baud 6 1) 0) t)
    go false baud timer c h = ap still (sym (count_none t f))
    go true true true c h = baud_quiet t e true c (λ _. omega arith)
    go true false true c h = capture_quiet t e true c (λ _. omega arith)
    go true true false c h = baud_quiet t e false c (λ x. absurd (clash x refl))
    go true false false c h = capture_quiet t e false c (λ x. absurd (clash x refl))

-- m counts a cycle after those of a cycle, and the room after them
counts_more : (m count : ℕ) (moves baud : Bool)
    → count + cond moves (cond baud (1 * 6) 1) 0 + cond moves (cond baud (m * 6) m) 0
    ≡ count + cond moves (cond baud (suc m * 6) (suc m)) 0
counts_more m count true true = omega arith
counts_more m count true false = omega arith
counts_more m count false baud = omega arith

counts_room : (m count : ℕ) (moves baud : Bool)
    → room_of moves (cond baud (left 16 (count + cond moves (cond baud (m * 6) m) 0) / 6) (left 16 (count + cond moves (cond baud (m * 6) m) 0)))
    ≡ room_of moves (cond baud (left 16 count / 6) (left 16 count) - m)
counts_room m count true true = omega arith
counts_room m count true false = omega arith
counts_room m count false baud = refl

-- the count as it stands in TH2 and TL2
joined : (n : ℕ) → n / 256 * 256 + n % 256 ≡ n
joined n = omega arith

module _ (t : Timer2) where
  pub timer2_none : t.tl2 < 256 → stride2 0 t ≡ t
  unfolding stride2 counts2
  timer2_none f = ap (λ (n : ℕ). with_count2 (count2 t + n) t) (go (moves2 t) (baud_rate t)) ∙ count_none t f
    where
      go : (moves baud : Bool) → cond moves (cond baud (0 * 6) 0) 0 ≡ 0
      go true true = refl
      go true false = refl
      go false baud = refl

  pub timer2_more : (m : ℕ) → stride2 m (stride2 1 t) ≡ stride2 (suc m) t
  unfolding stride2 counts2 moves2 baud_rate
  timer2_more m =
      ap (λ (n : ℕ). with_count2 n t)
      (ap (λ (n : ℕ). n + counts2 m t) (joined (count2 t + counts2 1 t)) ∙ counts_more m (count2 t) (moves2 t) (baud_rate t))

  timer2_room : (m : ℕ) → room2 (stride2 m t) ≡ room_of (moves2 t) (left2 t - m)
  unfolding left2 stride2 counts2 moves2 baud_rate
  timer2_room m =
      ap (λ (n : ℕ). room_of (moves2 t) (cond (baud_rate t) (left 16 n / 6) (left 16 n))) (joined (count2 t + counts2 m t))
      ∙ counts_room m (count2 t) (moves2 t) (baud_rate t)

  pub timer2_left : (k m : ℕ) → k + m ≤ room2 t → k ≤ room2 (stride2 m t)
  timer2_left k m h = rw (timer2_room m) (unit_room k m (moves2 t) (left2 t) h)

  pub timer2_back : (k m : ℕ) → 1 ≤ k → k + m ≤ longest → k ≤ room2 (stride2 m t) → k + m ≤ room2 t
  timer2_back k m p q h = unit_back k m (moves2 t) (left2 t) p q (rw (timer2_room m) at h)
