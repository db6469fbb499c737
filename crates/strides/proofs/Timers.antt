-- Timers 0 and 1: a quiet cycle is a stride of 1, strides add up, and the room shrinks with them; pair by pair.
use Prim.Native.Nat.{ℕ, suc, ◌+◌, ◌-◌, ◌/◌, ◌^◌, ◌≤◌, ◌<◌, min}
use mathlib.Core.Path.{◌≡◌, refl, sym, ap, ◌∙◌}
use mathlib.Core.Bool.{Bool, true, false, cond, ◌&&◌, not}
use native.Mathlib.Nat.{mod-lt, zero-lt-suc, le-min, le_trans, min-le_left, min-le_right}
use native.Mathlib.Omega.{arith}
use lib.Dec.{eqb}
use borrow.Author.Tests.{eqb-true}
use Rattle.machine.specs.declared.Timers.{Timers}
use Rattle.machine.specs.declared.Count.{Count}
use Rattle.machine.specs.Counting.{next, overflow, count8, hold}
use Rattle.machine.specs.Timers.{timer0_mode, timer1_mode, count_in, flagged, counts0, counts1, counts_high0, pair0, high0, high_overflow0, pair1, timer_flags, timers_step}
use Rattle.machine.specs.Calls.{longest}
use Rattle.strides.specs.Stride.{room_of, left, left_in, by8, moved, moves1, room_timers, stride_timers}
use Rattle.machine.proofs.Choices.{and_left}
use Rattle.strides.proofs.Records.{timers_path, timers_counted_path}
use Rattle.laws.proofs.Counting.{count_eq}
use Rattle.strides.proofs.Pairs.{no_mode, one_count, moved_none, moved_more, moved_still, moved_room, moved_low, moved_high, left_low, unit_room, unit_back}

-- One cycle

low_quiet : (counts : Bool) (mode tl th : ℕ) → 1 ≤ room_of counts (left_in mode tl th)
    → cond counts (count_in mode (count8 tl th) tl th) (hold tl th) ≡ moved 1 counts mode tl th
unfolding moved count8
low_quiet false mode tl th h = refl
low_quiet true mode tl th h = one_count mode tl th (count8 tl th) h (λ x y z k. eight k)
  where
    eight : 1 ≤ left 8 tl → count8 tl th ≡ by8 1 tl th
    eight k = count_eq (omega arith) refl (omega arith)

-- Timer 1 holds in mode 3
one_quiet : (counts : Bool) (mode tl th : ℕ) → mode < 4 → (three : Bool) → eqb mode 3 ≡ three
    → 1 ≤ room_of (counts && not three) (left_in mode tl th)
    → cond counts (count_in mode (hold tl th) tl th) (hold tl th) ≡ moved 1 (counts && not three) mode tl th
unfolding moved count_in
one_quiet false mode tl th f three e h = refl
one_quiet true mode tl th f true e h = holds (eqb-true mode 3 e)
  where
    holds : mode ≡ 3 → count_in mode (hold tl th) tl th ≡ hold tl th
    holds q = ap (λ (n : ℕ). count_in n (hold tl th) tl th) q
one_quiet true mode tl th f false e h =
    one_count mode tl th (hold tl th) h
    (λ x y z k. absurd (no_mode mode f x y z e))

-- TH0 counts apart only in mode 3
pub high_mode : (t : Timers) → counts_high0 t ≡ true → timer0_mode t ≡ 3
unfolding counts_high0
high_mode t e = eqb-true (timer0_mode t) 3 (and_left (eqb (timer0_mode t) 3) _ e)

pub no_flags : (t : Timers) → timer_flags t 0 0 0 ≡ t.tcon
unfolding timer_flags flagged
no_flags t = go (eqb (timer0_mode t) 3)
  where
    go : (b : Bool) → flagged 7 (cond b 0 0) t.tcon ≡ t.tcon
    go true = refl
    go false = refl

-- TH0, beside TL0 as it is after its count
high_quiet : (high : Bool) (th now : ℕ) → (high ≡ true → now ≡ th) → 1 ≤ room_of high (left 8 th)
    → cond high (next 8 now) now ≡ cond high (th + 1) now
high_quiet true th now e h = let q = e refl in omega arith
high_quiet false th now e h = refl

high_still : (high : Bool) (th now : ℕ) → (high ≡ true → now ≡ th) → 1 ≤ room_of high (left 8 th)
    → cond high (overflow 8 now) 0 ≡ 0
high_still true th now e h = let q = e refl in omega arith
high_still false th now e h = refl

-- the room of each unit
module _ (k l : ℕ) (t : Timers) (h : k ≤ room_timers l t) where
  pub room_low : k ≤ room_of (counts0 t l) (left_in (timer0_mode t) t.tl0 t.th0)
  unfolding room_timers
  room_low = omega arith

  pub room_high : k ≤ room_of (counts_high0 t) (left 8 t.th0)
  unfolding room_timers
  room_high = omega arith

  pub room_one : k ≤ room_of (moves1 t l) (left_in (timer1_mode t) t.tl1 t.th1)
  unfolding room_timers
  room_one = omega arith

-- step 2 of a quiet cycle moves the timers by 1 and hands on no overflow
module _ (l : ℕ) (t : Timers) where
  low0 : ℕ → Count
  low0 m = moved m (counts0 t l) (timer0_mode t) t.tl0 t.th0

  pub quiet_timers : 1 ≤ room_timers l t
      → timers_step t l ≡ record { timers = stride_timers 1 l t; overflow0 = 0; overflow_th0 = 0; overflow1 = 0 }
  unfolding timers_step stride_timers room_timers pair0 pair1 moves1 high0 high_overflow0 low0
  quiet_timers h =
      timers_counted_path
      (timers_path (set ∙ no_flags t) refl (ap (λ (c : Count). c.tl) low) (ap (λ (c : Count). c.tl) one)
      (ap (λ (c : Count). high0 t c.th) low ∙ high_quiet (counts_high0 t) t.th0 (low0 1).th apart (room_high 1 l t h))
      (ap (λ (c : Count). c.th) one) refl refl)
      low_over high_over one_over
    where
      low : pair0 t l ≡ low0 1
      low = low_quiet (counts0 t l) (timer0_mode t) t.tl0 t.th0 (room_low 1 l t h)

      one : pair1 t l ≡ moved 1 (moves1 t l) (timer1_mode t) t.tl1 t.th1
      one = one_quiet (counts1 t l) (timer1_mode t) t.tl1 t.th1 (mod-lt (t.tmod / 2 ^ 4) (zero-lt-suc 3)) (eqb (timer1_mode t) 3) refl (room_one 1 l t h)

      apart : counts_high0 t ≡ true → (low0 1).th ≡ t.th0
      apart e = moved_high 1 (counts0 t l) (timer0_mode t) t.tl0 t.th0 (high_mode t e)

      low_over : (pair0 t l).overflow ≡ 0
      low_over = ap (λ (c : Count). c.overflow) low ∙ moved_still (counts0 t l) (timer0_mode t) t.tl0 t.th0 1

      one_over : (pair1 t l).overflow ≡ 0
      one_over = ap (λ (c : Count). c.overflow) one ∙ moved_still (moves1 t l) (timer1_mode t) t.tl1 t.th1 1

      high_over : high_overflow0 t (pair0 t l).th ≡ 0
      high_over =
          ap (λ (c : Count). high_overflow0 t c.th) low
          ∙ high_still (counts_high0 t) t.th0 (low0 1).th apart (room_high 1 l t h)

      set : timer_flags t (pair0 t l).overflow (high_overflow0 t (pair0 t l).th) (pair1 t l).overflow ≡ timer_flags t 0 0 0
      set = λ i. timer_flags t (low_over i) (high_over i) (one_over i)

-- TL0 and TH0 after m cycles: `high` where TH0 counts apart, which is so in mode 3 only
abbrev high_after : ℕ → Bool → Bool → ℕ → ℕ → ℕ → ℕ
high_after m counts high mode tl th = cond high (th + m) (moved m counts mode tl th).th

low_more : (m : ℕ) (counts high : Bool) (mode tl th : ℕ) → (high ≡ true → mode ≡ 3)
    → (moved m counts mode (moved 1 counts mode tl th).tl (high_after 1 counts high mode tl th)).tl
    ≡ (moved (suc m) counts mode tl th).tl
low_more m counts false mode tl th e = ap (λ (c : Count). c.tl) (moved_more counts mode tl th m)
low_more m counts true mode tl th e =
    let q = e refl in
    moved_low m counts mode (moved 1 counts mode tl th).tl (th + 1) q
    ∙ (ap (λ (n : ℕ). cond counts (n + m) n) (moved_low 1 counts mode tl th q)
    ∙ (go counts ∙ sym (moved_low (suc m) counts mode tl th q)))
  where
    go : (c : Bool) → cond c (cond c (tl + 1) tl + m) (cond c (tl + 1) tl) ≡ cond c (tl + suc m) tl
    go true = omega arith
    go false = refl

high_more : (m : ℕ) (counts high : Bool) (mode tl th : ℕ)
    → high_after m counts high mode (moved 1 counts mode tl th).tl (high_after 1 counts high mode tl th)
    ≡ high_after (suc m) counts high mode tl th
high_more m counts false mode tl th = ap (λ (c : Count). c.th) (moved_more counts mode tl th m)
high_more m counts true mode tl th = omega arith

low_room : (m : ℕ) (counts high : Bool) (mode tl th : ℕ) → (high ≡ true → mode ≡ 3)
    → room_of counts (left_in mode (moved m counts mode tl th).tl (high_after m counts high mode tl th))
    ≡ room_of counts (left_in mode tl th - m)
low_room m counts false mode tl th e = moved_room counts mode tl th m
low_room m counts true mode tl th e =
    let q = e refl in
    ap (room_of counts) (left_low mode (moved m counts mode tl th).tl (th + m) q)
    ∙ (ap (λ (n : ℕ). room_of counts (left 8 n)) (moved_low m counts mode tl th q)
    ∙ (go counts ∙ ap (λ (n : ℕ). room_of counts (n - m)) (sym (left_low mode tl th q))))
  where
    go : (c : Bool) → room_of c (left 8 (cond c (tl + m) tl)) ≡ room_of c (left 8 tl - m)
    go true = omega arith
    go false = refl

high_room : (m : ℕ) (high : Bool) (th now : ℕ) → room_of high (left 8 (cond high (th + m) now)) ≡ room_of high (left 8 th - m)
high_room m true th now = omega arith
high_room m false th now = refl

high_none : (high : Bool) (th now : ℕ) → now ≡ th → cond high (th + 0) now ≡ th
high_none true th now e = omega arith
high_none false th now e = e

module _ (l : ℕ) (t : Timers) where
  pub timers_none : t.tl0 < 256 → t.tl1 < 256 → stride_timers 0 l t ≡ t
  unfolding stride_timers hold
  timers_none f g =
      timers_path refl refl (ap (λ (c : Count). c.tl) low) (ap (λ (c : Count). c.tl) one)
      (high_none (counts_high0 t) t.th0 _ (ap (λ (c : Count). c.th) low)) (ap (λ (c : Count). c.th) one) refl refl
    where
      low : moved 0 (counts0 t l) (timer0_mode t) t.tl0 t.th0 ≡ hold t.tl0 t.th0
      low = moved_none (counts0 t l) (timer0_mode t) t.tl0 t.th0 f

      one : moved 0 (moves1 t l) (timer1_mode t) t.tl1 t.th1 ≡ hold t.tl1 t.th1
      one = moved_none (moves1 t l) (timer1_mode t) t.tl1 t.th1 g

  pub timers_more : (m : ℕ) → stride_timers m l (stride_timers 1 l t) ≡ stride_timers (suc m) l t
  unfolding stride_timers counts0 counts1 counts_high0 moves1
  timers_more m =
      timers_path refl refl
      (low_more m (counts0 t l) (counts_high0 t) (timer0_mode t) t.tl0 t.th0 (high_mode t))
      (ap (λ (c : Count). c.tl) (moved_more (moves1 t l) (timer1_mode t) t.tl1 t.th1 m))
      (high_more m (counts0 t l) (counts_high0 t) (timer0_mode t) t.tl0 t.th0)
      (ap (λ (c : Count). c.th) (moved_more (moves1 t l) (timer1_mode t) t.tl1 t.th1 m))
      refl refl

  -- the room after a stride
  timers_room : (m : ℕ) → room_timers l (stride_timers m l t)
      ≡ min (room_of (counts0 t l) (left_in (timer0_mode t) t.tl0 t.th0 - m))
      (min (room_of (counts_high0 t) (left 8 t.th0 - m)) (room_of (moves1 t l) (left_in (timer1_mode t) t.tl1 t.th1 - m)))
  unfolding room_timers stride_timers counts0 counts1 counts_high0 moves1
  timers_room m =
      let low = low_room m (counts0 t l) (counts_high0 t) (timer0_mode t) t.tl0 t.th0 (high_mode t) in
      let high = high_room m (counts_high0 t) t.th0 (moved m (counts0 t l) (timer0_mode t) t.tl0 t.th0).th in
      let one = moved_room (moves1 t l) (timer1_mode t) t.tl1 t.th1 m in
      λ i. min (low i) (min (high i) (one i))

  -- room for k cycles after m: room for k after a stride of m
  pub timers_left : (k m : ℕ) → k + m ≤ room_timers l t → k ≤ room_timers l (stride_timers m l t)
  timers_left k m h =
      rw (timers_room m)
      (le-min (unit_room k m (counts0 t l) _ (room_low (k + m) l t h))
      (le-min (unit_room k m (counts_high0 t) _ (room_high (k + m) l t h)) (unit_room k m (moves1 t l) _ (room_one (k + m) l t h))))

  -- and the other way round, within a jump
  pub timers_back : (k m : ℕ) → 1 ≤ k → k + m ≤ longest → k ≤ room_timers l (stride_timers m l t) → k + m ≤ room_timers l t
  unfolding room_timers
  timers_back k m p q h =
      let r = rw (timers_room m) at h in
      le-min (unit_back k m (counts0 t l) _ p q (le_trans r (min-le_left _ _)))
      (le-min (unit_back k m (counts_high0 t) _ p q (le_trans r (le_trans (min-le_right _ _) (min-le_left _ _))))
      (unit_back k m (moves1 t l) _ p q (le_trans r (le_trans (min-le_right _ _) (min-le_right _ _)))))
