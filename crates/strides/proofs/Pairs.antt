-- One law for every timer's pair, whatever its width and split: a count within the room is a move of 1, moves add up, and the room
-- shrinks with them.
use Prim.Native.Nat.{ℕ, suc, ◌+◌, ◌-◌, ◌^◌, ◌≤◌, ◌<◌}
use mathlib.Core.Path.{◌≡◌, refl, ap, ◌∙◌}
use mathlib.Core.Bool.{Bool, true, false, cond}
use native.Mathlib.Omega.{arith}
use lib.Dec.{eqb}
use borrow.Author.Tests.{eqb-false}
use Rattle.machine.specs.declared.Count.{Count}
use Rattle.machine.specs.Counting.{pair13, pair16, count13, count16, reload8, hold}
use Rattle.machine.specs.Timers.{count_in}
use Rattle.machine.specs.Calls.{longest}
use Rattle.machine.proofs.Choices.{cond_ap, cond_same}
use Rattle.laws.proofs.Counting.{count_eq, next_up, overflow_up, next_or_up}
use Rattle.strides.specs.Stride.{room_of, left, left_in, by13, by16, by8, moved_in, moved}

-- The tests of a mode give its width and its split: x that of mode 0, 13 bits over TH and the low 5 of TL; y that of mode 1, 16 bits
-- over both; neither TL alone. Of a timer that counts or not, by c, the room before an overflow and a move of m
abbrev free : Bool → Bool → ℕ → ℕ → ℕ
free x y tl th = cond x (left 13 (pair13 tl th)) (cond y (left 16 (pair16 tl th)) (left 8 tl))

abbrev by : Bool → Bool → Bool → ℕ → ℕ → ℕ → Count
by c x y m tl th = cond c (cond x (by13 m tl th) (cond y (by16 m tl th) (by8 m tl th))) (hold tl th)

-- one count within the room; what mode 3 does is handed in
one : (x y z : Bool) (tl th : ℕ) (three : Count) → 1 ≤ free x y tl th
    → (x ≡ false → y ≡ false → z ≡ false → 1 ≤ left 8 tl → three ≡ by8 1 tl th)
    → cond x (count13 tl th) (cond y (count16 tl th) (cond z (reload8 tl th) three)) ≡ by true x y 1 tl th
unfolding count13 count16 reload8
one true y z tl th three h k =
    let l : pair13 tl th + 1 < 2 ^ 13 = omega arith in
    let n = next_up 13 (pair13 tl th) l in
    count_eq (omega arith) (omega arith) (overflow_up 13 (pair13 tl th) l)
one false true z tl th three h k =
    let l : pair16 tl th + 1 < 2 ^ 16 = omega arith in
    let n = next_up 16 (pair16 tl th) l in
    count_eq (omega arith) (omega arith) (overflow_up 16 (pair16 tl th) l)
one false false true tl th three h k =
    let l : tl + 1 < 2 ^ 8 = omega arith in
    count_eq (next_or_up 8 th tl l) refl (overflow_up 8 tl l)
one false false false tl th three h k = k refl refl refl h

-- no move
none : (c x y : Bool) (tl th : ℕ) → tl < 256 → by c x y 0 tl th ≡ hold tl th
unfolding hold
none true true y tl th h = count_eq (omega arith) (omega arith) refl
none true false true tl th h = count_eq (omega arith) (omega arith) refl
none true false false tl th h = count_eq (omega arith) refl refl
none false x y tl th h = refl

-- a move of m after a move of 1
more : (c x y : Bool) (m tl th : ℕ) → by c x y m (by c x y 1 tl th).tl (by c x y 1 tl th).th ≡ by c x y (suc m) tl th
unfolding hold
more true true y m tl th = count_eq (omega arith) (omega arith) refl
more true false true m tl th = count_eq (omega arith) (omega arith) refl
more true false false m tl th = count_eq (omega arith) refl refl
more false x y m tl th = refl

-- a move overflows nowhere
still : (c x y : Bool) (m tl th : ℕ) → (by c x y m tl th).overflow ≡ 0
unfolding hold
still true true y m tl th = refl
still true false true m tl th = refl
still true false false m tl th = refl
still false x y m tl th = refl

-- the room after a move
room_after : (c x y : Bool) (m tl th : ℕ)
    → room_of c (free x y (by c x y m tl th).tl (by c x y m tl th).th) ≡ room_of c (free x y tl th - m)
unfolding hold
room_after true true y m tl th = omega arith
room_after true false true m tl th = omega arith
room_after true false false m tl th = omega arith
room_after false x y m tl th = refl

-- The same of a mode

-- there are four
pub no_mode : (mode : ℕ) → mode < 4 → eqb mode 0 ≡ false → eqb mode 1 ≡ false → eqb mode 2 ≡ false → eqb mode 3 ≡ false → ⊥
no_mode mode f x y z w =
    let a = eqb-false mode 0 x in
    let b = eqb-false mode 1 y in
    let c = eqb-false mode 2 z in
    let e = eqb-false mode 3 w in
    omega arith

pub one_count : (mode tl th : ℕ) (three : Count) → 1 ≤ left_in mode tl th
    → (eqb mode 0 ≡ false → eqb mode 1 ≡ false → eqb mode 2 ≡ false → 1 ≤ left 8 tl → three ≡ by8 1 tl th)
    → count_in mode three tl th ≡ moved_in 1 mode tl th
unfolding count_in left_in moved_in
one_count mode = one (eqb mode 0) (eqb mode 1) (eqb mode 2)

module _ (counts : Bool) (mode tl th : ℕ) where
  pub moved_none : tl < 256 → moved 0 counts mode tl th ≡ hold tl th
  unfolding moved moved_in
  moved_none = none counts (eqb mode 0) (eqb mode 1) tl th

  pub moved_more : (m : ℕ)
      → moved m counts mode (moved 1 counts mode tl th).tl (moved 1 counts mode tl th).th ≡ moved (suc m) counts mode tl th
  unfolding moved moved_in
  moved_more m = more counts (eqb mode 0) (eqb mode 1) m tl th

  pub moved_still : (m : ℕ) → (moved m counts mode tl th).overflow ≡ 0
  unfolding moved moved_in
  moved_still m = still counts (eqb mode 0) (eqb mode 1) m tl th

  pub moved_room : (m : ℕ)
      → room_of counts (left_in mode (moved m counts mode tl th).tl (moved m counts mode tl th).th)
      ≡ room_of counts (left_in mode tl th - m)
  unfolding moved moved_in left_in
  moved_room m = room_after counts (eqb mode 0) (eqb mode 1) m tl th

-- in mode 3 TL is alone, and TH keeps apart
pub moved_low : (m : ℕ) (counts : Bool) (mode tl th : ℕ) → mode ≡ 3 → (moved m counts mode tl th).tl ≡ cond counts (tl + m) tl
unfolding moved moved_in hold
moved_low m counts mode tl th e =
    ap (λ (n : ℕ). (moved m counts n tl th).tl) e ∙ cond_ap (λ (p : Count). p.tl) counts (by8 m tl th) (hold tl th)

pub moved_high : (m : ℕ) (counts : Bool) (mode tl th : ℕ) → mode ≡ 3 → (moved m counts mode tl th).th ≡ th
unfolding moved moved_in hold
moved_high m counts mode tl th e =
    ap (λ (n : ℕ). (moved m counts n tl th).th) e ∙ cond_ap (λ (p : Count). p.th) counts (by8 m tl th) (hold tl th) ∙ cond_same counts th

pub left_low : (mode tl th : ℕ) → mode ≡ 3 → left_in mode tl th ≡ left 8 tl
unfolding left_in
left_low mode tl th e = ap (λ (n : ℕ). left_in n tl th) e

-- a unit with room for k cycles after m has room for k after a move of m
pub unit_room : (k m : ℕ) (counts : Bool) (free : ℕ) → k + m ≤ room_of counts free → k ≤ room_of counts (free - m)
unit_room k m true free h = omega arith
unit_room k m false free h = omega arith

-- and the other way round, within a jump
pub unit_back : (k m : ℕ) (counts : Bool) (free : ℕ) → 1 ≤ k → k + m ≤ longest → k ≤ room_of counts (free - m)
    → k + m ≤ room_of counts free
unit_back k m true free p q h = omega arith
unit_back k m false free p q h = q
