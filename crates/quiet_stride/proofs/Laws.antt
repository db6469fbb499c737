-- Laws of the room and of the stride: what bounds the counts and the ticks of m cycles, and that they are the definitions'.
use Rattle.std.proofs.Common.{◌≡◌, ℕ, ◌+◌, ◌*◌, ◌/◌, ◌%◌, ◌<◌, ◌≤◌, Bool, true, false, cond, eqb, sym, refl, ap, ◌∙◌, subst, mul-le-mul_left, div-add-mod', arith}
use native.Mathlib.Nat.{mod-add-mod, add-mul-mod_self_right}
use Rattle.machine.specs.declared.Timer2.{Timer2}
use Rattle.machine.specs.Record.{serial_mode}
use Rattle.machine.specs.Counting.{pair13, pair16}
use Rattle.machine.specs.Timer2.{count2, baud_rate}
use Rattle.machine.specs.Serial.{mode2_ticks}
use Rattle.machine.proofs.Choices.{chosen}
use Rattle.strides.specs.Stride.{left, left_in, room_of, moves2, left2, room2, counts2, ticks2}

-- a unit that counts has its own room
pub counting : {b : Bool} {m k : ℕ} → b ≡ true → m ≤ room_of b k → m ≤ k
counting {b} {m} {k} e h = subst (λ (t : Bool). m ≤ room_of t k) e h

-- no timer has more than 16 bits
pub left_below : (mode tl th : ℕ) → left_in mode tl th < 65536
unfolding left_in
left_below mode tl th = go (eqb mode 0) (eqb mode 1)
  where
    go : (x y : Bool) → cond x (left 13 (pair13 tl th)) (cond y (left 16 (pair16 tl th)) (left 8 tl)) < 65536
    go true y = omega arith
    go false true = omega arith
    go false false = omega arith

pub left2_below : (t : Timer2) → left2 t < 65536
unfolding left2
left2_below t = go (baud_rate t)
  where
    go : (six : Bool) → cond six (left 16 (count2 t) / 6) (left 16 (count2 t)) < 65536
    go true = omega arith
    go false = omega arith

-- Timer 2 where it moves: it has room for m cycles of one count, or of six with RCLK or TCLK set
pub each_fits : (m : ℕ) (t : Timer2) → moves2 t ≡ true → m ≤ room2 t → m * cond (baud_rate t) 6 1 ≤ left 16 (count2 t)
unfolding left2
each_fits m t e h = go (baud_rate t) (counting e h)
  where
    go : (six : Bool) → m ≤ cond six (left 16 (count2 t) / 6) (left 16 (count2 t)) → m * cond six 6 1 ≤ left 16 (count2 t)
    go true h = omega arith
    go false h = omega arith

pub each_counts : (m : ℕ) (t : Timer2) → moves2 t ≡ true → m * cond (baud_rate t) 6 1 ≡ counts2 m t
unfolding counts2
each_counts m t e = rw e (go (baud_rate t))
  where
    go : (six : Bool) → m * cond six 6 1 ≡ cond six (m * 6) m
    go true = refl
    go false = omega arith

-- and where it holds
pub no_counts : (m : ℕ) (t : Timer2) → moves2 t ≡ false → counts2 m t ≡ 0
unfolding counts2
no_counts m t e = rw e

-- the ticks of mode 2 but for laps of the send counter
pub mode2_below : (m smod : ℕ) → m < 16 → m * mode2_ticks smod ≤ 90
mode2_below m smod h =
    let most = chosen (λ (n : ℕ). n ≤ 6) (eqb smod 1) 6 3 (omega arith) (omega arith) in
    omega (arith, mul-le-mul_left m most)

pub ticks_below : (m smod scon : ℕ) → m < 16 → ticks2 m smod scon ≤ 90
unfolding ticks2
ticks_below m smod scon h =
    chosen (λ (n : ℕ). n ≤ 90) (eqb (serial_mode scon) 2) (m * mode2_ticks smod) 0 (mode2_below m smod h) (omega arith)

pub ticks_laps : (m smod scon counter : ℕ) → (counter % 16 + ticks2 (m % 16) smod scon) % 16 ≡ (counter + ticks2 m smod scon) % 16
unfolding ticks2
ticks_laps m smod scon counter = mod-add-mod counter 16 (ticks2 (m % 16) smod scon) ∙ go (eqb (serial_mode scon) 2) (mode2_ticks smod)
  where
    laps : (x y q : ℕ) → x + q * 16 ≡ y → x % 16 ≡ y % 16
    laps x y q e = sym (add-mul-mod_self_right x q 16) ∙ ap (λ (n : ℕ). n % 16) e

    go : (two : Bool) (each : ℕ) → (counter + cond two (m % 16 * each) 0) % 16 ≡ (counter + cond two (m * each) 0) % 16
    go true each = laps (counter + m % 16 * each) (counter + m * each) (m / 16 * each) (omega (arith, ap (λ (k : ℕ). k * each) (div-add-mod' m 16)))
    go false each = refl
