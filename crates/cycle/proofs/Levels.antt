-- The saved levels of an accepted record are 0 or 1, and what the code's mask makes of one: 1 where it is 1 and its pin is
-- now 0.
use Rattle.std.proofs.Common.{◌≡◌, ℕ, zero, suc, ◌-◌, ◌/◌, ◌%◌, ◌^◌, ◌<◌, ◌≤◌, true, cond, ◌&&◌, eqb, leb, List, [], ◌∷◌, get_or, refl, ◌∙◌, div-le_self, arith, eqb-true, leb-true}
use Rattle.std.specs.Int.{from_bool}
use lib.Bits.{bit_and, bit_or, and_comm, and_zero_r}
use borrow.Author.Tests.{eqb-false}
use Rattle.machine.specs.Record.{levels_ok}
use Rattle.machine.specs.Cycle.{falls}
use Rattle.machine.specs.Bits.{bit, set_bit}
use Rattle.machine.specs.Registers.{T2, T2EX}
use Rattle.laws.proofs.Bits.{low1, or_bit, bit_below}
use Rattle.machine.proofs.Choices.{and_left, and_right, by_test}

level_below : (ls : List ℕ) (k : ℕ) → levels_ok ls ≡ true → get_or ls k 0 ≤ 1
level_below [] k e = omega arith
level_below (l ∷ ls) zero e = leb-true l 1 (and_left (leb l 1) (levels_ok ls) e)
level_below (l ∷ ls) (suc k) e = level_below ls k (and_right (leb l 1) (levels_ok ls) e)

-- `was & !now`, of which only bit 0 can be 1
fell : (was now : ℕ) → was ≤ 1 → now < 256 → bit_and was (255 - now) ≡ cond (eqb was 1 && eqb (now % 2) 0) 1 0
fell zero now h l = and_comm 0 (255 - now) ∙ and_zero_r (255 - now)
fell (suc zero) now h l =
    and_comm 1 (255 - now) ∙ (low1 (255 - now)
    ∙ by_test (eqb (now % 2) 0) (λ z. rw z (omega (arith, eqb-true (now % 2) 0 z))) (λ z. rw z (omega (arith, eqb-false (now % 2) 0 z))))
fell (suc (suc was)) now h l = absurd (omega arith)

pub falls_is : (ls : List ℕ) (pins k : ℕ) → levels_ok ls ≡ true → pins < 256 → bit_and (get_or ls k 0) (255 - pins / 2 ^ k) ≡ falls ls pins k
unfolding falls
falls_is ls pins k e h = fell (get_or ls k 0) (pins / 2 ^ k) (level_below ls k e) (omega (arith, div-le_self pins (2 ^ k)))

-- T2 and T2EX set by masks
pub t2_set : (pins : ℕ) → bit_or pins 32 ≡ set_bit T2 pins
t2_set pins = or_bit pins T2

pub t2ex_set : (pins : ℕ) → bit_or pins 64 ≡ set_bit T2EX pins
t2ex_set pins = or_bit pins T2EX

-- a level as a number
pub level_is : (k pins : ℕ) → from_bool (eqb (bit k pins) 1) ≡ bit k pins
level_is k pins = go (bit k pins) (bit_below k pins)
  where
    go : (n : ℕ) → n < 2 → from_bool (eqb n 1) ≡ n
    go zero h = refl
    go (suc zero) h = refl
    go (suc (suc n)) h = absurd (omega arith)
