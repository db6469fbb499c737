-- SMOD and half are bits, so that a tick and half after it are made by masks. By cases.
use Rattle.std.proofs.Common.{◌≡◌, ℕ, zero, suc, ◌≤◌, refl, ap, arith}
use lib.Bits.{bit_or, bit_xor}
use Rattle.machine.specs.declared.Device.{Device}
use Rattle.machine.specs.Serial.{half_after, ticks1}
use Rattle.reload.specs.declared.Clocking.{Clocking}
use Rattle.reload.specs.Reload.{clocking_of}

pub tick_is : (smod half : ℕ) → smod ≤ 1 → half ≤ 1 → bit_or half smod ≡ ticks1 smod half 1
unfolding ticks1
tick_is zero zero g h = refl
tick_is zero (suc zero) g h = refl
tick_is zero (suc (suc half)) g h = absurd (omega arith)
tick_is (suc zero) zero g h = refl
tick_is (suc zero) (suc zero) g h = refl
tick_is (suc zero) (suc (suc half)) g h = absurd (omega arith)
tick_is (suc (suc smod)) half g h = absurd (omega arith)

pub half_is : (smod half : ℕ) → smod ≤ 1 → half ≤ 1 → bit_xor half (bit_xor smod 1) ≡ half_after smod half 1
unfolding half_after
half_is zero zero g h = refl
half_is zero (suc zero) g h = refl
half_is zero (suc (suc half)) g h = absurd (omega arith)
half_is (suc zero) zero g h = refl
half_is (suc zero) (suc zero) g h = refl
half_is (suc zero) (suc (suc half)) g h = absurd (omega arith)
half_is (suc (suc smod)) half g h = absurd (omega arith)

pub half_bit : (smod half : ℕ) → smod ≤ 1 → half ≤ 1 → bit_xor half (bit_xor smod 1) ≤ 1
half_bit zero zero g h = omega arith
half_bit zero (suc zero) g h = omega arith
half_bit zero (suc (suc half)) g h = absurd (omega arith)
half_bit (suc zero) zero g h = omega arith
half_bit (suc zero) (suc zero) g h = omega arith
half_bit (suc zero) (suc (suc half)) g h = absurd (omega arith)
half_bit (suc (suc smod)) half g h = absurd (omega arith)

pub smod_bit : (l : ℕ) (d : Device) {k : Clocking} → k ≡ clocking_of l d → k.smod ≤ 1
unfolding clocking_of
smod_bit l d e = let m = ap (λ (x : Clocking). x.smod) e in omega arith
