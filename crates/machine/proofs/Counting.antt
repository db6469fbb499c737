-- One count of any width stays one of that width, with and without a reload, and overflows at most once.
use Prim.Native.Nat.{ℕ, ◌+◌, ◌^◌, ◌<◌, ◌≤◌}
use native.Mathlib.Nat.{mod-lt, div-lt_iff_lt-mul}
use native.Mathlib.Omega.{arith}
use lib.Dec.{eqb}
use lib.Pow.{pow_pos}
use Rattle.machine.specs.Counting.{next, overflow, next_or}
use Rattle.machine.proofs.Choices.{chosen}

pub next_lt : (w n : ℕ) → next w n < 2 ^ w
next_lt w n = mod-lt (n + 1) (pow_pos w)

pub next_or_lt : (w reload n : ℕ) → reload < 2 ^ w → next_or w reload n < 2 ^ w
next_or_lt w reload n r = chosen (λ (c : ℕ). c < 2 ^ w) (eqb (overflow w n) 1) reload (next w n) r (next_lt w n)

pub overflow_le : (w n : ℕ) → n < 2 ^ w → overflow w n ≤ 1
overflow_le w n h = let l : overflow w n < 2 = (div-lt_iff_lt-mul (pow_pos w)).1 (omega (arith, pow_pos w)) in omega arith
