-- `lap_from`: 1 shifted by at most 16 is the power.
use Prim.Native.Nat.{ℕ, ◌*◌, ◌%◌, ◌^◌, ◌≤◌}
use mathlib.Core.Path.{◌≡◌}
use native.Mathlib.Omega.{arith}
use lib.Pow.{pow_mono, shl_exact}
use Rattle.stretch.proofs.lap_from.Goals as goal

-- the number that the shift gives
top : (w : ℕ) → w ≤ 16 → 1 * 2 ^ w % 2 ^ 64 ≡ 1 * 2 ^ w
top w h = shl_exact {a = 1} 1 w 64 (omega arith) (omega arith)

pub overflow_sub-result : goal.overflow_sub-result
overflow_sub-result c = omega (arith, top c.args.width c.requires.0)

pub returns : goal.returns
returns c =
    let e = top c.args.width c.requires.0 in
    let l : 2 ^ c.args.width ≤ 2 ^ 16 = pow_mono c.requires.0 in
    record { is = omega arith; some = omega arith; most = omega arith }
