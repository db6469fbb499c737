-- `ticks::half_after` is halfAfter: a sum that wraps at 256 keeps its lowest bit.
use Rattle.std.proofs.Common.{◌≡◌, ◌+◌, ◌%◌, arith}
use Rattle.laws.proofs.Bits.{low1}
use Rattle.machine.specs.Serial.{half_after}
use Rattle.ticks.proofs.half_after.Goals as goal

pub returns : goal.returns
unfolding half_after
returns c =
    let sum = c.args.half + c.args.overflow1 in
    let e : sum % 256 % 2 ≡ sum % 2 = omega arith in
    simp (c.picked.ensures, low1, e)
