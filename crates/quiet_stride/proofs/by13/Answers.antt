-- `by13` is the definition: the sum is below 2 ^ 13, and is taken apart again at five bits.
use Rattle.std.proofs.Common.{◌+◌, refl, ◌∙◌, arith}
use Rattle.laws.proofs.Bits.{put_below}
use Rattle.laws.proofs.Counting.{count_eq}
use Rattle.quiet_stride.proofs.by13.Goals as goal

pub returns : goal.returns
returns c =
    let a = c.args in
    count_eq (put_below 3 5 a.p.tl (c.of13.result + a.m) (omega arith) ∙ omega arith) (omega arith) refl
