-- `within` is its definition: the products fit.
use Rattle.std.proofs.Common.{◌*◌, ◌≤◌, arith, mul-le-mul}
use Rattle.speed.proofs.Fractions.{away_sized}
use Rattle.speed.proofs.Request.within.Goals as goal

pub at_most-requires : goal.at_most-requires
at_most-requires c =
    let r = c.args.self in
    let l = r.limits in
    let w : r.rate * r.tolerance ≤ 10000000000 = mul-le-mul l.rate_most l.tolerance_most in (
      rw c.away.ensures (away_sized r.crystal r.rate c.args.p l.crystal_most l.rate_most c.requires),
      record { numerator = omega arith; denominator = omega arith },
    )
