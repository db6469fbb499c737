-- `away` is its definition: the product fits, and its distance from the numerator is `abs_diff`.
use Rattle.std.proofs.Common.{◌*◌, ◌≤◌, arith}
use Rattle.speed.proofs.Fractions.{wanted_fits}
use Rattle.speed.proofs.Request.away.Goals as goal

pub overflow_mul-self : goal.overflow_mul-self
overflow_mul-self c =
    let a = c.args in
    let w : a.self.rate * c.rate_of-f.result.denominator ≤ 98304000000 =
    rw c.rate_of-f.ensures (wanted_fits a.self.crystal a.self.rate a.p a.self.limits.rate_most)
    in
    record { fits = omega arith }
