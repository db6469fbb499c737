-- `at_most` is its definition: both products fit.
use Rattle.std.proofs.Common.{arith}
use Rattle.speed.proofs.Fractions.{product_fits}
use Rattle.speed.proofs.at_most.Goals as goal

pub overflow_mul-result : goal.overflow_mul-result
overflow_mul-result c = let s = c.requires in record { fits = omega (arith, product_fits _ _ s.0 s.1) }

pub overflow_mul-result-2 : goal.overflow_mul-result-2
overflow_mul-result-2 c = let s = c.requires in record { fits = omega (arith, product_fits _ _ s.1 s.0) }
