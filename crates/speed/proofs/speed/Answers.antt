-- `speed` makes a request within the limits.
use Rattle.laws.proofs.Guards.{yes}
use Rattle.speed.proofs.Limits.{limits}
use Rattle.speed.proofs.speed.Goals as goal

pub invariant_of-request : goal.invariant_of-request
invariant_of-request c = record { limits = limits _ _ _ (yes c.allowed.ensures c.if-not-allowed.false) }
