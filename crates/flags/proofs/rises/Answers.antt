-- `rises` is the definition: the two bits by the law of a mask.
use Rattle.laws.proofs.Bits.{bits}
use Rattle.flags.proofs.rises.Goals as goal

pub returns : goal.returns
returns c = simp bits
