-- `within` is the definition at the looked-up mask: by the callee's contract.
use Rattle.record.proofs.within.Goals as goal

pub returns : goal.returns
returns c = cc
