-- `zeros` is the definition: by the callee's contract.
use Rattle.machine.specs.Record.{zeros}
use Rattle.record.proofs.zeros.Goals as goal

pub returns : goal.returns
unfolding zeros
returns c = c.blank.ensures
