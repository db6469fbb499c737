-- `reset_of` is the definition: by the callee's contract.
use Rattle.machine.specs.Record.{reset_of}
use Rattle.record.proofs.reset_of.Goals as goal

pub returns : goal.returns
unfolding reset_of
returns c = c.blank.ensures
