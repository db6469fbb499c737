-- `blank` is the definition, field by field.
use mathlib.Core.Path.{refl}
use Rattle.machine.specs.Times.{never}
use Rattle.machine.specs.Record.{blank}
use Rattle.record.proofs.blank.Goals as goal

pub returns : goal.returns
unfolding blank never
returns c = refl
