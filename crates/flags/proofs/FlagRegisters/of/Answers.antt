-- `FlagRegisters::of` is the definition.
use Rattle.std.proofs.Common.{refl}
use Rattle.machine.specs.Flags.{flags}
use Rattle.flags.proofs.FlagRegisters.of.Goals as goal

pub returns : goal.returns
unfolding flags
returns c = refl
