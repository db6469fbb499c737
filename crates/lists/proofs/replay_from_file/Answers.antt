-- `replay_from_file` is `replay` from what a load gives: by the contracts of both.
use mathlib.Core.Path.{ap}
use Rattle.machine.specs.declared.Answer.{Answer}
use Rattle.machine.specs.Lists.{started, machine}
use Rattle.lists.proofs.replay_from_file.Goals as goal

pub returns : goal.returns
unfolding started machine
returns c = rw (ap (λ (a : Answer). a.device) c.load.ensures) at c.replay.ensures
