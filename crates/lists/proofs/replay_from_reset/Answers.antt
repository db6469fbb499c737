-- `replay_from_reset` is `replay` from what reset gives: by the contracts of both.
use mathlib.Core.Path.{ap}
use Rattle.machine.specs.declared.Answer.{Answer}
use Rattle.machine.specs.Lists.{started, machine}
use Rattle.lists.proofs.replay_from_reset.Goals as goal

pub returns : goal.returns
unfolding started machine
returns c = rw (ap (λ (a : Answer). a.device) c.reset.ensures) at c.replay.ensures
