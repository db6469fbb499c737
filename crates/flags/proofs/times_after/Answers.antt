-- `times_after` is the definition: by the contracts of its parts.
use Rattle.machine.specs.Times.{times_after}
use Rattle.flags.proofs.times_after.Goals as goal

pub returns : goal.returns
unfolding times_after
returns c = simp (c.noted-2.ensures, c.noted.ensures, c.risen-r.ensures)
