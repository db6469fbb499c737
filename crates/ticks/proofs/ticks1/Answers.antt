-- `ticks::ticks1` is ticks1: one pick for each of its tests.
use Rattle.machine.specs.Serial.{ticks1}
use Rattle.ticks.proofs.ticks1.Goals as goal

pub returns : goal.returns
unfolding ticks1
returns c = simp (c.picked-2.ensures, c.picked.ensures)
