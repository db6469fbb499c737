-- `ticks::ticks_of` is ticksOf: one pick for each of its tests.
use Rattle.machine.specs.Serial.{ticks_of}
use Rattle.ticks.proofs.ticks_of.Goals as goal

pub returns : goal.returns
unfolding ticks_of
returns c = simp (c.picked-2.ensures, c.picked.ensures, c.mode2_ticks.ensures, c.picked-timed.ensures)
