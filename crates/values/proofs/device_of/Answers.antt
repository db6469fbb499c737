-- `values::device_of` is the definition: part by part.
use Rattle.machine.specs.Checkpoint.{device_with}
use Rattle.values.specs.Values.{most_at, cut}
use Rattle.values.proofs.device_of.Goals as goal

pub returns : goal.returns
unfolding device_with most_at cut
returns c =
    simp (c.times_of.ensures, c.levels_of.ensures, c.interrupts_of.ensures, c.serial_of.ensures, c.timer2_of.ensures, c.timers_of.ensures)
