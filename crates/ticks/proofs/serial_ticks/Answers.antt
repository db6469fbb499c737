-- `ticks::serial_ticks` is serialTicks: the fields of SCON, PCON and T2CON, and a call for each of its parts.
use Rattle.laws.proofs.Bits.{low1}
use Rattle.machine.specs.Serial.{serial_ticks}
use Rattle.ticks.proofs.serial_ticks.Goals as goal

pub returns : goal.returns
unfolding serial_ticks
returns c =
    simp (c.half_after-half.ensures, c.ticks_of-receive.ensures, c.ticks_of-send.ensures, c.ticks1-by1.ensures, c.mode_of-mode.ensures, low1)
