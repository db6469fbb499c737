-- Document 01, "Serial port": where the next cycle finds the serial port resting.
use Rattle.std.specs.Prelude.{Bool, ◌&&◌, ◌||◌, not, eqb}
use Rattle.machine.specs.declared.Serial.{Serial}
use Rattle.machine.specs.declared.Ticks.{Ticks}
use Rattle.machine.specs.Record.{serial_mode}

-- no tick comes, and in mode 0 nothing is under way
abbrev pub idles : Ticks → Serial → Bool
idles k s =
    (eqb k.send 0 && eqb k.receive 0)
    && (not (eqb (serial_mode s.scon) 0) || (eqb s.send.position 0 && eqb s.receive.position 0))
