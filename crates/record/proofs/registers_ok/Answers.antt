-- `registers_ok` is the definition: each test by its contract, joined from the left.
use mathlib.Core.Bool.{true}
use Rattle.machine.specs.Registers.{table}
use Rattle.machine.specs.Record.{registers}
use Rattle.registers.specs.Places.{row_at}
use Rattle.machine.proofs.Choices.{joined}
use Rattle.record.proofs.Tests.{register_tests}
use Rattle.record.proofs.registers_ok.Goals as goal

pub returns : goal.returns
unfolding row_at table registers
returns c =
    simp (c.within-16.ensures, c.within-15.ensures, c.within-14.ensures, c.within-13.ensures, c.within-12.ensures, c.within-11.ensures, c.within-10.ensures, c.within-9.ensures, c.within-8.ensures, c.within-7.ensures, c.within-6.ensures, c.within-5.ensures, c.within-4.ensures, c.within-3.ensures, c.within-2.ensures, c.within.ensures)
    (joined true (register_tests c.args.d))
