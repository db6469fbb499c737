-- `risen` is the definition: each flag by the contract of its test.
use Rattle.machine.specs.Flags.{risen}
use Rattle.flags.proofs.risen.Goals as goal

pub returns : goal.returns
unfolding risen
returns c =
    simp (c.rises-8.ensures, c.rises-7.ensures, c.rises-6.ensures, c.rises-5.ensures, c.rises-4.ensures, c.rises-3.ensures, c.rises-2.ensures, c.rises.ensures)
