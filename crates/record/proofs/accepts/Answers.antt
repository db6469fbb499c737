-- `accepts` is the definition: by the contracts of its four parts.
use mathlib.Core.Bool.{and_assoc}
use Rattle.machine.specs.Record.{accepted}
use Rattle.record.proofs.accepts.Goals as goal

pub returns : goal.returns
unfolding accepted
returns c =
    simp (and_assoc, c.pairs_ok.ensures, c.levels_ok.ensures, c.hidden_ok.ensures, c.registers_ok.ensures)
