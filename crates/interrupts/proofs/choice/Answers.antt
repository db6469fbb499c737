-- `choice` is the source chosen: its masks are the sources that ask, by the law on each bit.
use mathlib.Core.Path.{ap}
use Rattle.machine.specs.Registers.{EA}
use Rattle.laws.proofs.Bits.{and_one}
use Rattle.interrupts.specs.Number.{source_of, holding}
use Rattle.interrupts.proofs.Laws.{choice_by_masks}
use Rattle.interrupts.proofs.choice.Goals as goal

pub returns-clause-source : goal.returns-clause-source
returns-clause-source c =
    let a = c.args in
    λ seen.
    simp (c.first_of.ensures.source, c.picked.ensures, c.picked-chosen.ensures, c.picked-unmarked.ensures, c.picked-enabled.ensures, and_one a.ie EA)
    (ap source_of (choice_by_masks (holding a.polled a.ie a.ip a.low a.high seen)))
