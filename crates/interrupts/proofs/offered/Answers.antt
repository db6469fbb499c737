-- `offered` out of power-down is the choice, whatever is seen.
use Rattle.machine.specs.Interrupts.{offered}
use Rattle.std.proofs.Common.{arith}
use Rattle.interrupts.proofs.offered.Goals as goal

pub returns-clause-source : goal.returns-clause-source
unfolding offered
returns-clause-source c =
    let e = c.choice.ensures.source c.args.i.seen in
    grind arith
