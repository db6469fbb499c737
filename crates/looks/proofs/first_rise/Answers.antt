-- No flag rises from a device to itself, so nothing is found yet.
use Rattle.std.proofs.Common.{rules}
use Rattle.machine.specs.Flags.{flags}
use Rattle.machine.specs.Calls.{rises}
use Rattle.laws.proofs.Flags.{none_rises}
use Rattle.looks.proofs.Looks.{rises_test}
use Rattle.looks.proofs.first_rise.Goals as goal

pub returns : goal.returns
returns c = c.first_found.ensures rises rises_test (none_rises (flags c.args.d)) (λ before after r p. search rules)
