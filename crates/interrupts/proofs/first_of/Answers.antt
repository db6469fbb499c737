-- `first_of` is the first bit set, by a test computed at each byte.
use mathlib.Core.Path.{◌∙◌}
use native.Mathlib.Omega.{arith}
use Rattle.interrupts.proofs.Laws.{trailing_first}
use Rattle.interrupts.proofs.first_of.Goals as goal

pub returns-clause-source : goal.returns-clause-source
returns-clause-source c = c.then_some.ensures ∙ trailing_first c.args.sources (omega arith)
