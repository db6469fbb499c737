use Rattle.checkpoint.proofs.Steps.{Halfway}
use Rattle.checkpoint.proofs.read.Given as goal

abbrev pub invariant-loop-n : goal.invariant-loop-n
invariant-loop-n l = Halfway l.kind l.file l.r l.n
