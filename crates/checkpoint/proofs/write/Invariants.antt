use Rattle.checkpoint.proofs.Writes.{Writing}
use Rattle.checkpoint.proofs.write.Given as goal

abbrev pub invariant-loop-n : goal.invariant-loop-n
invariant-loop-n l = Writing l.kind l.v l.initial.buffer l.buffer l.n l.at
