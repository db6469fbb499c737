use Rattle.layout.proofs.Bytes.{Putting}
use Rattle.layout.proofs.put.Given as goal

abbrev pub invariant-loop-byte : goal.invariant-loop-byte
invariant-loop-byte l = Putting l.n l.initial.byte-items l.byte-items l.byte-index l.left
