use Prim.Native.Nat.{ℕ}
use mathlib.Core.List.{map}
use denote.Ref.{Bor}
use Rattle.layout.proofs.Bytes.{Summed}
use Rattle.layout.proofs.number.Given as goal

abbrev pub invariant-loop-byte : goal.invariant-loop-byte
invariant-loop-byte l = Summed (map (λ (y : Bor ℕ). y.now) l.yielded) l.n
