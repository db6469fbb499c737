-- `taken` of Timer 0: a mask clears TF0.
use native.Mathlib.Omega.{arith}
use lib.Dec.{lit<}
use Rattle.machine.specs.Registers.{TF0}
use Rattle.machine.specs.Interrupts.{taken}
use Rattle.laws.proofs.Bits.{clear_bit_lem}
use Rattle.interrupts.proofs.taken.Goals as goal

pub returns-in-1 : goal.returns-in-1
unfolding taken
returns-in-1 c = simp c.in-1.is (clear_bit_lem TF0 (lit< tt) c.args.tcon (omega arith))
