-- What the code's choice is made from, and what it gives for what is offered: an Option of a source's bit in polled.
use Rattle.std.specs.Prelude.{ℕ, eqb, Option, Some, None}
use Rattle.machine.specs.Bits.{bit}
use Rattle.machine.specs.declared.Interrupts.{Interrupts}
use Rattle.machine.specs.Interrupts.{Source, none, source, first_of, sources}

abbrev pub source_of : Source → Option ℕ
source_of none = None
source_of (source k) = Some k

-- the first source whose bit is set in x
unfoldable pub first_set : ℕ → Source
first_set x = first_of (λ (k : ℕ). eqb (bit k x) 1) sources

-- the interrupt controller with the five numbers from which a source is chosen, and with what it has seen
abbrev pub holding : ℕ → ℕ → ℕ → ℕ → ℕ → ℕ → Interrupts
holding polled ie ip low high seen =
    record {
      ie = ie;
      ip = ip;
      seen = seen;
      polled = polled;
      low = low;
      high = high;
    }
