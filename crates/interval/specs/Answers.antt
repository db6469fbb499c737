-- What the calls of the plain 82C53 answer: 0 or the refusal's number, what the call gives, 0 where it is refused, and the chip.
use Rattle.std.specs.Prelude.{ℕ}
use Rattle.interval.specs.declared.Counter.{Counter}
use Rattle.interval.specs.declared.Interval.{Interval}

-- a control word or a written byte on one counter, and the counter
pub record CounterAnswer : Type 0 where
  pub code : ℕ
  pub counter : Counter

-- a write
pub record WriteAnswer : Type 0 where
  pub code : ℕ
  pub interval : Interval

-- a read: the byte
pub record ReadAnswer : Type 0 where
  pub code : ℕ
  pub value : ℕ
  pub interval : Interval

-- a pulse and a jump: the outputs
pub record PulseAnswer : Type 0 where
  pub code : ℕ
  pub outputs : ℕ
  pub interval : Interval
