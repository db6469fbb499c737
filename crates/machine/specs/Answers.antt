-- What the calls of the plain machine answer, as document 01 writes it down: 0 or the refusal's number, what the call gives, zeros where
-- it is refused, and the device. Answer, which C is given too, stands in src/.
use Rattle.std.specs.Prelude.{ℕ}
use Rattle.machine.specs.declared.Device.{Device}
use Rattle.machine.specs.declared.Totals.{Totals}

-- a jump: the overflow totals and the rounds
pub record JumpAnswer : Type 0 where
  pub code : ℕ
  pub totals : Totals
  pub rounds : ℕ
  pub device : Device

-- a trace run: the overflow totals
pub record RunAnswer : Type 0 where
  pub code : ℕ
  pub totals : Totals
  pub device : Device

-- a cycle: the output line
pub record CycleAnswer : Type 0 where
  pub code : ℕ
  pub line : ℕ
  pub device : Device

-- a take: the vector
pub record TakeAnswer : Type 0 where
  pub code : ℕ
  pub vector : ℕ
  pub device : Device

-- a read
pub data ReadAnswer : Type 0 where
  Refused : ℕ → ReadAnswer
  Value : ℕ → ReadAnswer

-- an offer
pub data OfferAnswer : Type 0 where
  Refused : ℕ → OfferAnswer
  Vector : ℕ → OfferAnswer
  Nothing : OfferAnswer

-- a look ahead and a wake look
pub data LookAnswer : Type 0 where
  Refused : ℕ → LookAnswer
  At : ℕ → LookAnswer
  Nothing : LookAnswer
