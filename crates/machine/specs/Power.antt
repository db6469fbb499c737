-- Document 02, request One: idle and power-down. With IDL set the peripherals go on as before and a take clears it. With PD set, which
-- wins over IDL, a cycle alters nothing, nothing is offered, and only reset ends it.
use Rattle.std.specs.Prelude.{ℕ, Bool, eqb}
use Rattle.machine.specs.Bits.{bit, clear_bit}
use Rattle.machine.specs.Registers.{PD, IDL}

-- PD is set, whatever IDL is
abbrev pub powered_down : ℕ → Bool
powered_down pcon = eqb (bit PD pcon) 1

-- PCON after a take
abbrev pub awoken : ℕ → ℕ
awoken pcon = clear_bit IDL pcon
