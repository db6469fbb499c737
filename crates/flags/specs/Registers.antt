-- The eight flags in the registers that hold them.
use Rattle.std.specs.Prelude.{ℕ, List}
use Rattle.flags.specs.declared.FlagRegisters.{FlagRegisters}
use Rattle.machine.specs.Flags.{flags_of}

-- the flags that they hold, in the order of Flags.antt
abbrev pub flags_in : FlagRegisters → List ℕ
flags_in r = flags_of r.tcon r.scon r.t2con
