-- Document 01, "Jumps, traces, looking ahead": the eight flags, and when one rises. They stand in the order TF0, TF1, IE0, IE1, RI, TI,
-- TF2, EXF2.
use Rattle.std.specs.Prelude.{ℕ, Bool, false, ◌&&◌, ◌||◌, List, [], ◌∷◌, eqb}
use Rattle.machine.specs.declared.Device.{Device}
use Rattle.machine.specs.Bits.{bit}
use Rattle.machine.specs.Registers.{TF0, TF1, IE0, IE1, RI, TI, TF2, EXF2}

-- the eight flags, from TCON, SCON and T2CON
abbrev pub flags_of : ℕ → ℕ → ℕ → List ℕ
flags_of tcon scon t2con =
    bit TF0 tcon
    ∷ bit TF1 tcon
    ∷ bit IE0 tcon
    ∷ bit IE1 tcon
    ∷ bit RI scon
    ∷ bit TI scon
    ∷ bit TF2 t2con
    ∷ bit EXF2 t2con
    ∷ []

-- those of a device
unfoldable pub flags : Device → List ℕ
flags d = flags_of d.timers.tcon d.serial.scon d.timer2.t2con

-- a flag rises in a cycle that finds it 0 and leaves it 1
abbrev pub rose : ℕ → ℕ → Bool
rose before after = eqb before 0 && eqb after 1

-- which of them do, and whether one does
unfoldable pub risen : List ℕ → List ℕ → List Bool
risen [] after = []
risen (b ∷ before) [] = []
risen (b ∷ before) (a ∷ after) = rose b a ∷ risen before after

abbrev pub any_of : List Bool → Bool
any_of [] = false
any_of (r ∷ rs) = r || any_of rs

unfoldable pub any_rises : List ℕ → List ℕ → Bool
any_rises before after = any_of (risen before after)
