-- The record check's tests of the registers hold where each does. By induction on the row.
use mathlib.Core.Path.{◌≡◌, refl}
use mathlib.Core.Bool.{Bool, true}
use mathlib.Core.List.{List, [], ◌∷◌, map}
use Prim.Native.Nat.{ℕ}
use Rattle.machine.specs.declared.Device.{Device}
use Rattle.machine.specs.Registers.{implemented, within}
use Rattle.machine.specs.Record.{Register, registers, registers_ok}
use Rattle.machine.proofs.Accepted.{Each}
use Rattle.machine.proofs.Accepted.Each.{done, ◌&◌}

-- a register within its implemented bits, and the tests of a row of them
abbrev pub Kept : ℕ → Register → Type 0
Kept kind r = within (implemented kind r.address) r.value ≡ true

abbrev pub register_tests : Device → List Bool
register_tests d = map (λ (r : Register). within (implemented d.kind r.address) r.value) (registers d)

pub registers_every : (kind : ℕ) (rs : List Register) → Each (Kept kind) rs → registers_ok kind rs ≡ true
registers_every kind [] done = refl
registers_every kind (r ∷ rs) (p & q) = rw p (registers_every kind rs q)
