-- The table by its rows: a row has the implemented bits at its address, by a test that is computed at each row.
use mathlib.Core.Path.{◌≡◌, refl, ◌∙◌}
use mathlib.Core.Bool.{Bool, true, false, cond}
use mathlib.Core.List.{List, [], ◌∷◌}
use Prim.Native.Nat.{ℕ, ◌<◌}
use lib.Dec.{T, eqb, eqb→eq}
use lib.ListN.{get_or}
use Rattle.machine.specs.Registers.{Row, table, implemented_in, implemented}
use Rattle.laws.proofs.Tests.{all, at}
use Rattle.registers.specs.Places.{row_at, address_at}

-- every kind other than 51 has the implemented bits of kind 52
column : (kind : ℕ) (old : Bool) → eqb kind 51 ≡ old → (rows : List Row) (a : ℕ)
    → implemented_in rows (cond old 51 52) a ≡ implemented_in rows kind a
unfolding implemented_in
column kind true e [] a = refl
column kind false e [] a = refl
column kind true e (r ∷ rows) a = rw (e, column kind true e rows a)
column kind false e (r ∷ rows) a = rw (e, column kind false e rows a)

-- what a row has for kind 51 or for the others
abbrev bits_at : Bool → ℕ → ℕ
bits_at old n = cond old (get_or (row_at n) 1 0) (get_or (row_at n) 2 0)

abbrev agrees : Bool → ℕ → Bool
agrees old n = eqb (bits_at old n) (implemented_in table (cond old 51 52) (address_at n))

tested : (old : Bool) → T (all (agrees old) 16)
unfolding row_at table implemented_in
tested true = tt
tested false = tt

pub row_bits : (kind n : ℕ) → n < 16 → bits_at (eqb kind 51) n ≡ implemented kind (address_at n)
unfolding implemented
row_bits kind n h =
    let old = eqb kind 51 in
    eqb→eq (bits_at old n) _ (at (agrees old) 16 (tested old) n h) ∙ column kind old refl table (address_at n)
