-- The layout of a checkpoint as the code goes over it: each part by its number from the front. That these are the parts of the list, in
-- its order, is computed for each of them (proofs/Order.antt).
use Rattle.std.specs.Prelude.{ℕ, ◌+◌, ◌-◌, ◌*◌, ◌/◌, ◌%◌, cond, eqb, ltb}
use Rattle.machine.specs.declared.Part.{Part}
use Rattle.machine.specs.declared.Part.TheVariants.{Mark, Value}
use Rattle.registers.specs.Places.{address_at}

-- the registers that a kind has, the parts of its layout, and the bytes of its files
abbrev pub register_count : ℕ → ℕ
register_count kind = cond (eqb kind 51) 11 16

abbrev pub part_count : ℕ → ℕ
part_count kind = 2 * register_count kind + 44

abbrev pub length_of : ℕ → ℕ
length_of kind = 2 * register_count kind + 275

-- the entries of the first section, the second section, and the third
unfoldable pub register_part : ℕ → Part
register_part n = cond (eqb (n % 2) 0) (Mark (address_at (n / 2))) (Value (n / 2) 1)

unfoldable pub number_part : ℕ → Part
number_part n = cond (eqb n 0) (Mark 25) (Value (15 + n) 8)

unfoldable pub time_part : ℕ → Part
time_part n = cond (eqb n 0) (Mark 8) (cond (eqb (n % 2) 1) (Value (40 + n) 1) (Value (40 + n) 8))

-- a part
unfoldable pub part_at : ℕ → ℕ → Part
part_at kind n =
    let second = 2 * register_count kind + 1 in
    let third = second + 26 in
    cond (eqb n 0) (Mark (register_count kind))
    (cond (ltb n second) (register_part (n - 1))
    (cond (ltb n third) (number_part (n - second))
    (time_part (n - third))))

-- the place of a value
abbrev pub place_of : Part → ℕ
place_of (Mark m) = 0
place_of (Value place width) = place
