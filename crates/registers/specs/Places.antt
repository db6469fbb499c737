-- What the code's table and its registers mean: a row is the definitions' row, a register is the one at the address of its row, and what
-- is found at an address is what the definitions say of it.
use Rattle.std.specs.Prelude.{ℕ, ◌≡◌, true, false, List, [], ◌∷◌, map, get_or, Result, Ok, Err}
use Rattle.machine.specs.declared.refusals.Refusal.{Refusal}
use Rattle.machine.specs.declared.refusals.Refusal.TheVariants.{BadAddress}
use Rattle.machine.specs.Registers.{Row, table, implemented, lacks}
use Rattle.registers.specs.declared.Register.{Register}
use Rattle.registers.specs.declared.Register.TheVariants.{Pcon, Tcon, Tmod, Tl0, Tl1, Th0, Th1, Scon, Sbuf, Ie, Ip, T2con, Rcap2l, Rcap2h, Tl2, Th2}

-- row n of the table, as the code has it: the address, and the implemented bits on kind 51 and on kind 52
unfoldable pub row_at : ℕ → List ℕ
row_at n = get_or (map (λ (r : Row). r.address ∷ r.on51 ∷ r.on52 ∷ []) table) n []

abbrev pub address_at : ℕ → ℕ
address_at n = get_or (row_at n) 0 0

-- the row of a register
abbrev pub row_of : Register → ℕ
row_of Pcon = 0
row_of Tcon = 1
row_of Tmod = 2
row_of Tl0 = 3
row_of Tl1 = 4
row_of Th0 = 5
row_of Th1 = 6
row_of Scon = 7
row_of Sbuf = 8
row_of Ie = 9
row_of Ip = 10
row_of T2con = 11
row_of Rcap2l = 12
row_of Rcap2h = 13
row_of Tl2 = 14
row_of Th2 = 15

abbrev pub address_of : Register → ℕ
address_of r = address_at (row_of r)

-- a register with its implemented bits stands at an address that the kind has
pub record Stands (kind a : ℕ) (r : Register) (m : ℕ) : Type 0 where
  pub address : address_of r ≡ a
  pub mask : m ≡ implemented kind a
  pub has : lacks kind a ≡ false

-- the kind lacks an address, which is refusal 3
pub record Lacks (kind a : ℕ) (e : Refusal) : Type 0 where
  pub refusal : e ≡ BadAddress
  pub none : lacks kind a ≡ true

-- what stands at an address
abbrev pub Found : ℕ → ℕ → Result (Register × ℕ) Refusal → Type 0
Found kind a (Ok x) = Stands kind a x.0 x.1
Found kind a (Err e) = Lacks kind a e
