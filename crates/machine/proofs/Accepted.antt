-- An accepted record, test by test: each register within its implemented bits and a byte, each hidden field within its range, the saved
-- levels and the flag times. By induction on the lists of them.
use mathlib.Core.Path.{◌≡◌, refl, subst}
use mathlib.Core.Bool.{Bool, true, cond, ◌&&◌}
use mathlib.Core.List.{List, [], ◌∷◌}
use Prim.Native.Nat.{ℕ, ◌<◌, ◌≤◌}
use native.Mathlib.Omega.{arith}
use lib.Dec.{eqb, leb, ltb, lit<}
use lib.Bits.{bit_and, and_zero_l, and_le_r}
use borrow.Author.Tests.{ltb-true, leb-true, le-leb, eqb-true, eq-eqb}
use Rattle.machine.specs.declared.Device.{Device}
use Rattle.machine.specs.Registers.{Row, table, implemented_in, implemented, within}
use Rattle.machine.specs.Times.{times_ok}
use Rattle.machine.specs.Record.{Register, registers, registers_ok, Hidden, hidden_fields, hidden_ok, levels_ok, kind_ok, accepted}
use Rattle.machine.specs.Calls.{value_in}
use Rattle.machine.proofs.Choices.{chosen, cond_has, and_left, and_right, and_two}

-- masks are bytes, on every kind and at every address
abbrev bytes : List Row → Bool
bytes [] = true
bytes (r ∷ rows) = (ltb r.on51 256 && ltb r.on52 256) && bytes rows

implemented_byte : (rows : List Row) → bytes rows ≡ true → (kind a : ℕ) → implemented_in rows kind a < 256
unfolding implemented_in
implemented_byte [] e kind a = lit< tt
implemented_byte (r ∷ rows) e kind a =
    let h = and_two (ltb r.on51 256 && ltb r.on52 256) (bytes rows) e in
    let m = and_two (ltb r.on51 256) (ltb r.on52 256) h.0 in
    chosen (λ (n : ℕ). n < 256) (eqb r.address a) (cond (eqb kind 51) r.on51 r.on52) (implemented_in rows kind a)
    (chosen (λ (n : ℕ). n < 256) (eqb kind 51) r.on51 r.on52 (ltb-true _ _ m.0) (ltb-true _ _ m.1))
    (implemented_byte rows h.1 kind a)

-- a number within a mask is no greater
within_le : (m x : ℕ) → within m x ≡ true → x ≤ m
within_le m x e = subst (λ (n : ℕ). n ≤ m) (eqb-true (bit_and x m) x e) (and_le_r x m)

-- a register within its implemented bits is a byte
within_byte : (kind a x : ℕ) → within (implemented kind a) x ≡ true → x < 256
unfolding implemented table
within_byte kind a x e = omega (arith, implemented_byte table refl kind a, within_le (implemented kind a) x e)

-- the register at an address, 0 where there is none, is within its implemented bits
held : (kind : ℕ) (rs : List Register) → registers_ok kind rs ≡ true → (a : ℕ) → within (implemented kind a) (value_in rs a) ≡ true
unfolding value_in
held kind [] e a = eq-eqb (bit_and 0 (implemented kind a)) 0 (and_zero_l (implemented kind a))
held kind (r ∷ rs) e a =
    let h = and_two (within (implemented kind r.address) r.value) (registers_ok kind rs) e in
    cond_has (λ (x : ℕ). within (implemented kind a) x ≡ true) (eqb r.address a) r.value (value_in rs a)
    (λ q. subst (λ (n : ℕ). within (implemented kind n) r.value ≡ true) (eqb-true r.address a q) h.0)
    (λ q. held kind rs h.1 a)

infixr 5 ◌&◌
-- a list of facts, one about each element
pub data Each {A : Type 0} (P : A → Type 0) : List A → Type 0 where
  done : Each P []
  ◌&◌ : {x : A} {xs : List A} → P x → Each P xs → Each P (x ∷ xs)

-- a hidden field within its range
abbrev pub Most : Hidden → Type 0
Most h = h.value ≤ h.most

pub hidden_each : (hs : List Hidden) → hidden_ok hs ≡ true → Each Most hs
hidden_each [] e = done
hidden_each (h ∷ hs) e =
    let s = and_two (leb h.value h.most) (hidden_ok hs) e in
    leb-true _ _ s.0 & hidden_each hs s.1

pub hidden_every : (hs : List Hidden) → Each Most hs → hidden_ok hs ≡ true
hidden_every [] done = refl
hidden_every (h ∷ hs) (p & q) = rw (le-leb _ _ p) (hidden_every hs q)

module _ (d : Device) (ok : accepted d ≡ true) where
  pub kind_ok_lem : kind_ok d.kind ≡ true
  unfolding accepted
  kind_ok_lem = and_left (kind_ok d.kind) _ ok

  rest : (registers_ok d.kind (registers d) && (hidden_ok (hidden_fields d) && (levels_ok d.levels && times_ok d.times))) ≡ true
  unfolding accepted
  rest = and_right (kind_ok d.kind) _ ok

  others : (hidden_ok (hidden_fields d) && (levels_ok d.levels && times_ok d.times)) ≡ true
  others = and_right (registers_ok d.kind (registers d)) _ rest

  -- the register at an address: within its implemented bits, and a byte
  pub bits : (a : ℕ) → within (implemented d.kind a) (value_in (registers d) a) ≡ true
  bits = held d.kind (registers d) (and_left (registers_ok d.kind (registers d)) _ rest)

  pub byte : (a : ℕ) → value_in (registers d) a < 256
  byte a = within_byte d.kind a (value_in (registers d) a) (bits a)

  lists : (levels_ok d.levels && times_ok d.times) ≡ true
  lists = and_right (hidden_ok (hidden_fields d)) _ others

  -- the hidden fields, the saved levels, and the flag times
  pub hidden_most : Each Most (hidden_fields d)
  hidden_most = hidden_each (hidden_fields d) (and_left (hidden_ok (hidden_fields d)) _ others)

  pub levels_ok_lem : levels_ok d.levels ≡ true
  levels_ok_lem = and_left (levels_ok d.levels) _ lists

  pub times_ok_lem : times_ok d.times ≡ true
  times_ok_lem = and_right (levels_ok d.levels) _ lists
