-- The receiver: two tests of its definitions by name, the level of a line and a bit by masks, and the ticks that are left.
use Rattle.std.proofs.Common.{◌≡◌, ℕ, ◌+◌, ◌-◌, ◌*◌, ◌^◌, ◌%◌, ◌<◌, ◌≤◌, Bool, true, false, ◌&&◌, ◌||◌, eqb, leb, sym, refl, ap, arith, suc, bit_and, bit_or}
use Rattle.std.specs.Int.{from_bool}
use Rattle.laws.proofs.Bits.{or_bit, put_mask}
use Rattle.machine.specs.declared.Serial.{Serial}
use Rattle.machine.specs.Bits.{bit, set_bit, put_bit}
use Rattle.machine.specs.Record.{serial_mode}
use Rattle.machine.specs.Registers.{RI, SM2, REN, RB8}
use Rattle.machine.specs.Serial.{receive_tick, receive_ticks, bit_of}
use Rattle.machine.proofs.Choices.{chosen}

-- the tests of the definitions: a whole frame is taken, and a write of SCON with value v asks to receive at position p
abbrev pub takes : ℕ → Serial → Bool
takes b s = eqb (bit RI s.scon) 0 && (eqb (bit SM2 s.scon) 0 || eqb b 1)

abbrev pub asked : ℕ → ℕ → Bool
asked v p = (eqb (serial_mode v) 0 && eqb (bit REN v) 1) && (eqb (bit RI v) 0 && eqb p 0)

-- a bit as a number
pub bit_below : (b : Bool) → from_bool b < 2
bit_below true = omega arith
bit_below false = omega arith

pub is_one : (b : Bool) → eqb (from_bool b) 1 ≡ b
is_one true = refl
is_one false = refl

-- RI, RB8 and a bit of the value by masks
pub ri_set : (scon : ℕ) → bit_or scon 1 ≡ set_bit RI scon
ri_set scon = or_bit scon RI

pub rb8_put : (b : Bool) (scon : ℕ) → scon < 256 → bit_or (bit_and scon 251) (from_bool b * 4 % 256) ≡ put_bit RB8 (from_bool b) scon
rb8_put b scon h = put_mask 8 RB8 (from_bool b) scon (omega arith) (bit_below b) h

pub value_put : (b : Bool) (place value : ℕ) → place < 8 → value < 65536
    → bit_or (bit_and value (65535 - 1 * 2 ^ place % 65536)) (from_bool b * 2 ^ place % 65536) ≡ put_bit place (from_bool b) value
value_put b place value h l = put_mask 16 place (from_bool b) value (omega arith) (bit_below b) l

-- ticks that are left: one of them, then the rest
pub ticks_left : (n i rxd : ℕ) (s : Serial) → i < n → receive_ticks (n - (i + 1)) rxd (receive_tick rxd s) ≡ receive_ticks (n - i) rxd s
unfolding receive_ticks
ticks_left n i rxd s h =
    let e : n - i ≡ suc (n - (i + 1)) = omega arith in
    sym (ap (λ (k : ℕ). receive_ticks k rxd s) e)

pub bit_of_below : (votes rxd : ℕ) → bit_of votes rxd ≤ 1
unfolding bit_of
bit_of_below votes rxd = chosen (λ (b : ℕ). b ≤ 1) (leb 2 (votes + rxd)) 1 0 (omega arith) (omega arith)
