-- Each step of the interrupt controller keeps its fields in their ranges, by the cases of its definition.
use Prim.Native.Nat.{ℕ, ◌<◌, ◌≤◌}
use native.Mathlib.Nat.{le_trans, sub-le}
use native.Mathlib.Omega.{arith}
use lib.Dec.{eqb, lit≤}
use Rattle.laws.specs.Ranges.{InterruptsOk}
use Rattle.machine.proofs.Choices.{chosen}
use Rattle.laws.proofs.Bits.{set_lt, clear_lt}
use Rattle.machine.specs.Bits.{bit, set_bit}
use Rattle.machine.specs.Registers.{TF0, TF1, IE0, IE1, IT0, IT1, RI, TI, TF2, EXF2}
use Rattle.machine.specs.declared.Interrupts.{Interrupts}
use Rattle.machine.specs.Interrupts.{external, seen_of, in_service, taken, returned}
use Rattle.interrupts.proofs.Laws.{either_few}

abbrev Byte : ℕ → Type 0
Byte n = n < 256

abbrev Mark : ℕ → Type 0
Mark n = n ≤ 1

-- TCON stays a byte at a pin and at a take
pub external_byte : (it ie fell level tcon : ℕ) → ie < 8 → tcon < 256 → external it ie fell level tcon < 256
unfolding external
external_byte it ie fell level tcon h l =
    let set : set_bit ie tcon < 256 = set_lt 8 ie tcon h l in
    chosen Byte (eqb (bit it tcon) 1) _ _ (chosen Byte (eqb fell 1) _ _ set l)
    (chosen Byte (eqb level 0) _ _ set (clear_lt 8 ie tcon l))

pub taken_byte : (k tcon : ℕ) → tcon < 256 → taken k tcon < 256
unfolding taken
taken_byte k tcon l =
    chosen Byte (eqb k 0) _ _ (chosen Byte (eqb (bit IT0 tcon) 1) _ _ (clear_lt 8 IE0 tcon l) l)
    (chosen Byte (eqb k 1) _ _ (clear_lt 8 TF0 tcon l)
    (chosen Byte (eqb k 2) _ _ (chosen Byte (eqb (bit IT1 tcon) 1) _ _ (clear_lt 8 IE1 tcon l) l)
    (chosen Byte (eqb k 3) _ _ (clear_lt 8 TF1 tcon l) l)))

-- seen has six bits
pub seen_most : (tcon scon t2con : ℕ) → seen_of tcon scon t2con ≤ 63
unfolding seen_of
seen_most tcon scon t2con =
    omega (arith, either_few (bit RI scon) (bit TI scon), either_few (bit TF2 t2con) (bit EXF2 t2con))

-- a take and a return keep the ranges
pub in_service_ok : (kind k : ℕ) (i : Interrupts) → InterruptsOk kind i → InterruptsOk kind (in_service k i)
unfolding in_service
in_service_ok kind k i r =
    record {
      ie = r.ie;
      ie_bits = r.ie_bits;
      ip = r.ip;
      ip_bits = r.ip_bits;
      seen = le_trans (sub-le i.seen _) r.seen;
      polled = le_trans (sub-le i.polled _) r.polled;
      low = chosen Mark (eqb (bit k i.ip) 1) _ _ r.low (lit≤ tt);
      high = chosen Mark (eqb (bit k i.ip) 1) _ _ (lit≤ tt) r.high;
    }

pub returned_ok : (kind : ℕ) (i : Interrupts) → InterruptsOk kind i → InterruptsOk kind (returned i)
unfolding returned
returned_ok kind i r =
    record {
      ie = r.ie;
      ie_bits = r.ie_bits;
      ip = r.ip;
      ip_bits = r.ip_bits;
      seen = r.seen;
      polled = r.polled;
      low = chosen Mark (eqb i.high 1) _ _ r.low (lit≤ tt);
      high = lit≤ tt;
    }
