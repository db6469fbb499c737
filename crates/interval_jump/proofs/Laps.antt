-- Whole laps, by the closed form.
use mathlib.Core.Path.{◌≡◌, refl, ap}
use mathlib.Core.Bool.{true, and-false}
use Prim.Native.Nat.{ℕ, zero, suc, ◌+◌, ◌-◌, ◌^◌, ◌≤◌}
use native.Mathlib.Omega.{arith}
use borrow.Author.Tests.{le-ltb, le-leb, ne_eqb}
use Rattle.interval.specs.declared.Counter.{Counter}
use Rattle.interval.specs.Count.{most, one_below}
use Rattle.interval.specs.Counter.{fresh, complete, stands, load, counts0, pulse0, again, pulse2, with_gate, pulse, pulses}
use Rattle.interval.specs.Interval.{fields, counter_ok}
use Rattle.interval.proofs.Ranges.{within_of}
use Rattle.interval_jump.specs.Jump.{down_by, left, after0, within2, after2, steady}
use Rattle.interval_jump.specs.Laps.{written, output_after, Laps}
use Rattle.interval_jump.proofs.Jumps.{jump_law}

-- the closed form of suc n pulses
module _ (mode bcd c : ℕ) (ok : counter_ok (written mode bcd c) ≡ true) where
  closed : (n : ℕ) → pulses (suc n) 1 (written mode bcd c) ≡ steady n 1 (pulse 1 (written mode bcd c))
  closed n = jump_law n 1 (written mode bcd c) (omega arith) (within_of (written mode bcd c) ok)

  output : (n : ℕ) → output_after (suc n) (written mode bcd c) ≡ (steady n 1 (pulse 1 (written mode bcd c))).output
  output n = ap (λ (k : Counter). k.output) (closed n)

-- up to the end of the first lap, the largest count being the one that is left after the load
low0 : (bcd : ℕ) → counter_ok (written 0 bcd 0) ≡ true → (m : ℕ) → m ≤ suc (most bcd) → output_after m (written 0 bcd 0) ≡ 0
unfolding one_below fresh complete stands load counts0 pulse0 with_gate pulse pulses left after0 steady
low0 bcd ok zero h = refl
low0 bcd ok (suc m) h = simp (output 0 bcd 0 ok m, le-ltb (most bcd) m (omega arith))

high2 : (bcd : ℕ) → counter_ok (written 2 bcd 0) ≡ true → (m : ℕ) → m ≤ most bcd → output_after m (written 2 bcd 0) ≡ 1
unfolding one_below fresh complete stands load again pulse2 with_gate pulse pulses left within2 after2 steady
high2 bcd ok zero h = refl
high2 bcd ok (suc m) h =
    simp (output 2 bcd 0 ok m, le-leb m (most bcd) (omega arith), ne_eqb m (most bcd) (λ e. omega arith), and-false)

pub laps : Laps
unfolding counter_ok fields most one_below fresh complete stands load counts0 pulse0 again pulse2 with_gate pulse down_by left after0 within2 after2 steady
laps =
    record {
      binary0 = record { low = low0 0 refl; high = output 0 0 0 refl 65536 };
      binary2 = record { high = high2 0 refl; low = output 2 0 0 refl 65535; again = output 2 0 0 refl 65536 };
      bcd0 = record { low = low0 1 refl; high = output 0 1 0 refl 10000 };
      bcd2 = record { high = high2 1 refl; low = output 2 1 0 refl 9999; again = output 2 1 0 refl 10000 };
      longest =
          record {
            count = ap (λ (k : Counter). k.count) (closed 2 0 1000 refl (2 ^ 40 - 1));
            high = output 2 0 1000 refl (2 ^ 40 + 222);
            low = output 2 0 1000 refl (2 ^ 40 + 223);
            again = output 2 0 1000 refl (2 ^ 40 + 224);
          };
    }
