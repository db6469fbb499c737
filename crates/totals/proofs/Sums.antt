-- Sums of totals: with none, in any order of adding, and how great they are.
use Prim.Native.Nat.{ℕ, ◌+◌, ◌≤◌}
use mathlib.Core.Path.{◌≡◌, ap}
use native.Mathlib.Nat.{zero-add, add-zero, add_assoc}
use native.Mathlib.Omega.{arith}
use Rattle.machine.specs.declared.Totals.{Totals}
use Rattle.machine.specs.Calls.{longest}
use Rattle.machine.specs.Totals.{no_totals, added, Within}
use Rattle.totals.specs.Fit.{Fit, Low}

pub none_added : (t : Totals) → added no_totals t ≡ t
none_added t = λ i. record { timer0 = zero-add t.timer0 i; timer1 = zero-add t.timer1 i; timer2 = zero-add t.timer2 i }

pub added_none : (t : Totals) → added t no_totals ≡ t
added_none t = λ i. record { timer0 = add-zero t.timer0 i; timer1 = add-zero t.timer1 i; timer2 = add-zero t.timer2 i }

pub added_on : (a b c : Totals) → added (added a b) c ≡ added a (added b c)
added_on a b c =
    λ i. record {
      timer0 = add_assoc a.timer0 b.timer0 c.timer0 i;
      timer1 = add_assoc a.timer1 b.timer1 c.timer1 i;
      timer2 = add_assoc a.timer2 b.timer2 c.timer2 i;
    }

-- what was added so far is part of the totals of all
pub part_within : {n : ℕ} (a b : Totals) {v : Totals} → Within n v → added a b ≡ v → Within n a
part_within a b w e =
    record {
      timer0 = omega (arith, w.timer0, ap (λ (t : Totals). t.timer0) e);
      timer1 = omega (arith, w.timer1, ap (λ (t : Totals). t.timer1) e);
      timer2 = omega (arith, w.timer2, ap (λ (t : Totals). t.timer2) e);
    }

-- those of a jump after those of others
pub both_within : {m n : ℕ} {a b : Totals} → Within m a → Within n b → Within (m + n) (added a b)
both_within v w =
    record {
      timer0 = omega (arith, v.timer0, w.timer0);
      timer1 = omega (arith, v.timer1, w.timer1);
      timer2 = omega (arith, v.timer2, w.timer2);
    }

pub within_more : {m n : ℕ} {t : Totals} → Within m t → m ≤ n → Within n t
within_more w h =
    record { timer0 = omega (arith, w.timer0); timer1 = omega (arith, w.timer1); timer2 = omega (arith, w.timer2) }

pub none_within : {t : Totals} → t ≡ no_totals → (n : ℕ) → Within n t
none_within e n =
    record {
      timer0 = omega (arith, ap (λ (t : Totals). t.timer0) e);
      timer1 = omega (arith, ap (λ (t : Totals). t.timer1) e);
      timer2 = omega (arith, ap (λ (t : Totals). t.timer2) e);
    }

-- they have room for more, and fit
pub within_low : {n : ℕ} {t : Totals} → Within n t → n ≤ longest + longest → Low t
within_low w h =
    record { timer0 = omega (arith, w.timer0); timer1 = omega (arith, w.timer1); timer2 = omega (arith, w.timer2) }

pub within_fits : {n : ℕ} {t : Totals} → Within n t → n ≤ longest + longest → Fit t
within_fits w h =
    record { timer0 = omega (arith, w.timer0); timer1 = omega (arith, w.timer1); timer2 = omega (arith, w.timer2) }

pub none_low : {t : Totals} → t ≡ no_totals → Low t
none_low e = within_low (none_within e 0) (omega arith)

pub low_fits : {a b : Totals} → Low a → Within 1 b → Fit (added a b)
low_fits l w =
    record {
      timer0 = omega (arith, l.timer0, w.timer0);
      timer1 = omega (arith, l.timer1, w.timer1);
      timer2 = omega (arith, l.timer2, w.timer2);
    }
