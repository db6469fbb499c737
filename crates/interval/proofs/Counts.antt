-- One count down, for any largest count.
use mathlib.Core.Path.{◌≡◌, refl}
use Prim.Native.Nat.{ℕ, zero, suc, ◌≤◌}
use native.Mathlib.Omega.{arith}
use borrow.Author.Tests.{ne_eqb}
use Rattle.machine.proofs.Choices.{by_test}
use lib.Dec.{eqb}
use Rattle.interval.specs.Count.{most, one_below}

pub below_zero : (top : ℕ) → one_below top 0 ≡ top
unfolding one_below
below_zero top = refl

pub below_suc : (top n : ℕ) → one_below top (suc n) ≡ n
unfolding one_below
below_suc top n = simp (ne_eqb (suc n) 0 (λ e. omega arith)) (omega arith)

pub below_le : (top n : ℕ) → n ≤ top → one_below top n ≤ top
below_le top zero h = omega (arith, below_zero top)
below_le top (suc n) h = omega (arith, below_suc top n)

-- the largest count is at least 1
pub most_least : (bcd : ℕ) → 1 ≤ most bcd
unfolding most
most_least bcd = by_test (eqb bcd 1) (λ y. simp y (omega arith)) (λ y. simp y (omega arith))
