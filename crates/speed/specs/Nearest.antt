-- What the search goes by: fractions whose products fit 64 bits, and the nearest pair of those so far.
use Rattle.std.specs.Prelude.{ℕ, ◌≤◌, ◌<◌, ◌≡◌, true, false}
use Rattle.baud.specs.declared.Fraction.{Fraction}
use Rattle.baud.specs.Speed.{as_near, pair_at}

-- neither number of a fraction is larger than that of a distance can be: 1,000,000 × 98,304, and 384 × 256
pub record Sized (f : Fraction) : Type 0 where
  pub numerator : f.numerator ≤ 98304000000
  pub denominator : f.denominator ≤ 98304

-- of the first n pairs, the one at place b is at least as near as each, and none before it is as near
pub record FirstNearest (crystal rate n b : ℕ) : Type 0 where
  pub place : b < n
  pub nearest : (k : ℕ) → k < n → as_near crystal rate (pair_at b) (pair_at k) ≡ true
  pub first : (k : ℕ) → k < b → as_near crystal rate (pair_at k) (pair_at b) ≡ false
