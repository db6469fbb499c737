-- What request Four asks of the answer, in its own words. Proved in proofs/Chosen.antt.
use Rattle.std.specs.Prelude.{ℕ, ◌+◌, ◌*◌, ◌≤◌, ◌<◌, ◌≡◌, true, ◌⊎◌}
use Rattle.baud.specs.declared.Pair.{Pair}
use Rattle.baud.specs.declared.Fraction.{Fraction}
use Rattle.baud.specs.Answers.{SpeedAnswer, Refused, Found, Nothing}
use Rattle.baud.specs.Speed.{rate_of, within, as_near, speed}

-- the limits of the three numbers
pub record Allowed (crystal rate tolerance : ℕ) : Type 0 where
  pub crystal_least : 1 ≤ crystal
  pub crystal_most : crystal ≤ 40000000
  pub rate_least : 1 ≤ rate
  pub rate_most : rate ≤ 1000000
  pub tolerance_most : tolerance ≤ 10000

-- SMOD is 0 or 1, TH1 is 0 to 255
pub record IsPair (p : Pair) : Type 0 where
  pub smod : p.smod ≤ 1
  pub th1 : p.th1 ≤ 255

-- SMOD 0 before SMOD 1, then the larger TH1
abbrev pub Preferred : Pair → Pair → Type 0
Preferred p q = (p.smod < q.smod) ⊎ ((p.smod ≡ q.smod) × (q.th1 ≤ p.th1))

-- the pair that is asked for: within the tolerance, at least as near as every pair, and preferred to every one that is as near
pub record Chosen (crystal rate tolerance : ℕ) (p : Pair) : Type 0 where
  pub pair : IsPair p
  pub within : within crystal rate tolerance p ≡ true
  pub nearest : (q : Pair) → IsPair q → as_near crystal rate p q ≡ true
  pub preferred : (q : Pair) → IsPair q → as_near crystal rate q p ≡ true → Preferred p q

-- n is the fraction in whole numbers, cut downward
pub record CutDown (f : Fraction) (n : ℕ) : Type 0 where
  pub low : n * f.denominator ≤ f.numerator
  pub high : f.numerator < (n + 1) * f.denominator

-- a pair is found, with its achieved rate
pub record Finds (crystal rate tolerance : ℕ) (p : Pair) (n : ℕ) : Type 0 where
  pub allowed : Allowed crystal rate tolerance
  pub chosen : Chosen crystal rate tolerance p
  pub achieved : CutDown (rate_of crystal p) n

-- no pair is within the tolerance
pub record FindsNone (crystal rate tolerance : ℕ) : Type 0 where
  pub allowed : Allowed crystal rate tolerance
  pub none : (p : Pair) → IsPair p → within crystal rate tolerance p ≡ true → ⊥

-- what an answer says
abbrev pub Says : ℕ → ℕ → ℕ → SpeedAnswer → Type 0
Says crystal rate tolerance (Refused k) = (k ≡ 14) × (Allowed crystal rate tolerance → ⊥)
Says crystal rate tolerance (Found smod th1 n) = Finds crystal rate tolerance (record { smod = smod; th1 = th1 }) n
Says crystal rate tolerance Nothing = FindsNone crystal rate tolerance

-- what the answer says is so, and it is the only answer of which that holds: found exactly where a pair is within the tolerance, none
-- exactly where there is none, refused exactly outside the limits
pub record Chooses : Type 0 where
  pub so : (crystal rate tolerance : ℕ) → Says crystal rate tolerance (speed crystal rate tolerance)
  pub only : (crystal rate tolerance : ℕ) (a : SpeedAnswer) → Says crystal rate tolerance a → a ≡ speed crystal rate tolerance
