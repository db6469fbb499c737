-- Fractions compared crosswise: they are in order, and their products fit 64 bits.
use Rattle.std.proofs.Common.{ℕ, ◌+◌, ◌*◌, ◌^◌, ◌≤◌, ◌<◌, ◌≡◌, true, false, ⊎_elim, le_refl, le_of_lt, mul-le-mul, mul-le-mul_right, mul_right_comm, le_of_mul-le-mul_right, eq-or-lt_of_le, arith, leb-true, leb-false, le-leb}
use Rattle.baud.specs.declared.Pair.{Pair}
use Rattle.baud.specs.declared.Fraction.{Fraction}
use Rattle.baud.specs.Speed.{rate_of, at_most, away}
use Rattle.speed.specs.Nearest.{Sized}

-- a/b ≤ c/d and c/d ≤ e/f give a/b ≤ e/f
cross : (a b c d e f : ℕ) → 0 < d → a * d ≤ c * b → c * f ≤ e * d → a * f ≤ e * b
cross a b c d e f h p q =
    let s = mul-le-mul_right f p in
    let t = mul-le-mul_right b q in
    let l : a * f * d ≤ e * b * d = omega (arith, mul_right_comm a f d, mul_right_comm c b f, mul_right_comm e d b) in
    le_of_mul-le-mul_right l h

module _ (f g : Fraction) where
  at_most_lem : f.numerator * g.denominator ≤ g.numerator * f.denominator → at_most f g ≡ true
  unfolding at_most
  at_most_lem h = le-leb (f.numerator * g.denominator) (g.numerator * f.denominator) h

  at_most_means : at_most f g ≡ true → f.numerator * g.denominator ≤ g.numerator * f.denominator
  unfolding at_most
  at_most_means e = leb-true (f.numerator * g.denominator) (g.numerator * f.denominator) e

  above : at_most f g ≡ false → g.numerator * f.denominator < f.numerator * g.denominator
  unfolding at_most
  above e = leb-false (f.numerator * g.denominator) (g.numerator * f.denominator) e

pub at_most_self : (f : Fraction) → at_most f f ≡ true
at_most_self f = at_most_lem f f (le_refl _)

pub at_most_total : (f g : Fraction) → at_most f g ≡ false → at_most g f ≡ true
at_most_total f g e = at_most_lem g f (le_of_lt (above f g e))

pub at_most_trans : (f g h : Fraction) → 0 < g.denominator → at_most f g ≡ true → at_most g h ≡ true → at_most f h ≡ true
at_most_trans f g h positive p q =
    at_most_lem f h
    (cross f.numerator f.denominator g.numerator g.denominator h.numerator h.denominator positive
    (at_most_means f g p) (at_most_means g h q))

-- two fractions no larger than `Sized` says
pub product_fits : (f g : Fraction) → Sized f → Sized g → f.numerator * g.denominator ≤ 9663676416000000
product_fits f g s t = mul-le-mul s.numerator t.denominator

-- 2^SMOD is 1 or 2
doubled : (s : ℕ) → s ≤ 1 → 2 ^ s ≡ s + 1
doubled s h = ⊎_elim (λ e. rw e) (λ l. let e : s ≡ 0 = omega arith in rw e) (eq-or-lt_of_le h)

-- the rate of a pair
pub denominator_positive : (crystal : ℕ) (p : Pair) → p.th1 ≤ 255 → 0 < (rate_of crystal p).denominator
unfolding rate_of
denominator_positive crystal p h = omega arith

numerator_most : (crystal : ℕ) (p : Pair) → crystal ≤ 40000000 → p.smod ≤ 1 → (rate_of crystal p).numerator ≤ 80000000
unfolding rate_of
numerator_most crystal p h s = let l : 2 ^ p.smod ≤ 2 = omega (arith, doubled p.smod s) in mul-le-mul l h

denominator_most : (crystal : ℕ) (p : Pair) → (rate_of crystal p).denominator ≤ 98304
unfolding rate_of
denominator_most crystal p = omega arith

-- and how far it lies from the wanted one
module _ (crystal rate : ℕ) (p : Pair) where
  pub wanted_fits : rate ≤ 1000000 → rate * (rate_of crystal p).denominator ≤ 98304000000
  wanted_fits h = mul-le-mul h (denominator_most crystal p)

  pub away_sized : crystal ≤ 40000000 → rate ≤ 1000000 → p.smod ≤ 1 → Sized (away crystal rate p)
  unfolding away
  away_sized h r s =
      record { numerator = omega (arith, wanted_fits r, numerator_most crystal p h s); denominator = denominator_most crystal p }

  pub away_positive : p.th1 ≤ 255 → 0 < (away crystal rate p).denominator
  unfolding away
  away_positive = denominator_positive crystal p
