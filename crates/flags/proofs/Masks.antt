-- The flags that rise, by masks: bit k of `!before & after` is 1 where bit k rises, and of these the flags are masked out;
-- by the law of a bit of a mask, and by a test at each of the 256 bytes.
use Prim.Native.Nat.{ℕ, zero, suc, ◌-◌, ◌<◌, ◌≤◌, min}
use mathlib.Core.Path.{◌≡◌, refl, sym, ap, ◌∙◌}
use mathlib.Core.Bool.{Bool, true, false, ◌&&◌, ◌||◌, not, or-false}
use native.Mathlib.Omega.{arith}
use lib.Dec.{eqb, eqb→eq, T, lit<}
use lib.Bits.{bit_and, and_le_l}
use Rattle.laws.proofs.Bits.{bit_and_lem, bit_below}
use Rattle.laws.proofs.Tests.{all, at}
use Rattle.machine.specs.Bits.{bit}
use Rattle.machine.specs.Registers.{TF0, TF1, IE0, IE1, RI, TI, TF2, EXF2}
use Rattle.machine.specs.Flags.{flags_of, rose, any_rises, risen as rises}

-- bit k rises
abbrev up : ℕ → ℕ → ℕ → Bool
up k before after = rose (bit k before) (bit k after)

-- what rises in a byte
abbrev risen : ℕ → ℕ → ℕ
risen before after = bit_and (255 - before) after

-- the bits of a complement, 255 - x
differs : ℕ → ℕ → Bool
differs k x = eqb (bit k (255 - x)) (1 - bit k x)

every : ℕ → Bool
every k = all (differs k) 256

bit_not : (k x : ℕ) → k < 8 → x < 256 → bit k (255 - x) ≡ 1 - bit k x
unfolding differs every
bit_not k x h l = eqb→eq (bit k (255 - x)) (1 - bit k x) (at (differs k) 256 (at every 8 tt k h) x l)

up_bits : (x y : ℕ) → x < 2 → y < 2 → eqb (min (1 - x) y) 1 ≡ (eqb x 0 && eqb y 1)
up_bits zero zero f g = refl
up_bits zero (suc zero) f g = refl
up_bits zero (suc (suc y)) f g = absurd (omega arith)
up_bits (suc zero) zero f g = refl
up_bits (suc zero) (suc zero) f g = refl
up_bits (suc zero) (suc (suc y)) f g = absurd (omega arith)
up_bits (suc (suc x)) y f g = absurd (omega arith)

risen_bit : (k before after : ℕ) → k < 8 → before < 256 → eqb (bit k (risen before after)) 1 ≡ up k before after
risen_bit k before after h l =
    ap (λ (n : ℕ). eqb n 1) (bit_and_lem k (255 - before) after ∙ ap (λ (n : ℕ). min n (bit k after)) (bit_not k before h l))
    ∙ up_bits (bit k before) (bit k after) (bit_below k before) (bit_below k after)

-- the masks of the flags in TCON, SCON and T2CON
same : Bool → Bool → Bool
same true b = b
same false b = not b

same_is : (a b : Bool) → T (same a b) → a ≡ b
unfolding same
same_is true true t = refl
same_is true false t = absurd t
same_is false true t = absurd t
same_is false false t = refl

in_tcon : ℕ → Bool
in_tcon z =
    same (not (eqb (bit_and z 0xaa) 0))
    (eqb (bit TF0 z) 1 || (eqb (bit TF1 z) 1 || (eqb (bit IE0 z) 1 || eqb (bit IE1 z) 1)))

in_scon : ℕ → Bool
in_scon z = same (not (eqb (bit_and z 0x03) 0)) (eqb (bit RI z) 1 || eqb (bit TI z) 1)

in_t2con : ℕ → Bool
in_t2con z = same (not (eqb (bit_and z 0xc0) 0)) (eqb (bit TF2 z) 1 || eqb (bit EXF2 z) 1)

module _ (before after : ℕ) (byte : before ≤ 255) where
  f : before < 256
  f = omega arith

  below : risen before after < 256
  below = omega (arith, and_le_l (255 - before) after)

  pub tcon_rises : not (eqb (bit_and (risen before after) 0xaa) 0)
      ≡ (up TF0 before after || (up TF1 before after || (up IE0 before after || up IE1 before after)))
  unfolding in_tcon same
  tcon_rises =
      same_is _ _ (at in_tcon 256 tt (risen before after) below)
      ∙ (λ i.
      risen_bit TF0 before after (lit< tt) f i
      || (risen_bit TF1 before after (lit< tt) f i
      || (risen_bit IE0 before after (lit< tt) f i || risen_bit IE1 before after (lit< tt) f i)))

  pub scon_rises : not (eqb (bit_and (risen before after) 0x03) 0) ≡ (up RI before after || up TI before after)
  unfolding in_scon same
  scon_rises =
      same_is _ _ (at in_scon 256 tt (risen before after) below)
      ∙ (λ i. risen_bit RI before after (lit< tt) f i || risen_bit TI before after (lit< tt) f i)

  pub t2con_rises : not (eqb (bit_and (risen before after) 0xc0) 0) ≡ (up TF2 before after || up EXF2 before after)
  unfolding in_t2con same
  t2con_rises =
      same_is _ _ (at in_t2con 256 tt (risen before after) below)
      ∙ (λ i. risen_bit TF2 before after (lit< tt) f i || risen_bit EXF2 before after (lit< tt) f i)

-- the eight tests, in the definition's order
in_order : (a b c d e f g h : Bool)
    → (((a || (b || (c || d))) || (e || f)) || (g || h)) ≡ (a || (b || (c || (d || (e || (f || (g || (h || false))))))))
in_order true b c d e f g h = refl
in_order false true c d e f g h = refl
in_order false false true d e f g h = refl
in_order false false false true e f g h = refl
in_order false false false false true f g h = refl
in_order false false false false false true g h = refl
in_order false false false false false false true h = refl
in_order false false false false false false false h = sym (or-false h)

-- TCON, SCON and T2CON before and after, as masks and as the definition has them
module _ (tcon0 scon0 t2con0 tcon1 scon1 t2con1 : ℕ) where
  abbrev tcon : ℕ → Bool
  tcon k = rose (bit k tcon0) (bit k tcon1)

  abbrev scon : ℕ → Bool
  scon k = rose (bit k scon0) (bit k scon1)

  abbrev t2con : ℕ → Bool
  t2con k = rose (bit k t2con0) (bit k t2con1)

  pub flags_rise :
      (((tcon TF0 || (tcon TF1 || (tcon IE0 || tcon IE1))) || (scon RI || scon TI)) || (t2con TF2 || t2con EXF2))
      ≡ any_rises (flags_of tcon0 scon0 t2con0) (flags_of tcon1 scon1 t2con1)
  unfolding any_rises rises
  flags_rise = in_order (tcon TF0) (tcon TF1) (tcon IE0) (tcon IE1) (scon RI) (scon TI) (t2con TF2) (t2con EXF2)
