-- The flag times, eight pairs tested at once: an or of numbers is below a power of two where each of them is, so that no ever is above 1
-- and beside no never stands a number exactly where each pair is in its range. By induction on the pairs.
use mathlib.Core.Path.{◌≡◌, refl, sym, ap, ◌∙◌}
use mathlib.Core.Bool.{Bool, true, false, cond, ◌&&◌, and-true, and_assoc}
use mathlib.Core.List.{List, [], ◌∷◌}
use Prim.Native.Nat.{ℕ, zero, suc, ◌-◌, ◌^◌, ◌<◌}
use native.Mathlib.Omega.{arith}
use lib.Dec.{eqb, leb, ltb}
use lib.ListN.{length}
use mir.Syntax.{w64}
use mir.Val.{Fits}
use lib.Bits.{bit_or, or_lt, or_add_and, and_le_l, and_le_r}
use borrow.Author.Tests.{ltb-true, ltb-false, lt-ltb, le-ltb, le-leb, lt-leb, ne_eqb}
use Rattle.machine.specs.Times.{pair_ok, pairs_ok}

-- an or is as large as each of the two
or_below : (k a b : ℕ) → ltb (bit_or a b) (2 ^ k) ≡ (ltb a (2 ^ k) && ltb b (2 ^ k))
or_below k a b = go (ltb a (2 ^ k)) (ltb b (2 ^ k)) refl refl
  where
    go : (p q : Bool) → ltb a (2 ^ k) ≡ p → ltb b (2 ^ k) ≡ q → ltb (bit_or a b) (2 ^ k) ≡ (p && q)
    go true true f g = lt-ltb _ _ (or_lt k a b (ltb-true a (2 ^ k) f) (ltb-true b (2 ^ k) g))
    go true false f g = le-ltb (bit_or a b) (2 ^ k) (omega (arith, ltb-false b (2 ^ k) g, or_add_and a b, and_le_l a b))
    go false q f g = le-ltb (bit_or a b) (2 ^ k) (omega (arith, ltb-false a (2 ^ k) f, or_add_and a b, and_le_r a b))

-- the code's tests
most_1 : (n : ℕ) → leb n 1 ≡ ltb n (2 ^ 1)
most_1 n = go (ltb n 2) refl
  where
    go : (p : Bool) → ltb n 2 ≡ p → leb n 1 ≡ p
    go true f = le-leb n 1 (omega (arith, ltb-true n 2 f))
    go false f = lt-leb n 1 (omega (arith, ltb-false n 2 f))

is_0 : (n : ℕ) → eqb n 0 ≡ ltb n (2 ^ 0)
is_0 zero = refl
is_0 (suc n) = ne_eqb (suc n) 0 (λ e. omega arith) ∙ sym (le-ltb (suc n) 1 (omega arith))

-- a row of numbers joined from the left, as the code joins them
abbrev pub ored : ℕ → List ℕ → ℕ
ored x [] = x
ored x (y ∷ ys) = ored (bit_or x y) ys

abbrev below : ℕ → List ℕ → Bool
below k [] = true
below k (x ∷ xs) = ltb x (2 ^ k) && below k xs

ored_below : (k x : ℕ) (ys : List ℕ) → ltb (ored x ys) (2 ^ k) ≡ below k (x ∷ ys)
ored_below k x [] = sym (and-true (ltb x (2 ^ k)))
ored_below k x (y ∷ ys) =
    ored_below k (bit_or x y) ys ∙ ap (λ (b : Bool). b && below k ys) (or_below k x y) ∙ and_assoc (ltb x (2 ^ k)) (ltb y (2 ^ k)) (below k ys)

-- what each pair holds beside a never
abbrev beside : ℕ → ℕ → ℕ
beside ever number = cond (eqb ever 0) number 0

abbrev pub besides : List ℕ → List ℕ → List ℕ
besides [] ns = []
besides (e ∷ es) [] = []
besides (e ∷ es) (n ∷ ns) = beside e n ∷ besides es ns

-- the numbers are of 64 bits
abbrev pub Wide : List ℕ → Type 0
Wide [] = Unit
Wide (n ∷ ns) = Fits w64 n × Wide ns

one_pair : (e n : ℕ) → n < 2 ^ 64 → (ltb e 2 && ltb (beside e n) 1) ≡ pair_ok e n
one_pair zero n h = sym (is_0 n)
one_pair (suc zero) n h = rw (le-leb n (2 ^ 64 - 1) (omega arith))
one_pair (suc (suc e)) n h =
    rw (le-ltb (suc (suc e)) 2 (omega arith), ne_eqb (suc (suc e)) 1 (λ f. omega arith), ne_eqb (suc (suc e)) 0 (λ f. omega arith))

crosswise : (a b c d : Bool) → ((a && b) && (c && d)) ≡ ((a && c) && (b && d))
crosswise true true c d = refl
crosswise true false true d = refl
crosswise true false false d = refl
crosswise false b c d = refl

each_pair : (es ns : List ℕ) → length es ≡ length ns → Wide ns → (below 1 es && below 0 (besides es ns)) ≡ pairs_ok es ns
unfolding pairs_ok
each_pair [] [] e w = refl
each_pair [] (n ∷ ns) e w = absurd (omega arith)
each_pair (e ∷ es) [] f w = absurd (omega arith)
each_pair (e ∷ es) (n ∷ ns) f w =
    crosswise (ltb e 2) (below 1 es) (ltb (beside e n) 1) (below 0 (besides es ns))
    ∙ (λ i. one_pair e n w.0.fits i && each_pair es ns (omega arith) w.1 i)

-- the two tests of the code
pub pairs_tested : (e n : ℕ) (es ns : List ℕ) → length es ≡ length ns → Wide (n ∷ ns)
    → (leb (ored e es) 1 && eqb (ored (beside e n) (besides es ns)) 0) ≡ pairs_ok (e ∷ es) (n ∷ ns)
pairs_tested e n es ns f w =
    (λ i. (most_1 (ored e es) ∙ ored_below 1 e es) i && (is_0 (ored (beside e n) (besides es ns)) ∙ ored_below 0 (beside e n) (besides es ns)) i)
    ∙ each_pair (e ∷ es) (n ∷ ns) (omega arith) w
