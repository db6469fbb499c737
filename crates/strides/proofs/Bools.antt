-- Lists of numbers that are the same by a test.
use mathlib.Core.Path.{◌≡◌, refl, sym}
use mathlib.Core.Bool.{true}
use mathlib.Core.List.{List, [], ◌∷◌}
use Prim.Native.Nat.{ℕ}
use lib.Dec.{eqb}
use borrow.Author.Tests.{eq-eqb, eqb-true}
use Rattle.machine.proofs.Choices.{clash, and_left, and_right, and_both}
use Rattle.machine.specs.Same.{same}

-- lists that are the same are equal
pub same_equal : (xs ys : List ℕ) → same xs ys ≡ true → xs ≡ ys
unfolding same
same_equal [] [] e = refl
same_equal [] (y ∷ ys) e = absurd (clash refl (sym e))
same_equal (x ∷ xs) [] e = absurd (clash refl (sym e))
same_equal (x ∷ xs) (y ∷ ys) e =
    let p = eqb-true x y (and_left (eqb x y) (same xs ys) e) in
    let q = same_equal xs ys (and_right (eqb x y) (same xs ys) e) in
    λ i. p i ∷ q i

pub same_self : (xs : List ℕ) → same xs xs ≡ true
unfolding same
same_self [] = refl
same_self (x ∷ xs) = and_both (eqb x x) (same xs xs) (eq-eqb x x refl) (same_self xs)
