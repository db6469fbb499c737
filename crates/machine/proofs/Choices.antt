-- A choice by a test: what a function makes of it, and what holds of it. Tests joined by `and`, `or` and `not`, taken
-- apart and put together.
use mathlib.Core.Path.{◌≡◌, refl, sym, ◌∙◌}
use mathlib.Core.Bool.{Bool, true, false, cond, ◌&&◌, ◌||◌, not, and-true, and_assoc}
use mathlib.Core.List.{List, [], ◌∷◌, ◌++◌}
use Prim.Native.Nat.{ℕ, suc}
use native.Mathlib.Omega.{arith}
use lib.Dec.{eqb}
use lib.ListN.{take, drop}
use borrow.Author.Tests.{eqb-true, not-false}

-- a choice has what both have
pub chosen : {A : Type 0} (P : A → Type 0) (b : Bool) (x y : A) → P x → P y → P (cond b x y)
chosen P true x y p q = p
chosen P false x y p q = q

-- and what the one that is chosen has
pub cond_has : {A : Type 0} (P : A → Type 0) (b : Bool) (x y : A) → (b ≡ true → P x) → (b ≡ false → P y) → P (cond b x y)
cond_has P true x y p q = p refl
cond_has P false x y p q = q refl

pub cond_ap : {A B : Type 0} (f : A → B) (b : Bool) (x y : A) → f (cond b x y) ≡ cond b (f x) (f y)
cond_ap f true x y = refl
cond_ap f false x y = refl

pub cond_same : {A : Type 0} (b : Bool) (x : A) → cond b x x ≡ x
cond_same true x = refl
cond_same false x = refl

pub by_test : {P : Type 0} (b : Bool) → (b ≡ true → P) → (b ≡ false → P) → P
by_test true p q = p refl
by_test false p q = q refl

-- no test is both true and false
pub clash : {b : Bool} → b ≡ true → b ≡ false → ⊥
clash p q = let z : ◌≡◌ {A = ℕ} 0 1 = cc in omega arith

pub and_left : (a b : Bool) → (a && b) ≡ true → a ≡ true
and_left true b e = refl
and_left false b e = e

pub and_right : (a b : Bool) → (a && b) ≡ true → b ≡ true
and_right true b e = e
and_right false b e = absurd (clash e refl)

pub and_both : (a b : Bool) → a ≡ true → b ≡ true → (a && b) ≡ true
and_both a b p q = simp (p, q)

-- both tests, and four of them
pub and_two : (a b : Bool) → (a && b) ≡ true → (a ≡ true) × (b ≡ true)
and_two a b e = (and_left a b e, and_right a b e)

pub and_four : (a b c d : Bool) → ((a && b) && (c && d)) ≡ true → ((a ≡ true) × (b ≡ true)) × ((c ≡ true) × (d ≡ true))
and_four a b c d e = (and_two a b (and_left (a && b) (c && d) e), and_two c d (and_right (a && b) (c && d) e))

pub or_left : (a b : Bool) → (a || b) ≡ false → a ≡ false
or_left true b e = e
or_left false b e = refl

pub or_right : (a b : Bool) → (a || b) ≡ false → b ≡ false
or_right true b e = absurd (clash refl e)
or_right false b e = e

pub or_neither : (a b : Bool) → a ≡ false → b ≡ false → (a || b) ≡ false
or_neither a b p q = simp (p, q)

-- a number that differs from 0 in no test is 0
pub not_differs : (n : ℕ) → not (eqb n 0) ≡ false → n ≡ 0
not_differs n e = eqb-true n 0 (not-false (eqb n 0) e)

-- A row of tests, by induction on it

-- from the left, as the code joins them
abbrev leftly : Bool → List Bool → Bool
leftly b [] = b
leftly b (x ∷ xs) = leftly (b && x) xs

-- from the right, as the definitions do
abbrev rightly : List Bool → Bool
rightly [] = true
rightly (x ∷ xs) = x && rightly xs

pub joined : (b : Bool) (xs : List Bool) → leftly b xs ≡ (b && rightly xs)
joined b [] = sym (and-true b)
joined b (x ∷ xs) = joined (b && x) xs ∙ and_assoc b x (rightly xs)

-- a row without its k-th element
abbrev pub without : {A : Type 0} → ℕ → List A → List A
without k xs = take k xs ++ drop (suc k) xs
