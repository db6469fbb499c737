-- An array is the list of its elements. By induction on the list.
use mathlib.Core.Path.{◌≡◌, refl, ap, ◌∙◌}
use mathlib.Core.List.{List, [], ◌∷◌}
use Prim.Native.Nat.{ℕ, zero, suc}
use native.Mathlib.Omega.{arith}
use lib.ListN.{length, get_or}

-- n elements from the i-th on; x stands past the end
abbrev pub elements : {A : Type 0} → A → ℕ → ℕ → List A → List A
elements x zero i l = []
elements x (suc n) i l = get_or l i x ∷ elements x n (suc i) l

shifted : {A : Type 0} (x : A) (n i : ℕ) (a : A) (l : List A) → elements x n (suc i) (a ∷ l) ≡ elements x n i l
shifted x zero i a l = refl
shifted {A} x (suc n) i a l = ap (λ (m : List A). get_or l i x ∷ m) (shifted x n (suc i) a l)

pub whole : {A : Type 0} (x : A) (n : ℕ) (l : List A) → length l ≡ n → elements x n 0 l ≡ l
whole x zero [] e = refl
whole x zero (a ∷ l) e = absurd (omega arith)
whole x (suc n) [] e = absurd (omega arith)
whole {A} x (suc n) (a ∷ l) e = ap (λ (m : List A). a ∷ m) (shifted x n 0 a l ∙ whole x n l (omega arith))
